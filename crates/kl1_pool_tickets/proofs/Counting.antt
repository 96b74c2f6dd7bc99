-- Numbers of accounts, of which one grows.
use Rattle.std.proofs.Common.{◌≡◌, ℕ, ◌+◌, ◌<◌, ◌≤◌, List, length, slice_index, refl, sym, ◌∙◌, subst, inl, inr, arith, get_or-set_same, get_or-set_other}
use Rattle.std.specs.Prelude.{Result, Ok, Err, IfOk}
use Rattle.kl1_tally.specs.Seats.{raised_at}
use Rattle.std.proofs.lemmas.Bool.{cases_eq}
use Rattle.kl1_pool_tickets.specs.Counts.{Counts, IsMoreAt, Moved, Worked, WorkedAt}

-- one more at one place
pub raised_more : (ns : List ℕ) (k n : ℕ) → k < length ns → IsMoreAt k n ns (raised_at ns k n)
raised_more ns k n below = record { here = get_or-set_same ns k (slice_index ns k + n) 0 below; others = λ j b d. get_or-set_other ns k j (slice_index ns k + n) 0 d }

-- nothing more
pub same_more : (ns : List ℕ) (k : ℕ) → IsMoreAt k 0 ns ns
same_more ns k = record { here = omega arith; others = λ j b d. refl }

-- more twice
pub more_more : (k a b : ℕ) (xs ys zs : List ℕ) → IsMoreAt k a xs ys → IsMoreAt k b ys zs → IsMoreAt k (a + b) xs zs
more_more k a b xs ys zs p q = record { here = (let x = p.here in let y = q.here in omega arith); others = λ j w d. q.others j w d ∙ p.others j w d }

-- moved twice
pub moved_moved : (k a b c d e s p t : ℕ) (x y z : Counts) → Moved k a b c d x y → Moved k e s p t y z → Moved k (a + e) (b + s) (c + p) (d + t) x z
moved_moved k a b c d e s p t x y z m n = record {
  events = more_more k a e x.events y.events z.events m.events n.events;
  steps = more_more k b s x.steps y.steps z.steps m.steps n.steps;
  puts = more_more k c p x.puts y.puts z.puts m.puts n.puts;
  takes = more_more k d t x.takes y.takes z.takes m.takes n.takes;
}

-- not moved
pub not_moved : (k : ℕ) (x : Counts) → Moved k 0 0 0 0 x x
not_moved k x = record { events = same_more x.events k; steps = same_more x.steps k; puts = same_more x.puts k; takes = same_more x.takes k }

-- a ticket taken, a turn, and at most one ticket put
pub worked_turn : (a n p : ℕ) (x y : Counts) → n ≤ 64 → p ≤ 1 → Moved a n n p 1 x y → Worked x y
worked_turn a n p x y few one m k b = elim (cases_eq k a) [
  | inl is ↦ subst (λ j. WorkedAt j x y) (sym is) (record {
    takes = (let t = m.takes.here in omega arith);
    puts = (let t = m.puts.here in omega arith);
    puts_few = (let t = m.takes.here in let q = m.puts.here in omega arith);
    steps = (let t = m.steps.here in omega arith);
    steps_few = (let t = m.takes.here in let q = m.steps.here in omega arith);
    alike = (let t = m.events.here in let q = m.steps.here in omega arith);
  })
  | inr not ↦ record {
    takes = (let t = m.takes.others k b not in omega arith);
    puts = (let t = m.puts.others k b not in omega arith);
    puts_few = (let t = m.takes.others k b not in let q = m.puts.others k b not in omega arith);
    steps = (let t = m.steps.others k b not in omega arith);
    steps_few = (let t = m.takes.others k b not in let q = m.steps.others k b not in omega arith);
    alike = (let t = m.events.others k b not in let q = m.steps.others k b not in omega arith);
  }
]

-- nothing was done
pub not_worked : (x : Counts) → Worked x x
not_worked x k b = record { takes = omega arith; puts = omega arith; puts_few = omega arith; steps = omega arith; steps_few = omega arith; alike = omega arith }

-- worked twice
pub worked_worked : (x y z : Counts) → Worked x y → Worked y z → Worked x z
worked_worked x y z p q k b =
    let m = p k b in
    let n = q k b in
    record {
      takes = (let s = m.takes in let t = n.takes in omega arith);
      puts = (let s = m.puts in let t = n.puts in omega arith);
      puts_few = (let s = m.puts_few in let t = n.puts_few in omega arith);
      steps = (let s = m.steps in let t = n.steps in omega arith);
      steps_few = (let s = m.steps_few in let t = n.steps_few in omega arith);
      alike = (let s = m.alike in let t = n.alike in omega arith);
    }

-- the same more
pub more_by : (k a b : ℕ) (xs ys : List ℕ) → a ≡ b → IsMoreAt k a xs ys → IsMoreAt k b xs ys
more_by k a b xs ys is m = subst (λ (n : ℕ). IsMoreAt k n xs ys) is m

-- what follows of an answer
pub if_ok : {T E : Type 0} (r : Result T E) (P Q : T → Type 0) → ((x : T) → P x → Q x) → IfOk r P → IfOk r Q
if_ok (Ok x) P Q f p = f x p
if_ok (Err e) P Q f p = p
