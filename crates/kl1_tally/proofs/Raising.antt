-- A book and a share, joined, counted up and parted.
use Rattle.std.proofs.Common.{◌≡◌, ◌≢◌, ℕ, zero, suc, ◌+◌, ◌<◌, ◌≤◌, Bool, true, false, cond, List, [], ◌∷◌, ◌++◌, length, slice_index, slice_set, refl, sym, ap, ◌∙◌, subst, inl, inr, arith}
use Rattle.std.specs.Prelude.{sum_by}
use Rattle.std.proofs.lemmas.Bool.{cases_eq}
use Rattle.std.proofs.lemmas.List.Sums.{sum_by-append, sum_by-cons, sum_by_push}
use Rattle.kl1_tally.specs.declared.view.Mark.{Mark}
use Rattle.kl1_tally.specs.declared.view.View.{View}
use Rattle.kl1_tally.specs.Numbers.{same, times}
use Rattle.kl1_tally.specs.Marks.{event_of, step_of, events_at, steps_at}
use mir.Val.{bool_byte}
use Rattle.kl1_tally.specs.Views.{view_of, other_part, joint_view, CanPart}
use Rattle.kl1_tally.specs.Plays.{raised, IsBounded}
use Rattle.kl1_tally.specs.Seats.{raised_at}
use Rattle.kl1_tally.specs.Keeping.{view_in, IsBook, IsShare}
use Rattle.kl1_tally.proofs.Numbers.{same_here, same_else}

-- a mark is a step no more often than an event
step_le : (k : ℕ) (m : Mark) (b : Bool) → m.step ≡ b → step_of k m ≤ event_of k m
step_le k m true e = rw e (let h : same k m.account ≤ same k m.account = omega arith in h)
step_le k m false e = rw e (omega arith)

-- of an account there are no more steps than events
pub steps_le : (k : ℕ) (ms : List Mark) → steps_at k ms ≤ events_at k ms
steps_le k [] = omega arith
steps_le k (m ∷ ms) = omega (arith, sum_by-cons (step_of k) m ms, sum_by-cons (event_of k) m ms, step_le k m m.step refl, steps_le k ms)

-- a book and a share, made one
abbrev pub joined : ℕ → List Mark → List Mark → View
joined a book amount = joint_view (view_of 1 (a ∷ []) book []) (view_of 1 [] [] amount)

-- one account's row
one_times : (k a : ℕ) → times k (a ∷ []) ≡ same k a
one_times k a = omega (arith, sum_by-cons (same k) a [])

-- counted up they may be parted
pub can_part_raised : (a : ℕ) (book amount : List Mark) (up : Bool) → ((k : ℕ) → k ≢ a → events_at k book ≡ 0) → CanPart (raised (joined a book amount) up)
can_part_raised a book amount up own = record {
  some = omega arith;
  own = λ k z.
      let t = one_times k a in
      let d : k ≢ a = (λ e. let h = same_here k a (sym e) in absurd (omega arith)) in
      let o = own k d in
      let b : sum_by (event_of k) (book ++ []) ≡ sum_by (event_of k) book + 0 = sum_by-append (event_of k) book [] in
      let m = same_else k a (λ e. d (sym e)) in
      omega (arith, sum_by_push (event_of k) (book ++ []) record { account = a; step = up });
  last = λ z. absurd (omega arith);
}

-- what a list of numbers has at a place that was written, and at another
pub set_at : (ns : List ℕ) (k n : ℕ) → k < length ns → slice_index (slice_set ns k n) k ≡ n
set_at [] k n below = absurd (omega arith)
set_at (x ∷ ns) zero n below = refl
set_at (x ∷ ns) (suc k) n below = set_at ns k n (omega arith)

pub set_else : (ns : List ℕ) (a k n : ℕ) → k ≢ a → slice_index (slice_set ns a n) k ≡ slice_index ns k
set_else [] a k n d = refl
set_else (x ∷ ns) zero zero n d = absurd (d refl)
set_else (x ∷ ns) zero (suc k) n d = refl
set_else (x ∷ ns) (suc a) zero n d = refl
set_else (x ∷ ns) (suc a) (suc k) n d = set_else ns a k n (λ e. d (ap suc e))

pub set_length : (ns : List ℕ) (a n : ℕ) → length (slice_set ns a n) ≡ length ns
set_length [] a n = refl
set_length (x ∷ ns) zero n = refl
set_length (x ∷ ns) (suc a) n = ap suc (set_length ns a n)

-- a mark of an account, weighed for it and for another
step_weight_here : (a : ℕ) (up : Bool) → step_of a record { account = a; step = up } ≡ cond up 1 0
step_weight_here a true = same_here a a refl
step_weight_here a false = refl

step_weight_else : (k a : ℕ) (up : Bool) → a ≢ k → step_of k record { account = a; step = up } ≡ 0
step_weight_else k a true d = same_else k a d
step_weight_else k a false d = refl

-- numbers that tell how much some marks weigh for each account still do so with one mark more
module _ (h : ℕ → Mark → ℕ) (ns : List ℕ) (marks : List Mark) (m : Mark) (a more : ℕ) (tells : (k : ℕ) → k < length ns → slice_index ns k ≡ sum_by (h k) marks) (here : h a m ≡ more) (else : (k : ℕ) → k ≢ a → h k m ≡ 0) where
  pub tells_more : (k : ℕ) → k < length (raised_at ns a more) → slice_index (raised_at ns a more) k ≡ sum_by (h k) (marks ++ m ∷ [])
  tells_more k below =
      let n = set_length ns a (slice_index ns a + more) in
      let t = tells k (omega arith) in
      let p = sum_by_push (h k) marks m in
      elim (cases_eq k a) [
        | inl is ↦ rw is (let t = tells a (omega arith) in let p = sum_by_push (h a) marks m in omega (arith, set_at ns a (slice_index ns a + more) (omega arith), here))
        | inr not ↦ omega (arith, set_else ns a k (slice_index ns a + more) not, else k not)
      ]

-- a share with one event more
pub share_raised : (old new : List View) (a : ℕ) (up : Bool) (events steps : List ℕ) → IsShare old events steps
    → new ≡ view_of 1 [] [] ((view_in old).amount ++ record { account = a; step = up } ∷ []) ∷ [] → IsShare new (raised_at events a 1) (raised_at steps a (cond up 1 0))
share_raised old new a up events steps was is =
    let m : Mark = record { account = a; step = up } in
    let amount : (view_in new).amount ≡ (view_in old).amount ++ m ∷ [] = ap (λ vs. (view_in vs).amount) is in
    record {
      rests = is ∙ ap (λ ms. view_of 1 [] [] ms ∷ []) (sym amount);
      events_are = rw amount (tells_more event_of events (view_in old).amount m a 1 was.events_are (same_here a a refl) (λ k d. same_else k a (λ e. d (sym e))));
      steps_are = rw amount (tells_more step_of steps (view_in old).amount m a (cond up 1 0) was.steps_are (step_weight_here a up) (λ k d. step_weight_else k a up (λ e. d (sym e))));
    }

-- a share has no more steps of an account than its book has events
pub steps_below : (books shares : List View) (joint : View) (a e s : ℕ) (events steps : List ℕ) → IsBook books a e s → IsShare shares events steps
    → joint ≡ joint_view (view_in books) (view_in shares) → IsBounded joint → a < length steps → slice_index steps a ≤ e
steps_below books shares joint a e s events steps book share is bound below =
    let b : view_in books ≡ view_of 1 (a ∷ []) (view_in books).book [] = ap view_in book.rests in
    let v : view_in shares ≡ view_of 1 [] [] (view_in shares).amount = ap view_in share.rests in
    let j : joint ≡ joined a (view_in books).book (view_in shares).amount = is ∙ ap (λ u. joint_view u (view_in shares)) b ∙ ap (λ u. joint_view (view_of 1 (a ∷ []) (view_in books).book []) u) v in
    let o : IsBounded (joined a (view_in books).book (view_in shares).amount) = subst IsBounded j bound in
    omega (arith, share.steps_are a below, steps_le a (view_in shares).amount, book.events_are, sum_by-append (event_of a) (view_in books).book [])

-- a book has no more steps than events
pub book_steps : (views : List View) (a e s : ℕ) → IsBook views a e s → s ≤ e
book_steps views a e s book = let p = book.events_are in let q = book.steps_are in omega (arith, steps_le a (view_in views).book)

-- a truth value as a number
pub byte_le : (b : Bool) → bool_byte b ≤ 1
byte_le true = omega arith
byte_le false = omega arith

-- the share that is parted off, counted up
pub parted_share : (books shares : List View) (a e s : ℕ) (events steps : List ℕ) (up : Bool) → IsBook books a e s → IsShare shares events steps
    → other_part (raised (joint_view (view_in books) (view_in shares)) up) ≡ view_of 1 [] [] ((view_in shares).amount ++ record { account = a; step = up } ∷ [])
parted_share books shares a e s events steps up book share =
    let b : view_in books ≡ view_of 1 (a ∷ []) (view_in books).book [] = ap view_in book.rests in
    let v : view_in shares ≡ view_of 1 [] [] (view_in shares).amount = ap view_in share.rests in
    ap (λ u. other_part (raised (joint_view u (view_in shares)) up)) b ∙ ap (λ u. other_part (raised (joint_view (view_of 1 (a ∷ []) (view_in books).book []) u) up)) v
