-- What is counted in books and shares grows, and grows again.
use Rattle.std.proofs.Common.{◌≡◌, ℕ, ◌+◌, ◌-◌, ◌^◌, false, Some, ap, ◌∙◌, subst, refl, arith}
use Rattle.kl1_tally.specs.Seats.{Book}
use Rattle.kl1_pool_tickets.specs.Counts.{Counts, Moved}
use Rattle.kl1_pool_tickets.proofs.Counting.{moved_moved, not_moved}
use Rattle.kl1_command.specs.Told.{Told, told_steps}
use Rattle.kl1_command.specs.Room.{less}
use Rattle.kl1_pool.specs.Counted.{with_more, room_in, past_after}
use Rattle.kl1_pool.specs.PoolAccounts.{PoolAccountValue, HasCounted}
use Rattle.kl1_pool.specs.Restoring.{told_sum}

-- a share that grows by steps of an account, and by more of them
counted_on : (k j n m t : ℕ) (x y z : Counts) → Moved k n n 0 0 x y → Moved j m m 0 0 y z → j ≡ k → n + m ≡ t → Moved k t t 0 0 x z
counted_on k j n m t x y z a b same sum =
    subst (λ i. Moved k i i 0 0 x z) sum (moved_moved k n n 0 0 m m 0 0 x y z a (subst (λ i. Moved i m m 0 0 y z) same b))

-- a book that grows by steps, and by more of them
grown_on : (a b c : Book) (n m t : ℕ) → b ≡ with_more a n n → c ≡ with_more b m m → n + m ≡ t → c ≡ with_more a t t
grown_on a b c n m t first second sum =
    let e : a.events + n + m ≡ a.events + t = omega (arith, sum) in
    let s : a.steps + n + m ≡ a.steps + t = omega (arith, sum) in
    second ∙ ap (λ (x : Book). with_more x m m) first
    ∙ ap (λ (i : ℕ). let z : Book = record { tally = a.tally; account = a.account; events = i; steps = a.steps + n + m } in z) e
    ∙ ap (λ (i : ℕ). let z : Book = record { tally = a.tally; account = a.account; events = a.events + t; steps = i } in z) s

-- a book that grows twice
grown_twice : (a : Book) (e n f m : ℕ) → with_more (with_more a e n) f m ≡ with_more a (e + f) (n + m)
grown_twice a e n f m =
    let x : a.events + e + f ≡ a.events + (e + f) = omega arith in
    let y : a.steps + n + m ≡ a.steps + (n + m) = omega arith in
    ap (λ (i : ℕ). let z : Book = record { tally = a.tally; account = a.account; events = i; steps = a.steps + n + m } in z) x
    ∙ ap (λ (i : ℕ). let z : Book = record { tally = a.tally; account = a.account; events = a.events + (e + f); steps = i } in z) y

-- a book that doesn't grow
not_grown : (a : Book) → a ≡ with_more a 0 0
not_grown a =
    let e : a.events ≡ a.events + 0 = omega arith in
    let s : a.steps ≡ a.steps + 0 = omega arith in
    ap (λ (i : ℕ). let z : Book = record { tally = a.tally; account = a.account; events = i; steps = a.steps } in z) e
    ∙ ap (λ (i : ℕ). let z : Book = record { tally = a.tally; account = a.account; events = a.events + 0; steps = i } in z) s

-- nothing is counted at once
pub counted_none : (a : PoolAccountValue) (s : Counts) → HasCounted a s (told_steps 0) a s
counted_none a s = record { book = not_grown a.book; past = refl; moved = not_moved a.book.account s }

-- steps and then more steps are counted as all of them
pub counted_more : (a b c : PoolAccountValue) (x y z : Counts) (n m : ℕ) → HasCounted a x (told_steps n) b y → HasCounted b y (told_steps m) c z → HasCounted a x (told_steps (n + m)) c z
counted_more a b c x y z n m first then = record {
  book = grown_on a.book b.book c.book n m (n + m) first.book then.book refl;
  past = then.past ∙ first.past;
  moved = counted_on a.book.account b.book.account n m (n + m) x y z first.moved then.moved (ap (λ (k : Book). k.account) first.book) refl;
}

-- what is counted and then more are counted as all of it, if no journal was ended
pub counted_sum : (a b c : PoolAccountValue) (x y z : Counts) (t u : Told) → t.is_reset ≡ false → u.is_reset ≡ false → HasCounted a x t b y → HasCounted b y u c z → HasCounted a x (told_sum t u) c z
counted_sum a b c x y z t u first_no then_no first then =
    let account : b.book.account ≡ a.book.account = ap (λ (k : Book). k.account) first.book in
    let moved : Moved a.book.account u.events u.steps 0 0 y z = subst (λ i. Moved i u.events u.steps 0 0 y z) account then.moved in
    record {
      book = then.book ∙ ap (λ (k : Book). with_more k u.events u.steps) first.book ∙ grown_twice a.book t.events t.steps u.events u.steps;
      past = then.past ∙ ap (λ r. past_after r b.past b.held.1) then_no ∙ first.past ∙ ap (λ r. past_after r a.past a.held.1) first_no;
      moved = moved_moved a.book.account t.events t.steps 0 0 u.events u.steps 0 0 x y z first.moved moved;
    }

-- each event that is counted takes room
pub counted_room : (a b : PoolAccountValue) (x y : Counts) (told : Told) → HasCounted a x told b y → Some (room_in b.book) ≡ less (Some (room_in a.book)) told.events
counted_room a b x y told h =
    let more : b.book.events ≡ a.book.events + told.events = ap (λ (k : Book). k.events) h.book in
    let left : 2 ^ 63 - b.book.events ≡ 2 ^ 63 - a.book.events - told.events = omega (arith, more) in
    ap (λ (n : ℕ). Some n) left
