-- All shares and all books, joined.
use Rattle.std.proofs.Common.{◌≡◌, ◌≢◌, ℕ, zero, suc, ◌+◌, ◌<◌, ◌≤◌, ◌==◌, cond, List, [], ◌∷◌, ◌++◌, length, Some, slice_get, slice_index, slice_set, replicate, refl, sym, ap, ◌∙◌, subst, inl, inr, arith, length-append, append-nil}
use Rattle.std.specs.Prelude.{sum_by}
use Rattle.std.proofs.lemmas.Bool.{cases_eq}
use Rattle.std.specs.Prelude.{All}
use Rattle.std.proofs.Math.ListN.{get_or-append}
use Rattle.std.proofs.lemmas.Bool.Decides.{nat_tests}
use Rattle.std.proofs.lemmas.List.Sums.{sum_by-append, sum_by-cons, sum_by_push}
use mathlib.Core.Option.{some}
use lib.ListN.{get_elem?}
use Rattle.atomic_table.specs.Table.{State}
use Rattle.kl1_tally.specs.declared.amounts.Amounts.{Amounts}
use Rattle.kl1_tally.specs.declared.amounts.TheConstants.{MOST_ACCOUNTS}
use Rattle.kl1_tally.specs.declared.view.Mark.{Mark}
use Rattle.kl1_tally.specs.declared.view.View.{View}
use Rattle.kl1_tally.specs.Numbers.{same, times}
use Rattle.kl1_tally.specs.Marks.{event_of, step_of, events_at, steps_at}
use Rattle.kl1_tally.specs.Views.{view_of, joint_view, spent_view}
use Rattle.kl1_tally.specs.Rule.{Even}
use Rattle.kl1_tally.specs.Seats.{Book, Share}
use Rattle.kl1_tally.specs.Keeping.{view_in, IsBook, IsShare}
use Rattle.kl1_tally.specs.Totals.{Settled, TookShares, TookBooks, events_in, steps_in}
use Rattle.kl1_tally.proofs.Sums.{member_le, alone}
use Rattle.kl1_tally.proofs.Numbers.{same_here, same_else, lt_or_le}
use Rattle.kl1_tally.proofs.Steps.{at_most_one}
use Rattle.kl1_tally.proofs.Raising.{steps_le, set_at, set_else, set_length}

-- one more share is joined
pub took_share : (all old left : List Share) (share : Share) (v w : View) (views : List View) → TookShares all old v → old ≡ left ++ share ∷ [] → IsShare views share.events share.steps
    → length share.events ≡ MOST_ACCOUNTS → length share.steps ≡ MOST_ACCOUNTS → w ≡ joint_view v (view_in views) → TookShares all left w
took_share all old left share v w views took is own events steps joint =
    let one : view_in views ≡ view_of 1 [] [] (view_in views).amount = ap view_in own.rests in
    let both : w ≡ joint_view v (view_of 1 [] [] (view_in views).amount) = joint ∙ ap (joint_view v) one in
    let amount : w.amount ≡ v.amount ++ (view_in views).amount = ap (λ (u : View). u.amount) both in
    record {
      parts = (let p : w.parts ≡ v.parts + 1 = ap (λ (u : View). u.parts) both in let t = took.parts in let n : length old ≡ length left + 1 = ap length is ∙ length-append left (share ∷ []) in omega arith);
      names = ap (λ (u : View). u.names) both ∙ ap (λ xs. xs ++ []) took.names;
      book = ap (λ (u : View). u.book) both ∙ ap (λ xs. xs ++ []) took.book;
      events = λ k below.
          let f : Share → ℕ = λ (s : Share). slice_index s.events k in
          let t = took.events k below in
          let a : events_at k w.amount ≡ events_at k v.amount + events_at k (view_in views).amount = ap (events_at k) amount ∙ sum_by-append (event_of k) v.amount (view_in views).amount in
          let e : slice_index share.events k ≡ events_at k (view_in views).amount = own.events_are k (omega arith) in
          let s : sum_by f old ≡ sum_by f left + slice_index share.events k = ap (sum_by f) is ∙ sum_by_push f left share in
          omega arith;
      steps = λ k below.
          let f : Share → ℕ = λ (s : Share). slice_index s.steps k in
          let t = took.steps k below in
          let a : steps_at k w.amount ≡ steps_at k v.amount + steps_at k (view_in views).amount = ap (steps_at k) amount ∙ sum_by-append (step_of k) v.amount (view_in views).amount in
          let e : slice_index share.steps k ≡ steps_at k (view_in views).amount = own.steps_are k (omega arith) in
          let s : sum_by f old ≡ sum_by f left + slice_index share.steps k = ap (sum_by f) is ∙ sum_by_push f left share in
          omega arith;
    }

-- a number that counts if two others are the same
in_here : (k a n : ℕ) → k ≡ a → cond (a == k) n 0 ≡ n
in_here k a n e = grind (arith, nat_tests)

in_else : (k a n : ℕ) → k ≢ a → cond (a == k) n 0 ≡ 0
in_else k a n d = grind (arith, nat_tests)

-- a book's marks tell, for each account, what the book has of it
module _ (views : List View) (book : Book) (own : IsBook views book.account book.events book.steps) where
  pub book_events : (k : ℕ) → events_at k (view_in views).book ≡ events_in k book
  book_events k = elim (cases_eq k book.account) [
    | inl is ↦ rw is (sym own.events_are) ∙ sym (in_here k book.account book.events is)
    | inr not ↦ own.own k not ∙ sym (in_else k book.account book.events not)
  ]

  pub book_steps_in : (k : ℕ) → steps_at k (view_in views).book ≡ steps_in k book
  book_steps_in k = elim (cases_eq k book.account) [
    | inl is ↦ rw is (sym own.steps_are) ∙ sym (in_here k book.account book.steps is)
    | inr not ↦ (let z = own.own k not in let l = steps_le k (view_in views).book in let e : steps_at k (view_in views).book ≡ 0 = omega arith in e) ∙ sym (in_else k book.account book.steps not)
  ]

-- one more book is joined, and what it tells is noted
module _ (all old left : List Book) (book : Book) (before v w : View) (views : List View) (es ss : List ℕ) (took : TookBooks all old before v es ss) (is : old ≡ left ++ book ∷ [])
    (own : IsBook views book.account book.events book.steps) (within : book.account < MOST_ACCOUNTS) (joint : w ≡ joint_view v (view_in views)) where
  one : view_in views ≡ view_of 1 (book.account ∷ []) (view_in views).book []
  one = ap view_in own.rests

  both : w ≡ joint_view v (view_of 1 (book.account ∷ []) (view_in views).book [])
  both = joint ∙ ap (joint_view v) one

  names_of : (k : ℕ) → times k w.names ≡ times k v.names + same k book.account
  names_of k = ap (λ (u : View). times k u.names) both ∙ sum_by_push (same k) v.names book.account

  events_of : (k : ℕ) → events_at k w.book ≡ events_at k v.book + events_in k book
  events_of k = ap (λ (u : View). events_at k u.book) both ∙ sum_by-append (event_of k) v.book (view_in views).book ∙ ap (λ n. events_at k v.book + n) (book_events views book own k)

  steps_of : (k : ℕ) → steps_at k w.book ≡ steps_at k v.book + steps_in k book
  steps_of k = ap (λ (u : View). steps_at k u.book) both ∙ sum_by-append (step_of k) v.book (view_in views).book ∙ ap (λ n. steps_at k v.book + n) (book_steps_in views book own k)

  noted : (k : ℕ) → k < MOST_ACCOUNTS → times k w.names ≤ 1
      → (slice_index (slice_set es book.account book.events) k ≡ events_at k w.book) × (slice_index (slice_set ss book.account book.steps) k ≡ steps_at k w.book)
  noted k below once =
      let n = names_of k in
      let e = events_of k in
      let s = steps_of k in
      let l = steps_le k v.book in
      let a = took.sizes.0 in
      let b = took.sizes.1 in
      elim (cases_eq k book.account) [
        | inl here ↦
            let h = same_here k book.account (sym here) in
            let z = took.own k (omega arith) in
            let i = in_here k book.account book.events here in
            let j = in_here k book.account book.steps here in
            let p : slice_index (slice_set es book.account book.events) k ≡ book.events = rw here (set_at es book.account book.events (omega arith)) in
            let q : slice_index (slice_set ss book.account book.steps) k ≡ book.steps = rw here (set_at ss book.account book.steps (omega arith)) in
            (omega arith, omega arith)
        | inr not ↦
            let h = same_else k book.account (λ x. not (sym x)) in
            let t = took.tells k below (omega arith) in
            let i = in_else k book.account book.events not in
            let j = in_else k book.account book.steps not in
            let p = set_else es book.account k book.events not in
            let q = set_else ss book.account k book.steps not in
            (omega arith, omega arith)
      ]

  pub took_book : TookBooks all left before w (slice_set es book.account book.events) (slice_set ss book.account book.steps)
  took_book = record {
    parts = (let p : w.parts ≡ v.parts + 1 = ap (λ (u : View). u.parts) both in let t = took.parts in let n : length old ≡ length left + 1 = ap length is ∙ length-append left (book ∷ []) in omega arith);
    amount = ap (λ (u : View). u.amount) both ∙ append-nil v.amount ∙ took.amount;
    names = λ k. let n = names_of k in let t = took.names k in
        let s : sum_by (λ (b : Book). same k b.account) old ≡ sum_by (λ (b : Book). same k b.account) left + same k book.account = ap (sum_by (λ (b : Book). same k b.account)) is ∙ sum_by_push (λ (b : Book). same k b.account) left book in
        omega arith;
    events = λ k. let e = events_of k in let t = took.events k in
        let s : sum_by (events_in k) old ≡ sum_by (events_in k) left + events_in k book = ap (sum_by (events_in k)) is ∙ sum_by_push (events_in k) left book in
        omega arith;
    steps = λ k. let e = steps_of k in let t = took.steps k in
        let s : sum_by (steps_in k) old ≡ sum_by (steps_in k) left + steps_in k book = ap (sum_by (steps_in k)) is ∙ sum_by_push (steps_in k) left book in
        omega arith;
    own = λ k z.
        let n = names_of k in
        let e = events_of k in
        let o = took.own k (omega arith) in
        let d : k ≢ book.account = (λ x. let h = same_here k book.account (sym x) in absurd (omega arith)) in
        let i = in_else k book.account book.events d in
        omega arith;
    tells = noted;
    sizes = (set_length es book.account book.events ∙ took.sizes.0, set_length ss book.account book.steps ∙ took.sizes.1);
  }

-- before any share and any book is joined
pub took_none : (all : List Share) → TookShares all all spent_view
took_none all = record { parts = omega arith; names = refl; book = refl; events = λ k below. (let z : 0 + sum_by (λ (s : Share). slice_index s.events k) all ≡ sum_by (λ (s : Share). slice_index s.events k) all = omega arith in z); steps = λ k below. (let z : 0 + sum_by (λ (s : Share). slice_index s.steps k) all ≡ sum_by (λ (s : Share). slice_index s.steps k) all = omega arith in z) }

-- a place of a list of zeros
zeros_at : (n k : ℕ) → slice_index (replicate n 0) k ≡ 0
zeros_at zero k = refl
zeros_at (suc n) zero = refl
zeros_at (suc n) (suc k) = zeros_at n k

zeros_length : (n : ℕ) → length {A = ℕ} (replicate n 0) ≡ n
zeros_length zero = refl
zeros_length (suc n) = ap suc (zeros_length n)

-- a share at zero
pub share_zero : (views : List View) (events steps : List ℕ) → views ≡ view_of 1 [] [] [] ∷ [] → events ≡ replicate MOST_ACCOUNTS 0 → steps ≡ replicate MOST_ACCOUNTS 0
    → (length events ≡ MOST_ACCOUNTS) × (length steps ≡ MOST_ACCOUNTS) × IsShare views events steps
share_zero views events steps at es ss = (
  ap length es ∙ zeros_length MOST_ACCOUNTS,
  ap length ss ∙ zeros_length MOST_ACCOUNTS,
  record {
    rests = at ∙ ap (λ (marks : List Mark). view_of 1 [] [] marks ∷ []) (sym (ap (λ (vs : List View). (view_in vs).amount) at));
    events_are = λ k below. ap (λ xs. slice_index xs k) es ∙ zeros_at MOST_ACCOUNTS k ∙ sym (ap (λ (vs : List View). events_at k (view_in vs).amount) at);
    steps_are = λ k below. ap (λ xs. slice_index xs k) ss ∙ zeros_at MOST_ACCOUNTS k ∙ sym (ap (λ (vs : List View). steps_at k (view_in vs).amount) at);
  },
)

pub took_no_book : (all : List Book) (v : View) → v.names ≡ [] → v.book ≡ [] → TookBooks all all v v (replicate MOST_ACCOUNTS 0) (replicate MOST_ACCOUNTS 0)
took_no_book all v names book = record {
  parts = refl;
  amount = refl;
  names = λ k. let z : times k v.names ≡ 0 = ap (times k) names in omega arith;
  events = λ k. let z : events_at k v.book ≡ 0 = ap (events_at k) book in omega arith;
  steps = λ k. let z : steps_at k v.book ≡ 0 = ap (steps_at k) book in omega arith;
  own = λ k z. ap (events_at k) book;
  tells = λ k below once. (zeros_at MOST_ACCOUNTS k ∙ sym (ap (events_at k) book), zeros_at MOST_ACCOUNTS k ∙ sym (ap (steps_at k) book));
  sizes = (zeros_length MOST_ACCOUNTS, zeros_length MOST_ACCOUNTS);
}

-- an element at a place, in the words of the tables
pub there : {X : Type 0} (xs : List X) (i : ℕ) (x : X) → slice_get xs i ≡ Some x → get_elem? xs i ≡ some x
there [] i x e = cc
there (y ∷ xs) zero x e = ap some (let f : y ≡ x = cc in f)
there (y ∷ xs) (suc i) x e = there xs i x e

-- a sum that isn't 0 has an element that isn't 0
pub found : {X : Type 0} (f : X → ℕ) (xs : List X) → 0 < sum_by f xs → (i : ℕ) × (x : X) × (slice_get xs i ≡ Some x) × (0 < f x)
found f [] more = absurd (omega arith)
found f (x ∷ xs) more = elim (lt_or_le 0 (f x)) [
  | inl here ↦ (0, x, refl, here)
  | inr none ↦ (let s = sum_by-cons f x xs in let r = found f xs (omega arith) in (suc r.0, r.1, r.2, r.3))
]

-- if a number counts, two others are the same
same_of : (k a : ℕ) → 0 < same k a → a ≡ k
same_of k a more = elim (cases_eq a k) [ inl is ↦ is | inr not ↦ absurd (let z = same_else k a not in omega arith) ]

-- what counts nothing for an account has nothing of it
nothing_in : (k a n : ℕ) → same k a ≡ 0 → cond (a == k) n 0 ≡ 0
nothing_in k a n z = elim (cases_eq k a) [ inl is ↦ absurd (let h = same_here k a (sym is) in omega arith) | inr not ↦ in_else k a n not ]

-- a seat that has all parts: what it counted is what stands in its books, each account has one book, and so the sums are told
module _ (n m : ℕ) (s : State (Unit {0}) View) (id : ℕ) (books : List Book) (shares : List Share) (w v : View) (told : Amounts) (few : n ≤ MOST_ACCOUNTS) (kept : Even n m s)
    (at : get_elem? s.views id ≡ some v) (of_shares : TookShares shares [] w) (of_books : TookBooks books [] w v told.events told.steps) (all_books : length books ≡ n) (all_shares : length shares ≡ m) where
  has_all : sum_by (λ (u : View). u.parts) s.views ≤ v.parts
  has_all = let p = kept.parts in let q = of_shares.parts in let r = of_books.parts in omega arith

  total : (g : View → ℕ) → ((j : ℕ) (u : View) → get_elem? s.views j ≡ some u → u.parts ≡ 0 → g u ≡ 0) → sum_by g s.views ≡ g v
  total g none = alone (λ (u : View). u.parts) g s.views id v at none has_all

  evens : (h : Mark → ℕ) → sum_by h v.amount ≡ sum_by h v.book
  evens h =
      sym (total (λ (u : View). sum_by h u.amount) (λ j u e z. ap (sum_by h) ((kept.proper j u e).idle z).2)) ∙ kept.even h
      ∙ total (λ (u : View). sum_by h u.book) (λ j u e z. ap (sum_by h) ((kept.proper j u e).idle z).1)

  name_total : (k : ℕ) → sum_by (λ (u : View). times k u.names) s.views ≡ times k v.names
  name_total k = total (λ (u : View). times k u.names) (λ j u e z. ap (times k) ((kept.proper j u e).idle z).0)

  once : (k : ℕ) → times k v.names ≤ 1
  once k = let t = name_total k in let o = at_most_one n m s kept k in omega arith

  name_sum : (k : ℕ) → sum_by (λ (b : Book). same k b.account) books ≡ times k v.names
  name_sum k = let t = of_books.names k in omega arith

  told_at : (i : ℕ) (b : Book) → slice_get books i ≡ Some b → (slice_index told.events b.account ≡ b.events) × (slice_index told.steps b.account ≡ b.steps)
  told_at i b e =
      let k = b.account in
      let at_book = there books i b e in
      let o = once k in
      let t = name_sum k in
      let h = same_here k k refl in
      let le = member_le (λ (x : Book). same k x.account) books i b at_book in
      let below : k < MOST_ACCOUNTS = elim (lt_or_le k n) [ inl low ↦ omega arith | inr no_account ↦ absurd (let z = kept.none k no_account in let y = name_total k in omega arith) ] in
      let tell = of_books.tells k below o in
      let es = alone (λ (x : Book). same k x.account) (events_in k) books i b at_book (λ j x there_at z. nothing_in k x.account x.events z) (omega arith) in
      let ss = alone (λ (x : Book). same k x.account) (steps_in k) books i b at_book (λ j x there_at z. nothing_in k x.account x.steps z) (omega arith) in
      let a = of_books.events k in
      let c = of_books.steps k in
      let y = in_here k k b.events refl in
      let z = in_here k k b.steps refl in
      (omega arith, omega arith)

  pub settled : Settled n books shares told
  settled = record {
    events = λ k below. let t = of_books.tells k below (once k) in let e = evens (event_of k) in let a : events_at k v.amount ≡ events_at k w.amount = ap (events_at k) of_books.amount in let f = of_shares.events k below in omega arith;
    steps = λ k below. let t = of_books.tells k below (once k) in let e = evens (step_of k) in let a : steps_at k v.amount ≡ steps_at k w.amount = ap (steps_at k) of_books.amount in let f = of_shares.steps k below in omega arith;
    told_by = told_at;
    has_book = λ k below.
        let o = kept.one k below in
        let t = name_total k in
        let u = name_sum k in
        let r = found (λ (b : Book). same k b.account) books (omega arith) in
        (r.0, r.1, r.2, same_of k r.1.account r.3);
  }

-- what holds of each element of a list holds of each in its front
pub all_front : {X : Type 0} (P : X → Type 0) (xs ys : List X) → All P (xs ++ ys) → All P xs
all_front P xs ys all k d below = subst P (get_or-append xs ys d k below) (all k d (omega (arith, length-append xs ys)))
