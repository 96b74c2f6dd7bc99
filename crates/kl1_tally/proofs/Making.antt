-- Books and shares, cut off one after the other.
use Rattle.std.proofs.Common.{◌≡◌, ℕ, zero, suc, ◌+◌, ◌-◌, ◌<◌, List, [], ◌∷◌, ◌++◌, take, drop, map, replicate, refl, sym, ap, ◌∙◌, arith}
use Rattle.kl1_tally.specs.declared.view.View.{View}
use Rattle.kl1_tally.specs.Numbers.{up_from}
use Rattle.atomic_table.specs.Seated.{TableId}
use Rattle.kl1_tally.specs.Seats.{Book, Share, new_book, new_share}
use Rattle.std.specs.Prelude.{All}
use Rattle.std.proofs.lemmas.List.Elements.{All-nil, All-cons}
use Rattle.kl1_tally.specs.Views.{view_of, whole, own_part, other_part, CanPart}
use Rattle.kl1_tally.proofs.Numbers.{up_more}

-- the view that is left when the books before one account are cut off
abbrev pub left : ℕ → ℕ → ℕ → View
left accounts shares account = view_of (accounts + shares - account) (up_from account (accounts - account)) [] []

module _ (accounts shares account : ℕ) (below : account < accounts) where
  -- one more account, and the others
  more : up_from account (accounts - account) ≡ account ∷ up_from (account + 1) (accounts - (account + 1))
  more = let e : accounts - account ≡ suc (accounts - (account + 1)) = omega arith in rw e refl

  -- it may be cut in two
  pub left_can : CanPart (left accounts shares account)
  left_can = record {
    some = omega arith;
    own = λ k z. refl;
    last = λ z. (ap (drop 1) more ∙ (let e : accounts - (account + 1) ≡ 0 = omega arith in rw e refl), refl);
  }

  -- the next book
  pub left_own : own_part (left accounts shares account) ≡ view_of 1 (up_from account 1) [] []
  left_own = ap (λ ns. view_of 1 (take 1 ns) [] []) more

  -- what is then left
  pub left_other : other_part (left accounts shares account) ≡ left accounts shares (account + 1)
  left_other =
      let e : accounts + shares - account - 1 ≡ accounts + shares - (account + 1) = omega arith in
      rw e (ap (λ ns. view_of (accounts + shares - (account + 1)) (drop 1 ns) [] []) more)

-- before the first book
pub left_first : (accounts shares : ℕ) → left accounts shares 0 ≡ whole accounts shares
left_first accounts shares = let e : accounts + shares - 0 ≡ accounts + shares = omega arith in let f : accounts - 0 ≡ accounts = omega arith in rw (e, f) refl

-- after the last book
pub left_last : (accounts shares : ℕ) → left accounts shares accounts ≡ view_of shares [] [] []
left_last accounts shares = let e : accounts + shares - accounts ≡ shares = omega arith in let f : accounts - accounts ≡ 0 = omega arith in rw (e, f) refl

-- one share may be cut off
pub share_can : (shares : ℕ) → 0 < shares → CanPart (view_of shares [] [] [])
share_can shares some = record { some = some; own = λ k z. refl; last = λ z. (refl, refl) }

-- one more of the same
pub replicate_more : {X : Type 0} (n : ℕ) (x : X) → replicate (n + 1) x ≡ replicate n x ++ x ∷ []
replicate_more zero x = refl
replicate_more (suc n) x = rw (let e : suc n + 1 ≡ suc (n + 1) = omega arith in e) (ap (λ xs. x ∷ xs) (replicate_more n x))

-- one element more, mapped
pub map_more : {X Y : Type 0} (f : X → Y) (xs : List X) (x : X) → map f (xs ++ x ∷ []) ≡ map f xs ++ f x ∷ []
map_more f [] x = refl
map_more f (y ∷ xs) x = ap (λ ys. f y ∷ ys) (map_more f xs x)

-- one book more
pub books_more : (id : TableId) (account : ℕ) (books : List Book) (b : Book) → books ≡ map (new_book id) (up_from 0 account) → b ≡ new_book id account → books ++ b ∷ [] ≡ map (new_book id) (up_from 0 (account + 1))
books_more id account books b are is =
    let z : 0 + account ≡ account = omega arith in
    ap (λ xs. xs ++ b ∷ []) are ∙ ap (λ x. map (new_book id) (up_from 0 account) ++ x ∷ []) (is ∙ ap (new_book id) (sym z)) ∙ sym (map_more (new_book id) (up_from 0 account) (0 + account)) ∙ ap (map (new_book id)) (sym (up_more 0 account))

-- all new books are of their tally
pub new_books_of : (id : TableId) (a n : ℕ) → All (λ (b : Book). b.tally ≡ id) (map (new_book id) (up_from a n))
new_books_of id a zero = All-nil (λ (b : Book). b.tally ≡ id)
new_books_of id a (suc n) = All-cons (λ (b : Book). b.tally ≡ id) (new_book id a) (map (new_book id) (up_from (a + 1) n)) refl (new_books_of id (a + 1) n)

-- all new shares are of their tally
pub new_shares_of : (id : TableId) (n : ℕ) → All (λ (s : Share). s.tally ≡ id) (replicate n (new_share id))
new_shares_of id zero = All-nil (λ (s : Share). s.tally ≡ id)
new_shares_of id (suc n) = All-cons (λ (s : Share). s.tally ≡ id) (new_share id) (replicate n (new_share id)) refl (new_shares_of id n)
