-- Words whose cells beside them stand in their order.
use Rattle.std.proofs.Common.{◌≡◌, ℕ, zero, suc, ◌+◌, ◌/◌, ◌%◌, ◌<◌, ◌≤◌, List, [], ◌∷◌, ◌++◌, length, get_or, take, drop, All, refl, sym, ◌∙◌, ap, subst, arith, inl, inr}
use Rattle.std.proofs.lemmas.List.{drop_more, drop_all}
use Rattle.std.proofs.lemmas.Bool.{cases_eq, ne_eqb}
use Rattle.kl1_store.specs.Words.{IsPacked, AreInOrder, next_place, Splits}
use Rattle.kl1_store.proofs.Packing.{next_same}

-- a word of a cell by itself
pub next_narrow : (p w : ℕ) → (w % 4 ≡ 2 → ⊥) → next_place p w ≡ p
next_narrow p w ne = rw (ne_eqb (w % 4) 2 ne) refl

pub next_up : (p w : ℕ) → p ≤ next_place p w
next_up p w = elim (cases_eq (w % 4) 2) [
  | inl e ↦ omega (arith, next_same p w e)
  | inr ne ↦ omega (arith, next_narrow p w ne)
]

next_few : (p w : ℕ) → next_place p w ≤ suc p
next_few p w = elim (cases_eq (w % 4) 2) [
  | inl e ↦ omega (arith, next_same p w e)
  | inr ne ↦ omega (arith, next_narrow p w ne)
]

pub order_up : (p : ℕ) (ws : List ℕ) (q : ℕ) → AreInOrder p ws q → p ≤ q
order_up p [] q h = omega (arith, h)
order_up p (w ∷ ws) q h = let r = order_up (next_place p w) ws q h.1 in omega (arith, r, next_up p w)

-- no more cells stand beside words than there are words
pub order_few : (p : ℕ) (ws : List ℕ) (q : ℕ) → AreInOrder p ws q → q ≤ p + length ws
order_few p [] q h = omega (arith, h)
order_few p (w ∷ ws) q h = let r = order_few (next_place p w) ws q h.1 in omega (arith, r, next_few p w)

pub order_push : (p : ℕ) (ws : List ℕ) (q w : ℕ) → AreInOrder p ws q → (w % 4 ≡ 2 → w / 4 ≡ q) → AreInOrder p (ws ++ w ∷ []) (next_place q w)
order_push p [] q w h place = ((λ e. place e ∙ sym h), ap (λ n. next_place n w) h)
order_push p (x ∷ ws) q w h place = (h.0, order_push (next_place p x) ws q w h.1 place)

-- where words begin, before all
pub splits_first : (ws : List ℕ) (q : ℕ) → AreInOrder 0 ws q → Splits ws 0 q 0
splits_first ws q h = record { before = refl; after = h }

split_order : (p : ℕ) (ws : List ℕ) (q n : ℕ) → AreInOrder p ws q → (r : ℕ) × (AreInOrder p (take n ws) r × AreInOrder r (drop n ws) q)
split_order p ws q zero h = (p, (refl, h))
split_order p [] q (suc n) h = (p, (refl, h))
split_order p (w ∷ ws) q (suc n) h =
    let r = split_order (next_place p w) ws q n h.1 in
    (r.0, ((h.0, r.1.0), r.1.1))

-- the words from one on, of which those since another are cells by themselves
pub record Skips (words : List ℕ) (count at all : ℕ) : Type 0 where
  pub place : ℕ
  pub before : AreInOrder 0 (take count words) place
  pub after : AreInOrder place (drop count words) all
  pub here : AreInOrder place (drop at words) all

pub skips_first : (ws : List ℕ) (count all : ℕ) → AreInOrder 0 ws all → Skips ws count count all
skips_first ws count all h =
    let r = split_order 0 ws all count h in
    record { place = r.0; before = r.1.0; after = r.1.1; here = r.1.1 }

at_word : (ws : List ℕ) (count at all d w : ℕ) (s : Skips ws count at all) → at < length ws → w ≡ get_or ws at d → AreInOrder s.place (w ∷ drop (at + 1) ws) all
at_word ws count at all d w s lt e =
    let P : List ℕ → Type 0 = λ l. AreInOrder s.place l all in
    let Q : ℕ → Type 0 = λ x. AreInOrder s.place (x ∷ drop (at + 1) ws) all in
    subst Q (sym e) (subst P (drop_more ws at d lt) s.here)

pub skips_more : (ws : List ℕ) (count at all d w : ℕ) → Skips ws count at all → at < length ws → w ≡ get_or ws at d → (w % 4 ≡ 2 → ⊥) → Skips ws count (at + 1) all
skips_more ws count at all d w s lt e ne =
    let r = at_word ws count at all d w s lt e in
    let P : ℕ → Type 0 = λ p. AreInOrder p (drop (at + 1) ws) all in
    record { place = s.place; before = s.before; after = s.after; here = subst P (next_narrow s.place w ne) r.1 }

pub splits_here : (ws : List ℕ) (count at all d w : ℕ) → Skips ws count at all → at < length ws → w ≡ get_or ws at d → w % 4 ≡ 2 → Splits ws count all (w / 4)
splits_here ws count at all d w s lt e two =
    let r = at_word ws count at all d w s lt e in
    let P : ℕ → Type 0 = λ p. Splits ws count all p in
    let here : Splits ws count all s.place = record { before = s.before; after = s.after } in
    subst P (sym (r.0 two)) here

pub splits_end : (ws : List ℕ) (count at all : ℕ) → Skips ws count at all → length ws ≤ at → Splits ws count all all
splits_end ws count at all s le =
    let P : ℕ → Type 0 = λ p. Splits ws count all p in
    let Q : List ℕ → Type 0 = λ l. AreInOrder s.place l all in
    let none : drop at ws ≡ [] = drop_all at ws le in
    let here : Splits ws count all s.place = record { before = s.before; after = s.after } in
    subst P (subst Q none s.here) here

-- the cells of words in order stand between the first place and the last
pub order_at : (p : ℕ) (ws : List ℕ) (q i d : ℕ) → AreInOrder p ws q → i < length ws → (get_or ws i d) % 4 ≡ 2 → (p ≤ (get_or ws i d) / 4) × ((get_or ws i d) / 4 < q)
order_at p [] q i d h lt two = absurd (omega arith)
order_at p (w ∷ ws) q zero d h lt two =
    let up = order_up (next_place p w) ws q h.1 in
    (omega (arith, h.0 two), omega (arith, h.0 two, next_same p w two, up))
order_at p (w ∷ ws) q (suc i) d h lt two =
    let r = order_at (next_place p w) ws q i d h.1 (omega arith) two in
    (omega (arith, r.0, next_up p w), r.1)

-- words of which the first cells beside them are kept
pub kept_packed : (n p : ℕ) (ws : List ℕ) (q : ℕ) → AreInOrder p ws q → All (IsPacked n) ws → All (IsPacked q) ws
kept_packed n p ws q h a = λ k d lt. record { variable = (a k d lt).variable; structure = (a k d lt).structure; wide = λ e. (order_at p ws q k d h lt e).1 }
