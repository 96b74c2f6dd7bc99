-- Accounts in one table of names, when one of them changes.
use Rattle.std.proofs.Common.{◌≡◌, ◌≢◌, ℕ, zero, suc, ◌<◌, ◌≤◌, List, [], ◌∷◌, refl, sym, ap, ◌∙◌, subst, length, get_or, inl, inr, arith, map}
use Rattle.std.specs.Prelude.{slice_get, slice_set, Some, ◌↔◌}
use Rattle.std.proofs.lemmas.List.{length-map, map-set}
use Rattle.std.proofs.lemmas.Option.{slice_get_within, slice_get_read, same_Some, none-some}
use Rattle.std.proofs.lemmas.Bool.{cases_eq}
use Rattle.kl1_model.specs.Rules.{limits_of}
use Rattle.kl1_codes.specs.Numbered.{ArePlaced}
use Rattle.kl1_codes.proofs.Placing.{placed_still}
use Rattle.kl1_journal.specs.Keeping.{Held, nobody}
use Rattle.kl1_world.specs.Seating.{AreSeated}
use Rattle.kl1_world.specs.Worlds.{account_in}

-- the accounts of those that are seated
abbrev pub accounts_of : {S : Type 0} → List (S × Held) → List Held
accounts_of xs = map (λ x. x.1) xs

-- there are us many
pub as_many : {S : Type 0} (xs : List (S × Held)) (us : List Held) (n : ℕ) → accounts_of xs ≡ us → n < length us → n < length xs
as_many xs us n e less = let same : length xs ≡ length us = sym (length-map xs (λ x. x.1)) ∙ ap length e in omega (arith, same, less)

-- the one at a place
pub stands : {S : Type 0} (xs : List (S × Held)) (n : ℕ) (x : S × Held) → n < length xs → x ≡ get_or xs n x → slice_get xs n ≡ Some x
stands xs n x less e = slice_get_read xs (length xs) n x refl less e

-- its account
pub account_at : {S : Type 0} (xs : List (S × Held)) (n : ℕ) (x : S × Held) → slice_get xs n ≡ Some x → account_in (accounts_of xs) n ≡ x.1
account_at [] n x e = absurd (none-some x e)
account_at (y ∷ ys) zero x e = ap (λ z. z.1) (same_Some y x e)
account_at (y ∷ ys) (suc n) x e = account_at ys n x e

-- one element changed
get_set_same : {X : Type 0} (xs : List X) (n : ℕ) (y : X) → n < length xs → slice_get (slice_set xs n y) n ≡ Some y
get_set_same [] n y less = absurd (omega (arith, less))
get_set_same (x ∷ xs) zero y less = refl
get_set_same (x ∷ xs) (suc n) y less = get_set_same xs n y (omega (arith, less))

get_set_other : {X : Type 0} (xs : List X) (n k : ℕ) (y : X) → k ≢ n → slice_get (slice_set xs n y) k ≡ slice_get xs k
get_set_other [] n k y apart = refl
get_set_other (x ∷ xs) zero zero y apart = absurd (apart refl)
get_set_other (x ∷ xs) zero (suc k) y apart = refl
get_set_other (x ∷ xs) (suc n) zero y apart = refl
get_set_other (x ∷ xs) (suc n) (suc k) y apart = get_set_other xs n k y (λ e. apart (ap suc e))

-- one of them changed, and the others are seated still
pub seated_set : {T S : Type 0} (is_of : T → S → Type 0) (place : S → (ℕ × ℕ) × ℕ) (has after : ℕ × ℕ → Type 0) (old new : T) (xs : List (S × Held)) (n : ℕ) (x y : S × Held) →
    AreSeated is_of place has old xs → slice_get xs n ≡ Some x → is_of new y.0 → place y.0 ≡ place x.0 →
    ((other : S) → is_of old other → (place other ≡ place x.0 → ⊥) → is_of new other) → ArePlaced after y.1.0.modules → ((p : ℕ × ℕ) → has p ↔ after p) → y.1.0.rules ≡ x.1.0.rules →
    AreSeated is_of place after new (slice_set xs n y)
seated_set is_of place has after old new xs n x y seated at of same others placed still rules k z e = elim (cases_eq k n) [
  | inl here ↦
      let is : y ≡ z = same_Some y z (sym (get_set_same xs n y (slice_get_within xs n x at)) ∙ ap (slice_get (slice_set xs n y)) (sym here) ∙ e) in
      let room : (limits_of y.1.0.rules).names ≤ (place y.0).0.1 = subst (λ p. (limits_of y.1.0.rules).names ≤ p.0.1) (sym same) (subst (λ r. (limits_of r).names ≤ (place x.0).0.1) (sym rules) (seated n x at).3) in
      subst (λ w. is_of new w.0 × ((place w.0).1 ≡ k) × ArePlaced after w.1.0.modules × ((limits_of w.1.0.rules).names ≤ (place w.0).0.1)) is (of, ap (λ p. p.1) same ∙ (seated n x at).1 ∙ sym here, placed, room)
  | inr apart ↦
      let was : slice_get xs k ≡ Some z = sym (get_set_other xs n k y apart) ∙ e in
      let h = seated k z was in
      (others z.0 h.0 (λ p. apart (sym h.1 ∙ ap (λ q. q.1) p ∙ (seated n x at).1)), h.1, placed_still has after still z.1.0.modules h.2, h.3)
]

-- the account that has changed
pub changed_at : {S : Type 0} (xs : List (S × Held)) (n : ℕ) (y : S × Held) → n < length xs → account_in (accounts_of (slice_set xs n y)) n ≡ y.1
changed_at xs n y less = account_at (slice_set xs n y) n y (get_set_same xs n y less)

-- and nothing else
pub changed_all : {S : Type 0} (xs : List (S × Held)) (us : List Held) (n : ℕ) (y : S × Held) → accounts_of xs ≡ us → n < length xs → accounts_of (slice_set xs n y) ≡ slice_set us n (account_in (accounts_of (slice_set xs n y)) n)
changed_all xs us n y e less = map-set (λ x. x.1) xs n y ∙ ap (λ zs. slice_set zs n y.1) e ∙ ap (slice_set us n) (sym (changed_at xs n y less))

set_same : (us : List Held) (n : ℕ) → slice_set us n (account_in us n) ≡ us
set_same [] n = refl
set_same (a ∷ us) zero = refl
set_same (a ∷ us) (suc n) = ap (λ bs. a ∷ bs) (set_same us n)

-- nothing at all, if the account stays
pub changed_none : {S : Type 0} (xs : List (S × Held)) (us : List Held) (n : ℕ) (x y : S × Held) → accounts_of xs ≡ us → slice_get xs n ≡ Some x → y.1 ≡ x.1 → accounts_of (slice_set xs n y) ≡ us
changed_none xs us n x y e at same =
    map-set (λ x. x.1) xs n y ∙ ap (slice_set (accounts_of xs) n) (same ∙ sym (account_at xs n x at)) ∙ set_same (accounts_of xs) n ∙ e

set_twice : {X : Type 0} (xs : List X) (n : ℕ) (y z : X) → slice_set (slice_set xs n y) n z ≡ slice_set xs n z
set_twice [] n y z = refl
set_twice (x ∷ xs) zero y z = refl
set_twice (x ∷ xs) (suc n) y z = ap (λ zs. x ∷ zs) (set_twice xs n y z)

-- all but the one that has changed are the same
pub all_but_same : (old new : List Held) (n : ℕ) (a : Held) → new ≡ slice_set old n a → slice_set new n nobody ≡ slice_set old n nobody
all_but_same old new n a e = ap (λ xs. slice_set xs n nobody) e ∙ set_twice old n a nobody
