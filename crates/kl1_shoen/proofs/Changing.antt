-- Shoens of which one is changed.
use Rattle.std.proofs.Common.{◌≡◌, ℕ, zero, suc, ◌+◌, ◌-◌, ◌<◌, ◌≤◌, Bool, true, false, ◌==◌, if◌then◌else◌, List, [], ◌∷◌, length, get_or, set, refl, sym, ap, ap₂, ◌∙◌, arith}
use Rattle.std.specs.Prelude.{Some, None, find, slice_get}
use Rattle.std.proofs.lemmas.Bool.{ne_eqb, eq-eqb}
use Rattle.std.proofs.lemmas.Option.{none-some, same_Some}
use Rattle.kl1_model.specs.declared.life.Life.TheVariants.{Aborted}
use Rattle.kl1_model.specs.State.{is_living}
use Rattle.kl1_shoen_paths.specs.declared.shoen.Shoen.{Shoen}
use Rattle.kl1_shoen.specs.declared.change.Change.{Change}
use Rattle.kl1_shoen.specs.declared.change.Change.TheVariants.{Tail, Control, OriginControl, Breaks, Stopped, Allows, Ends, Leaves, Aborts, Forgets, Empties}
use Rattle.kl1_shoen.specs.Changes.{changed_by}
use Rattle.kl1_shoen.specs.Shoens.{has_number, changed, ended_with, empty_with, AreNumbered, parents_in}
use Rattle.kl1_shoen_paths.proofs.Numbered.{found_none, found_at}
use Rattle.kl1_shoen.proofs.Numbered.{number_is, numbered_set}

if_number : {N : Type 0} (c : Bool) (x y : Shoen N) → y.number ≡ x.number → (if c then y else x).number ≡ x.number
if_number true x y e = e
if_number false x y e = refl

if_parent : {N : Type 0} (c : Bool) (x y : Shoen N) → y.parent ≡ x.parent → (if c then y else x).parent ≡ x.parent
if_parent true x y e = e
if_parent false x y e = refl

if_number_not : {N : Type 0} (c : Bool) (x y : Shoen N) → y.number ≡ x.number → (if c then x else y).number ≡ x.number
if_number_not true x y e = refl
if_number_not false x y e = e

if_parent_not : {N : Type 0} (c : Bool) (x y : Shoen N) → y.parent ≡ x.parent → (if c then x else y).parent ≡ x.parent
if_parent_not true x y e = refl
if_parent_not false x y e = e

pub number_kept : {N : Type 0} (c : Change N) (s : Shoen N) → (changed_by c s).number ≡ s.number
number_kept (Tail x) s = refl
number_kept (Control x) s = refl
number_kept (OriginControl x) s = refl
number_kept (Breaks x) s = refl
number_kept (Stopped x) s = refl
number_kept (Allows x) s = refl
number_kept (Ends x) s = refl
number_kept (Leaves x) s = refl
number_kept (Aborts x) s = if_number (is_living s.life) s (ended_with x Aborted s) refl
number_kept (Forgets n x) s = refl
number_kept (Empties x) s = if_number_not (is_living s.life) s (empty_with x s) refl

pub parent_kept : {N : Type 0} (c : Change N) (s : Shoen N) → (changed_by c s).parent ≡ s.parent
parent_kept (Tail x) s = refl
parent_kept (Control x) s = refl
parent_kept (OriginControl x) s = refl
parent_kept (Breaks x) s = refl
parent_kept (Stopped x) s = refl
parent_kept (Allows x) s = refl
parent_kept (Ends x) s = refl
parent_kept (Leaves x) s = refl
parent_kept (Aborts x) s = if_parent (is_living s.life) s (ended_with x Aborted s) refl
parent_kept (Forgets n x) s = refl
parent_kept (Empties x) s = if_parent_not (is_living s.life) s (empty_with x s) refl

-- a shoen that is found has a number from 1
pub number_some : {N : Type 0} (n : ℕ) (s : Shoen N) (ss : List (Shoen N)) → AreNumbered 0 ss → find (has_number n) ss ≡ Some s → 0 < n
number_some zero s ss a e = absurd (none-some s (sym (found_none 0 ss a refl) ∙ e))
number_some (suc n) s ss a e = omega arith

get_within : {A : Type 0} (xs : List A) (i : ℕ) (x : A) → slice_get xs i ≡ Some x → i < length xs
get_within [] i x e = absurd (none-some x e)
get_within (y ∷ xs) zero x e = omega arith
get_within (y ∷ xs) (suc i) x e = let l = get_within xs i x e in omega (arith, l)

found_get : {N : Type 0} (n : ℕ) (s : Shoen N) (ss : List (Shoen N)) → AreNumbered 0 ss → find (has_number n) ss ≡ Some s → slice_get ss (n - 1) ≡ Some s
found_get n s ss a e = sym (found_at n ss a (number_some n s ss a e)) ∙ e

-- and stands within them
pub place_within : {N : Type 0} (n : ℕ) (s : Shoen N) (ss : List (Shoen N)) → AreNumbered 0 ss → find (has_number n) ss ≡ Some s → n - 1 < length ss
place_within n s ss a e = get_within ss (n - 1) s (found_get n s ss a e)

-- what is found at a place is got from it
pub got_found : {A : Type 0} (xs : List A) (i : ℕ) (x y : A) → slice_get xs i ≡ Some x → get_or xs i y ≡ x
got_found [] i x y e = absurd (none-some x e)
got_found (z ∷ xs) zero x y e = same_Some z x e
got_found (z ∷ xs) (suc i) x y e = got_found xs i x y e

-- a change leaves the parent that stands there
pub changed_parent : {N : Type 0} (n : ℕ) (c : Change N) (s y : Shoen N) (ss : List (Shoen N)) → AreNumbered 0 ss → find (has_number n) ss ≡ Some s → (changed_by c s).parent ≡ (get_or ss (n - 1) y).parent
changed_parent {N = N} n c s y ss a e = parent_kept c s ∙ sym (ap (λ (x : Shoen N). x.parent) (got_found ss (n - 1) s y (found_get n s ss a e)))

changed_case : {N : Type 0} (n : ℕ) (f : Shoen N → Shoen N) (s : Shoen N) (ss : List (Shoen N)) (c : Bool) → (if c then Some s else find (has_number n) ss) ≡ None → (find (has_number n) ss ≡ None → changed n f ss ≡ ss) →
    (if c then f s else s) ∷ changed n f ss ≡ s ∷ ss
changed_case n f s ss true e g = absurd (none-some s (sym e))
changed_case n f s ss false e g = ap (λ xs. s ∷ xs) (g e)

-- if no shoen has a number, none is changed
pub changed_none : {N : Type 0} (n : ℕ) (f : Shoen N → Shoen N) (ss : List (Shoen N)) → find (has_number n) ss ≡ None → changed n f ss ≡ ss
changed_none n f [] e = refl
changed_none n f (s ∷ ss) e = changed_case n f s ss (s.number == n) e (changed_none n f ss)

changed_low : {N : Type 0} (last n : ℕ) (f : Shoen N → Shoen N) (ss : List (Shoen N)) → AreNumbered last ss → n ≤ last → changed n f ss ≡ ss
changed_low last n f [] a le = refl
changed_low last n f (s ∷ ss) a le =
    let m = a.0 in
    ap (λ c. (if c then f s else s) ∷ changed n f ss) (ne_eqb s.number n (λ x. omega (arith, m, le, x))) ∙ ap (λ xs. s ∷ xs) (changed_low (suc last) n f ss a.1 (omega (arith, le)))

changed_from : {N : Type 0} (last i n : ℕ) (f : Shoen N → Shoen N) (s : Shoen N) (ss : List (Shoen N)) → AreNumbered last ss → n ≡ suc (last + i) → slice_get ss i ≡ Some s → changed n f ss ≡ set ss i (f s)
changed_from last i n f s [] a e g = refl
changed_from last zero n f s (x ∷ ss) a e g =
    let m = a.0 in
    ap (λ c. (if c then f x else x) ∷ changed n f ss) (eq-eqb x.number n (omega (arith, m, e)))
    ∙ ap₂ (λ y ys. f y ∷ ys) (same_Some x s g) (changed_low (suc last) n f ss a.1 (omega (arith, e)))
changed_from last (suc i) n f s (x ∷ ss) a e g =
    let m = a.0 in
    ap (λ c. (if c then f x else x) ∷ changed n f ss) (ne_eqb x.number n (λ y. omega (arith, m, e, y)))
    ∙ ap (λ xs. x ∷ xs) (changed_from (suc last) i n f s ss a.1 (omega (arith, e)) g)

-- a shoen is changed at its place
pub changed_at : {N : Type 0} (n : ℕ) (f : Shoen N → Shoen N) (s : Shoen N) (ss : List (Shoen N)) → AreNumbered 0 ss → find (has_number n) ss ≡ Some s → changed n f ss ≡ set ss (n - 1) (f s)
changed_at n f s ss a e =
    let lt = number_some n s ss a e in
    changed_from 0 (n - 1) n f s ss a (omega (arith, lt)) (found_get n s ss a e)

parents_from : {N : Type 0} (i : ℕ) (s r : Shoen N) (ss : List (Shoen N)) → slice_get ss i ≡ Some s → r.parent ≡ s.parent → parents_in (set ss i r) ≡ parents_in ss
parents_from i s r [] e p = refl
parents_from zero s r (x ∷ ss) e p = ap (λ (q : ℕ). q ∷ parents_in ss) (p ∙ ap (λ (y : Shoen _). y.parent) (sym (same_Some x s e)))
parents_from (suc i) s r (x ∷ ss) e p = ap (λ (qs : List ℕ). x.parent ∷ qs) (parents_from i s r ss e p)

-- a change leaves the parents
pub parents_changed : {N : Type 0} (n : ℕ) (c : Change N) (s : Shoen N) (ss : List (Shoen N)) → AreNumbered 0 ss → find (has_number n) ss ≡ Some s → parents_in (set ss (n - 1) (changed_by c s)) ≡ parents_in ss
parents_changed n c s ss a e = parents_from (n - 1) s (changed_by c s) ss (found_get n s ss a e) (parent_kept c s)

-- and the numbers
pub numbered_changed : {N : Type 0} (n : ℕ) (c : Change N) (s : Shoen N) (ss : List (Shoen N)) → AreNumbered 0 ss → find (has_number n) ss ≡ Some s → AreNumbered 0 (set ss (n - 1) (changed_by c s))
numbered_changed n c s ss a e =
    let lt = number_some n s ss a e in
    let is = number_is n s ss a lt e in
    let kept = number_kept c s in
    numbered_set 0 ss (n - 1) (changed_by c s) a (omega (arith, lt, is, kept))

-- a shoen in place of another of the same parent leaves the parents
pub parents_put : {N : Type 0} (i : ℕ) (ss : List (Shoen N)) (x a : Shoen N) → i < length ss → x ≡ get_or ss i x → a.parent ≡ x.parent → parents_in (set ss i a) ≡ parents_in ss
parents_put i [] x a lt e p = refl
parents_put zero (s ∷ ss) x a lt e p = ap (λ (q : ℕ). q ∷ parents_in ss) (p ∙ ap (λ (y : Shoen _). y.parent) e)
parents_put (suc i) (s ∷ ss) x a lt e p = ap (λ (qs : List ℕ). s.parent ∷ qs) (parents_put i ss x a (omega (arith, lt)) e p)
