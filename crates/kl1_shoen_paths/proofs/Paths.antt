-- Paths of shoens in order of number.
use Rattle.std.proofs.Common.{◌≡◌, ℕ, zero, suc, ◌-◌, ◌<◌, ◌≤◌, false, ◌||◌, List, [], ◌∷◌, ◌++◌, length, refl, sym, ap, ap₂, ◌∙◌, arith}
use Rattle.std.specs.Prelude.{Option, find, get_or, slice_get, option_map, unwrap_or}
use Rattle.std.proofs.lemmas.Bool.{ne_eqb}
use Rattle.std.proofs.lemmas.List.{get_or_append_left}
use Rattle.kl1_model.specs.Module.{is_among}
use Rattle.kl1_model.specs.Tree.{path_within}
use Rattle.kl1_model.specs.laws.TreeLaws.{ParentsAreLower}
use Rattle.kl1_shoen_paths.specs.declared.shoen.Shoen.{Shoen}
use Rattle.kl1_shoen_paths.specs.Paths.{has_number, AreNumbered, AreLower, parents_in, path_in}
use Rattle.kl1_shoen_paths.proofs.Numbered.{found_at}

-- any fuel from the number on gives the same path
path_enough : (parents : List ℕ) → ParentsAreLower parents → (m k n : ℕ) → n ≤ m → n ≤ k → path_within m parents n ≡ path_within k parents n
unfolding path_within
path_enough parents lower zero zero n a b = refl
path_enough parents lower zero (suc k) zero a b = refl
path_enough parents lower zero (suc k) (suc n) a b = absurd (omega (arith, a))
path_enough parents lower (suc m) zero zero a b = refl
path_enough parents lower (suc m) zero (suc n) a b = absurd (omega (arith, b))
path_enough parents lower (suc m) (suc k) zero a b = refl
path_enough parents lower (suc m) (suc k) (suc n) a b =
    ap (λ (ps : List ℕ). suc n ∷ ps) (path_enough parents lower m k (get_or parents n 0) (omega (arith, a, lower n)) (omega (arith, b, lower n)))

path_step : (parents : List ℕ) (n : ℕ) → path_within (suc n) parents (suc n) ≡ suc n ∷ path_within n parents (get_or parents n 0)
unfolding path_within
path_step parents n = refl

pub path_none : (parents : List ℕ) → path_within 0 parents 0 ≡ []
unfolding path_within
path_none parents = refl

-- the path of a shoen is that shoen, and then the path of its parent, by places
pub go_on : (parents : List ℕ) → ParentsAreLower parents → (n : ℕ) → path_within (suc n) parents (suc n) ≡ suc n ∷ path_within (get_or parents n 0) parents (get_or parents n 0)
go_on parents lower n =
    path_step parents n ∙ ap (λ (ps : List ℕ). suc n ∷ ps) (path_enough parents lower n (get_or parents n 0) (get_or parents n 0) (lower n) (omega arith))

-- the number 0 has no path
pub path_zero : {N : Type 0} (n : ℕ) (ss : List (Shoen N)) → n ≡ 0 → path_in ss n ≡ []
path_zero n ss e = ap (path_in ss) e ∙ path_none (parents_in ss)

parent_get : {N : Type 0} (ss : List (Shoen N)) (i : ℕ) → unwrap_or (option_map (λ (h : Shoen N). h.parent) (slice_get ss i)) 0 ≡ get_or (parents_in ss) i 0
parent_get [] i = refl
parent_get (s ∷ ss) zero = refl
parent_get (s ∷ ss) (suc i) = parent_get ss i

-- the parent that a shoen names stands at its place
pub parent_at : {N : Type 0} (n p : ℕ) (ss : List (Shoen N)) → AreNumbered 0 ss → p ≡ unwrap_or (option_map (λ (h : Shoen N). h.parent) (find (has_number n) ss)) 0 → 0 < n → p ≡ get_or (parents_in ss) (n - 1) 0
parent_at {N = N} n p ss a e lt = e ∙ ap (λ (o : Option (Shoen N)). unwrap_or (option_map (λ (h : Shoen N). h.parent) o) 0) (found_at n ss a lt) ∙ parent_get ss (n - 1)

-- a parent has a lesser number
pub parent_below : {N : Type 0} (n p : ℕ) (ss : List (Shoen N)) → AreNumbered 0 ss → AreLower ss → p ≡ unwrap_or (option_map (λ (h : Shoen N). h.parent) (find (has_number n) ss)) 0 → 0 < n → p < n
parent_below n p ss a lower e lt = let at = parent_at n p ss a e lt in let l = lower (n - 1) in omega (arith, at, l, lt)

-- the path of a shoen goes on with the parent that is found
pub path_parent : {N : Type 0} (n p : ℕ) (ss : List (Shoen N)) → AreNumbered 0 ss → AreLower ss → p ≡ unwrap_or (option_map (λ (h : Shoen N). h.parent) (find (has_number n) ss)) 0 → 0 < n → path_in ss n ≡ n ∷ path_in ss p
path_parent n p ss a lower e lt =
    let is : n ≡ suc (n - 1) = omega (arith, lt) in
    ap (path_in ss) is ∙ go_on (parents_in ss) lower (n - 1) ∙ ap₂ (λ (m q : ℕ). m ∷ path_in ss q) (sym is) (sym (parent_at n p ss a e lt))

-- the parent of a shoen at a place stands at that place
pub parents_get : {N : Type 0} (ss : List (Shoen N)) (i : ℕ) (x : Shoen N) → i < length ss → x ≡ get_or ss i x → x.parent ≡ get_or (parents_in ss) i 0
parents_get [] i x lt is = absurd (omega (arith, lt))
parents_get (s ∷ ss) zero x lt is = ap (λ (y : Shoen _). y.parent) is
parents_get (s ∷ ss) (suc i) x lt is = parents_get ss i x (omega (arith, lt)) is

-- the parent of a shoen at a place is at most that place
pub parent_few : {N : Type 0} (ss : List (Shoen N)) (i : ℕ) (x : Shoen N) → AreLower ss → i < length ss → x ≡ get_or ss i x → x.parent ≤ i
parent_few ss i x lower lt is =
    let e = parents_get ss i x lt is in
    let l = lower i in
    omega (arith, e, l)

-- what is beyond the first number of a path is not on it
pub beyond_path : (parents : List ℕ) → ParentsAreLower parents → (m n a : ℕ) → n < a → is_among a (path_within m parents n) ≡ false
unfolding path_within
beyond_path parents lower zero n a lt = refl
beyond_path parents lower (suc m) zero a lt = refl
beyond_path parents lower (suc m) (suc n) a lt =
    ap (λ b. b || is_among a (path_within m parents (get_or parents n 0))) (ne_eqb a (suc n) (λ e. omega (arith, lt, e)))
    ∙ beyond_path parents lower m (get_or parents n 0) a (omega (arith, lt, lower n))

-- a path among known shoens doesn't change if more are opened
pub path_among : (ps qs : List ℕ) → ParentsAreLower ps → (m n : ℕ) → n ≤ length ps → path_within m (ps ++ qs) n ≡ path_within m ps n
unfolding path_within
path_among ps qs lower zero n few = refl
path_among ps qs lower (suc m) zero few = refl
path_among ps qs lower (suc m) (suc n) few =
    let l : n < length ps = omega (arith, few) in
    ap (λ (k : ℕ). suc n ∷ path_within m (ps ++ qs) k) (get_or_append_left ps qs 0 n l)
    ∙ ap (λ (ks : List ℕ). suc n ∷ ks) (path_among ps qs lower m (get_or ps n 0) (omega (arith, lower n, l)))

-- the number 0 is on no path
pub zero_off_path : (parents : List ℕ) (m n : ℕ) → is_among 0 (path_within m parents n) ≡ false
unfolding path_within
zero_off_path parents zero n = refl
zero_off_path parents (suc m) zero = refl
zero_off_path parents (suc m) (suc n) =
    ap (λ b. b || is_among 0 (path_within m parents (get_or parents n 0))) (ne_eqb 0 (suc n) (λ e. omega (arith, e)))
    ∙ zero_off_path parents m (get_or parents n 0)
