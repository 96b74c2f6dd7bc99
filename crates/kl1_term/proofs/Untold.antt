-- Goals whose variables are those that an answer doesn't tell.
use Rattle.std.proofs.Common.{◌≡◌, ℕ, zero, suc, ◌+◌, ◌-◌, ◌<◌, ◌≤◌, max, not, ◌&&◌, ◌||◌, Bool, true, false, if◌then◌else◌, List, [], ◌∷◌, ◌++◌, map, length, length-append, refl, sym, ap, ap₂, ◌∙◌, ◌⊎◌, inl, inr, subst, arith}
use Rattle.std.specs.Prelude.{nat_le, nat_lt, Option}
use Rattle.std.specs.List.{AllByRecursion, list_any}
use Rattle.std.proofs.lemmas.Bool.{cases_eq, and_from, and_parts, le-leb, leb-true, lt-leb, le-ltb, lt-ltb}
use Rattle.kl1_model.specs.declared.limits.TheConstants.{FIRST_UNTOLD, NUMBER_LIMIT}
use Rattle.kl1_model.specs.Term.{Term, variable, integer, atom, structure, Terms, none, more, substituted, each_substituted}
use Rattle.kl1_model.specs.Meaning.{variables_of, variables_in, numbered_after, is_numbered, highest}
use Rattle.kl1_model.specs.Event.{is_number}
use Rattle.kl1_model.specs.Module.{is_among}
use Rattle.kl1_model.specs.Opening.{with_next_variables}
use Rattle.kl1_model.specs.Telling.{Asked, Given, stands_at, new_among, place_among, given_variable, is_gone, given_told, told_after, is_told_term}
use Rattle.kl1_term.specs.Telling.{untold, untold_number}
use Rattle.kl1_term.specs.UntoldLaws.{UntoldAreNew, UntoldAreTold, UntoldHold}
use Rattle.kl1_term.proofs.Renumbering.{place_kept, place_new, among_kept, among_new, among_apart}
use Rattle.kl1_term.proofs.Anew.{variables_renumbered, top, highest_top}

-- a number from 1 to m
abbrev IsUpTo : ℕ → ℕ → Type 0
IsUpTo m v = (1 ≤ v) × (v ≤ m)

-- ---- the first k variables that an answer doesn't tell

firsts : ℕ → List ℕ
firsts zero = []
firsts (suc k) = firsts k ++ untold_number (suc k) ∷ []

firsts_more : (k : ℕ) → firsts (suc k) ≡ firsts k ++ untold_number (suc k) ∷ []
unfolding firsts
firsts_more k = refl

no_firsts : firsts 0 ≡ []
unfolding firsts
no_firsts = refl

length_firsts : (k : ℕ) → length (firsts k) ≡ k
length_firsts zero = ap length no_firsts
length_firsts (suc k) =
    let h = length_firsts k in
    let e = length-append (firsts k) (untold_number (suc k) ∷ []) in
    ap length (firsts_more k) ∙ omega (arith, e, h)

apart : (k n : ℕ) → suc k < n → untold_number (suc k) ≡ untold_number n → ⊥
apart k n less e = let z : FIRST_UNTOLD + (suc k - 1) ≡ FIRST_UNTOLD + (n - 1) = e in omega (arith, z, less)

not_among : (k n : ℕ) → k < n → is_among (untold_number n) (firsts k) ≡ false
not_among zero n less = ap (is_among (untold_number n)) no_firsts
not_among (suc k) n less =
    ap (is_among (untold_number n)) (firsts_more k) ∙ among_apart (firsts k) (untold_number (suc k)) (untold_number n) (apart k n less) ∙ not_among k n (omega (arith, less))

among_firsts : (k n : ℕ) → IsUpTo k n → is_among (untold_number n) (firsts k) ≡ true
among_firsts zero n upto = absurd (omega (arith, upto))
among_firsts (suc k) n upto = ap (is_among (untold_number n)) (firsts_more k) ∙ by (cases_eq n (suc k)) (λ here. among_firsts k n here)
  where
    by : (n ≡ suc k) ⊎ (n ≡ suc k → ⊥) → (IsUpTo k n → is_among (untold_number n) (firsts k) ≡ true) → is_among (untold_number n) (firsts k ++ untold_number (suc k) ∷ []) ≡ true
    by (inl same) before = ap (λ m. is_among (untold_number m) (firsts k ++ untold_number (suc k) ∷ [])) same ∙ among_new (firsts k) (untold_number (suc k))
    by (inr other) before = among_kept (firsts k) (untold_number (suc k) ∷ []) (untold_number n) (before (upto.0, omega (arith, upto, other)))

place_firsts : (k n : ℕ) → IsUpTo k n → place_among (firsts k) (untold_number n) ≡ n
place_firsts zero n upto = absurd (omega (arith, upto))
place_firsts (suc k) n upto = ap (λ xs. place_among xs (untold_number n)) (firsts_more k) ∙ by (cases_eq n (suc k)) (λ here. place_firsts k n here)
  where
    by : (n ≡ suc k) ⊎ (n ≡ suc k → ⊥) → (IsUpTo k n → place_among (firsts k) (untold_number n) ≡ n) → place_among (firsts k ++ untold_number (suc k) ∷ []) (untold_number n) ≡ n
    by (inl same) before =
        ap (λ m. place_among (firsts k ++ untold_number (suc k) ∷ []) (untold_number m)) same
        ∙ place_new (firsts k) (untold_number (suc k)) (not_among k (suc k) (omega arith)) ∙ ap suc (length_firsts k) ∙ sym same
    by (inr other) before =
        let here : IsUpTo k n = (upto.0, omega (arith, upto, other)) in
        place_kept (firsts k) (untold_number (suc k) ∷ []) (untold_number n) (among_firsts k n here) ∙ before here

-- ---- which variables are new

-- one more variable is new just if it isn't among the first
abbrev NewOne : Option Asked → ℕ → ℕ → List ℕ → List ℕ
NewOne a k v vs = new_among a (firsts k) (untold_number v ∷ map untold_number vs)

new_by : (stands among : Bool) (x y : List ℕ) → stands ≡ false → among ≡ true → (if◌then◌else◌ {A = List ℕ} (stands || among) x y) ≡ x
new_by true among x y e f = cc
new_by false true x y e f = refl
new_by false false x y e f = cc

other_by : (stands among : Bool) (x y : List ℕ) → stands ≡ false → among ≡ false → (if◌then◌else◌ {A = List ℕ} (stands || among) x y) ≡ y
other_by true among x y e f = cc
other_by false true x y e f = cc
other_by false false x y e f = refl

new_one : (a : Option Asked) → ((n : ℕ) → FIRST_UNTOLD ≤ n → stands_at a n ≡ false) → (k v : ℕ) (vs : List ℕ) → IsUpTo (suc k) v →
    ((l : ℕ) → l ≡ max k v → new_among a (firsts l) (map untold_number vs) ≡ firsts (max l (top vs))) → (v ≡ suc k) ⊎ (v ≡ suc k → ⊥) → NewOne a k v vs ≡ firsts (max k (max v (top vs)))
new_one a below k v vs upto go (inl same) =
    other_by (stands_at a (untold_number v)) (is_among (untold_number v) (firsts k)) (new_among a (firsts k) (map untold_number vs)) (new_among a (firsts k ++ untold_number v ∷ []) (map untold_number vs)) (below (untold_number v) (omega arith)) (not_among k v (omega (arith, same)))
    ∙ ap (λ xs. new_among a xs (map untold_number vs)) (ap (λ n. firsts k ++ untold_number n ∷ []) same ∙ sym (firsts_more k))
    ∙ go (suc k) (omega (arith, same))
    ∙ ap firsts (let e : max (suc k) (top vs) ≡ max k (max v (top vs)) = omega (arith, same) in e)
new_one a below k v vs upto go (inr other) =
    new_by (stands_at a (untold_number v)) (is_among (untold_number v) (firsts k)) (new_among a (firsts k) (map untold_number vs)) (new_among a (firsts k ++ untold_number v ∷ []) (map untold_number vs)) (below (untold_number v) (omega arith)) (among_firsts k v (upto.0, omega (arith, upto, other)))
    ∙ go k (omega (arith, upto, other))
    ∙ ap firsts (let e : max k (top vs) ≡ max k (max v (top vs)) = omega (arith, upto, other) in e)

new_firsts : (a : Option Asked) → ((n : ℕ) → FIRST_UNTOLD ≤ n → stands_at a n ≡ false) → (k : ℕ) (vs : List ℕ) → numbered_after k vs ≡ true → new_among a (firsts k) (map untold_number vs) ≡ firsts (max k (top vs))
new_firsts a below k [] h = ap firsts (let e : k ≡ max k 0 = omega arith in e)
new_firsts a below k (v ∷ vs) h =
    let parts = and_parts (nat_le 1 v && nat_le v (suc k)) (numbered_after (max k v) vs) h in
    let range = and_parts (nat_le 1 v) (nat_le v (suc k)) parts.0 in
    new_one a below k v vs (leb-true 1 v range.0, leb-true v (suc k) range.1) (λ l is. new_firsts a below l vs (ap (λ n. numbered_after n vs) is ∙ parts.1)) (cases_eq v (suc k))

-- ---- what stands for each

all_upto : (m k : ℕ) (vs : List ℕ) → numbered_after k vs ≡ true → top vs ≤ m → AllByRecursion (IsUpTo m) vs
all_upto m k [] h few = tt
all_upto m k (v ∷ vs) h few =
    let parts = and_parts (nat_le 1 v && nat_le v (suc k)) (numbered_after (max k v) vs) h in
    let range = and_parts (nat_le 1 v) (nat_le v (suc k)) parts.0 in
    ((leb-true 1 v range.0, omega (arith, few)), all_upto m (max k v) vs parts.1 (omega (arith, few)))

all_left : (P : ℕ → Type 0) (xs ys : List ℕ) → AllByRecursion P (xs ++ ys) → AllByRecursion P xs
all_left P [] ys all = tt
all_left P (x ∷ xs) ys all = (all.0, all_left P xs ys all.1)

all_right : (P : ℕ → Type 0) (xs ys : List ℕ) → AllByRecursion P (xs ++ ys) → AllByRecursion P ys
all_right P [] ys all = all
all_right P (x ∷ xs) ys all = all_right P xs ys all.1

mutual
  given_one : (f g : ℕ → Term) (m : ℕ) → ((v : ℕ) → IsUpTo m v → f (untold_number v) ≡ g v) → (t : Term) → AllByRecursion (IsUpTo m) (variables_of t) → substituted f (untold t) ≡ substituted g t
  given_one f g m is (variable n) all = is n all.0
  given_one f g m is (integer i) all = refl
  given_one f g m is (atom a) all = refl
  given_one f g m is (structure a ts) all = ap (structure a) (given_each f g m is ts all)

  given_each : (f g : ℕ → Term) (m : ℕ) → ((v : ℕ) → IsUpTo m v → f (untold_number v) ≡ g v) → (ts : Terms) → AllByRecursion (IsUpTo m) (variables_in ts) → each_substituted f (each_substituted (λ n. variable (untold_number n)) ts) ≡ each_substituted g ts
  given_each f g m is none all = refl
  given_each f g m is (more t ts) all = ap₂ more (given_one f g m is t (all_left (IsUpTo m) (variables_of t) (variables_in ts) all)) (given_each f g m is ts (all_right (IsUpTo m) (variables_of t) (variables_in ts) all))

variable_by : (b : Bool) (v n : ℕ) → b ≡ false → (if◌then◌else◌ {A = Term} b (variable v) (variable n)) ≡ variable n
variable_by true v n e = cc
variable_by false v n e = refl

given_is : (a : Option Asked) (last m : ℕ) → ((n : ℕ) → FIRST_UNTOLD ≤ n → stands_at a n ≡ false) → (v : ℕ) → IsUpTo m v → given_variable a (firsts m) last (untold_number v) ≡ variable (last + v)
given_is a last m below v upto =
    variable_by (stands_at a (untold_number v)) (untold_number v) (last + place_among (firsts m) (untold_number v)) (below (untold_number v) (omega arith)) ∙ ap (λ n. variable (last + n)) (place_firsts m v upto)

-- none is told that is gone
none_gone : (a : Option Asked) (last : ℕ) (vs : List ℕ) → last < FIRST_UNTOLD → list_any (is_gone a last) (map untold_number vs) ≡ false
none_gone a last [] few = refl
none_gone a last (v ∷ vs) few =
    ap (λ b. (b && not (stands_at a (untold_number v))) || list_any (is_gone a last) (map untold_number vs)) (lt-leb (untold_number v) last (omega (arith, few)))
    ∙ none_gone a last vs few

pub untold_are_new : UntoldAreNew
untold_are_new a last t numbered few below =
    let vs = variables_of t in
    let is : variables_of (untold t) ≡ map untold_number vs = variables_renumbered untold_number t in
    let most : max 0 (top vs) ≡ highest t = (let e = highest_top t in omega (arith, e)) in
    let new : new_among a [] (variables_of (untold t)) ≡ firsts (highest t) =
    ap₂ (λ (seen ns : List ℕ). new_among a seen ns) (sym no_firsts) is ∙ new_firsts a below 0 vs numbered ∙ ap firsts most in
    let all = all_upto (highest t) 0 vs numbered (omega (arith, most)) in
    let given : List ℕ → Bool → Given = λ ns gone. record { goal = substituted (given_variable a ns last) (untold t); new = length ns; tells_gone = gone } in
    ap₂ given new (ap (list_any (is_gone a last)) is ∙ none_gone a last vs few)
    ∙ ap₂ (λ (g : Term) (n : ℕ). let x : Given = record { goal = g; new = n; tells_gone = false } in x)
    (given_one (given_variable a (firsts (highest t)) last) (λ v. variable (last + v)) (highest t) (given_is a last (highest t) below) t all) (length_firsts (highest t))

-- ---- they are as a text tells them

told_on : (k : ℕ) (vs : List ℕ) → numbered_after k vs ≡ true → max k (top vs) ≤ FIRST_UNTOLD → told_after k (map untold_number vs) ≡ true
told_on k [] h few = refl
told_on k (v ∷ vs) h few =
    let parts = and_parts (nat_le 1 v && nat_le v (suc k)) (numbered_after (max k v) vs) h in
    let range = and_parts (nat_le 1 v) (nat_le v (suc k)) parts.0 in
    let some = leb-true 1 v range.0 in
    let within = leb-true v (suc k) range.1 in
    let n = untold_number v in
    let ns = map untold_number vs in
    let above : nat_lt n FIRST_UNTOLD ≡ false = le-ltb n FIRST_UNTOLD (omega arith) in
    let same : max k (suc n - FIRST_UNTOLD) ≡ max k v = omega (arith, some) in
    ap (λ x. if x then nat_le 1 n && told_after k ns else nat_le n (FIRST_UNTOLD + k) && is_number n && told_after (max k (suc n - FIRST_UNTOLD)) ns) above
    ∙ and_from (nat_le n (FIRST_UNTOLD + k) && is_number n) (told_after (max k (suc n - FIRST_UNTOLD)) ns)
    (and_from (nat_le n (FIRST_UNTOLD + k)) (is_number n) (le-leb n (FIRST_UNTOLD + k) (omega (arith, some, within))) (lt-ltb n NUMBER_LIMIT (omega (arith, some, few))))
    (ap (λ m. told_after m ns) same ∙ told_on (max k v) vs parts.1 (omega (arith, few)))

pub untold_are_told : UntoldAreTold
untold_are_told t numbered few =
    let vs = variables_of t in
    let most = highest_top t in
    ap (told_after 0) (variables_renumbered untold_number t) ∙ told_on 0 vs numbered (omega (arith, most, few))

pub untold_hold : UntoldHold
untold_hold = record { new = untold_are_new; told = untold_are_told }
