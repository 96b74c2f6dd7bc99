-- The rule of unification without fuel.
use Rattle.std.proofs.Common.{◌≡◌, ℕ, zero, suc, ◌+◌, ◌<◌, ◌≤◌, ◌||◌, Bool, true, false, List, [], ◌∷◌, Option, Some, option_map, refl, sym, ◌∙◌, ap, arith, eq-eqb, le_refl, ⊎_elim}
use Rattle.std.proofs.lemmas.Bool.{or_parts, or_from, or_left, or_right, cases_eq, cases_lt}
use Rattle.kl1_model.specs.Term.{Term, variable, structure, Terms, more, size, sizes, occurs, Replacement}
use Rattle.kl1_model.specs.Unify.{Equation, Transformed, argument_equations, transformed, replace_in_all, equations_size, mgu_within, highest_among, mgu}
use Rattle.kl1_model.specs.code.Unifying.{after}
use Rattle.kl1_model.specs.laws.UnifyLaws.{equate, NumberedTo, AllNumberedTo, FrontNumberedTo, FrontDecides, FrontKeepsNumbers, HighestIsABound, mgu_to, AnyBoundServes, NothingIsSolved}
use Rattle.kl1_model.proofs.UnifyFront.{front_cases}
use Rattle.kl1_model.proofs.Occurrences.{numbered_to_highest, numbered-replace_in_all, numbered-arguments, Absent, absent-replace_in_all, absent-replaced, absent-arguments}

-- ---- how many variables occur

-- whether a variable occurs in some equation
abbrev pub occurs_among : List Equation → ℕ → Bool
occurs_among [] v = false
occurs_among (e ∷ es) v = (occurs v e.left || occurs v e.right) || occurs_among es v

absent_from_test : (v : ℕ) (es : List Equation) → occurs_among es v ≡ false → Absent v es
absent_from_test v [] h = tt
absent_from_test v (e ∷ es) h =
    let p = or_parts (occurs v e.left || occurs v e.right) (occurs_among es v) h in
    (or_parts (occurs v e.left) (occurs v e.right) p.0, absent_from_test v es p.1)

test_from_absent : (v : ℕ) (es : List Equation) → Absent v es → occurs_among es v ≡ false
test_from_absent v [] h = refl
test_from_absent v (e ∷ es) h = or_from (occurs v e.left || occurs v e.right) (occurs_among es v) (or_from (occurs v e.left) (occurs v e.right) h.0.0 h.0.1) (test_from_absent v es h.1)

-- one for a test that passes
abbrev pub one_if : Bool → ℕ
one_if true = 1
one_if false = 0

-- how many numbers below a bound pass a test
abbrev pub tally : (ℕ → Bool) → ℕ → ℕ
tally p zero = 0
tally p (suc m) = one_if (p m) + tally p m

one_if_most : (b : Bool) → one_if b ≤ 1
one_if_most true = omega arith
one_if_most false = omega arith

one_if_fewer : (b c : Bool) → (b ≡ false → c ≡ false) → one_if c ≤ one_if b
one_if_fewer true c h = one_if_most c
one_if_fewer false c h = let e = ap one_if (h refl) in omega arith

tally_most : (p : ℕ → Bool) (m : ℕ) → tally p m ≤ m
tally_most p zero = omega arith
tally_most p (suc m) = let h = tally_most p m in let k = one_if_most (p m) in omega arith

-- a test that fails wherever another fails passes at no more numbers
tally_fewer : (p q : ℕ → Bool) (m : ℕ) → ((v : ℕ) → p v ≡ false → q v ≡ false) → tally q m ≤ tally p m
tally_fewer p q zero h = omega arith
tally_fewer p q (suc m) h =
    let k = tally_fewer p q m h in
    let o = one_if_fewer (p m) (q m) (h m) in
    omega arith

-- and at fewer, if it fails at one more
tally_less : (p q : ℕ → Bool) (m w : ℕ) → ((v : ℕ) → p v ≡ false → q v ≡ false) → w < m → p w ≡ true → q w ≡ false → tally q m < tally p m
tally_less p q zero w h l a b = absurd (omega arith)
tally_less p q (suc m) w h l a b =
    ⊎_elim
    (λ (e : w ≡ m).
    let k = tally_fewer p q m h in
    let x = ap (λ n. one_if (p n)) (sym e) ∙ ap one_if a in
    let y = ap (λ n. one_if (q n)) (sym e) ∙ ap one_if b in
    omega arith)
    (λ (e : w ≡ m → ⊥).
    let k = tally_less p q m w h (omega arith) a b in
    let o = one_if_fewer (p m) (q m) (h m) in
    omega arith)
    (cases_eq w m)

-- how many variables up to the last occur in equations
abbrev pub variables_in : ℕ → List Equation → ℕ
variables_in last es = tally (occurs_among es) (suc last)

-- at most one more than the last
pub variables_most : (last : ℕ) (es : List Equation) → variables_in last es ≤ suc last
variables_most last es = tally_most (occurs_among es) (suc last)

-- the equations of arguments are no larger than the arguments
size-arguments : (ts us : Terms) (es : List Equation) → equations_size (argument_equations ts us es) ≤ sizes ts + equations_size es
size-arguments (more t ts) (more u us) es = let h = size-arguments ts us es in omega arith
size-arguments _ _ es = omega arith

-- ---- what the front equation leads to

-- equations in place of others, with no new variables, and smaller
pub record Shrinks (last : ℕ) (before next : List Equation) : Type 0 where
  pub numbered : AllNumberedTo last next
  pub variables : variables_in last next ≤ variables_in last before
  pub smaller : equations_size next < equations_size before

-- equations in place of others, with fewer variables
pub record Loses (last : ℕ) (before next : List Equation) : Type 0 where
  pub numbered : AllNumberedTo last next
  pub variables : variables_in last next < variables_in last before

-- an equation less
pub shrinks_same : (last : ℕ) (t : Term) (es : List Equation) → AllNumberedTo last (equate t t ∷ es) → Shrinks last (equate t t ∷ es) es
shrinks_same last t es h = record {
  numbered = h.1;
  variables = tally_fewer (occurs_among (equate t t ∷ es)) (occurs_among es) (suc last) (λ v k. test_from_absent v es ((absent_from_test v (equate t t ∷ es) k).1));
  smaller = omega arith;
}

-- arguments in place of structures
pub shrinks_arguments : (last : ℕ) (f : List ℕ) (ts us : Terms) (es : List Equation) → AllNumberedTo last (equate (structure f ts) (structure f us) ∷ es) → Shrinks last (equate (structure f ts) (structure f us) ∷ es) (argument_equations ts us es)
shrinks_arguments last f ts us es h =
    let before = equate (structure f ts) (structure f us) ∷ es in
    let s = size-arguments ts us es in
    record {
      numbered = numbered-arguments last ts us es h.0.0 h.0.1 h.1;
      variables = tally_fewer (occurs_among before) (occurs_among (argument_equations ts us es)) (suc last) (λ v k. let a = absent_from_test v before k in test_from_absent v (argument_equations ts us es) (absent-arguments v ts us es a.0.0 a.0.1 a.1));
      smaller = omega arith;
    }

-- a replacement in all equations
loses_bound : (last v : ℕ) (t : Term) (before es : List Equation) → v ≤ last → NumberedTo last t → AllNumberedTo last es → occurs v t ≡ false → occurs_among before v ≡ true → ((w : ℕ) → Absent w before → (occurs w t ≡ false) × Absent w es) → Loses last before (replace_in_all v t es)
loses_bound last v t before es l k h o b a = record {
  numbered = numbered-replace_in_all last v t es k h;
  variables = tally_less (occurs_among before) (occurs_among (replace_in_all v t es)) (suc last) v (λ w c. let d = a w (absent_from_test w before c) in test_from_absent w (replace_in_all v t es) (absent-replace_in_all w v t es d.0 d.1)) (omega arith) b (test_from_absent v (replace_in_all v t es) (absent-replaced v t es o));
}

-- a variable occurs in an equation with it on a side
occurs_left : (v : ℕ) (t : Term) (es : List Equation) → occurs_among (equate (variable v) t ∷ es) v ≡ true
occurs_left v t es = or_left (occurs v (variable v) || occurs v t) (occurs_among es v) (or_left (occurs v (variable v)) (occurs v t) (eq-eqb v v refl))

occurs_right : (v : ℕ) (t : Term) (es : List Equation) → occurs_among (equate t (variable v) ∷ es) v ≡ true
occurs_right v t es = or_left (occurs v t || occurs v (variable v)) (occurs_among es v) (or_right (occurs v t) (occurs v (variable v)) (eq-eqb v v refl))

-- a variable that takes the other side is lost
pub loses_left : (last v : ℕ) (t : Term) (es : List Equation) → occurs v t ≡ false → AllNumberedTo last (equate (variable v) t ∷ es) → Loses last (equate (variable v) t ∷ es) (replace_in_all v t es)
loses_left last v t es o h = loses_bound last v t (equate (variable v) t ∷ es) es h.0.0 h.0.1 h.1 o (occurs_left v t es) (λ x a. (a.0.1, a.1))

-- on either side
pub loses_right : (last v : ℕ) (t : Term) (es : List Equation) → occurs v t ≡ false → AllNumberedTo last (equate t (variable v) ∷ es) → Loses last (equate t (variable v) ∷ es) (replace_in_all v t es)
loses_right last v t es o h = loses_bound last v t (equate t (variable v) ∷ es) es h.0.1 h.0.0 h.1 o (occurs_right v t es) (λ x a. (a.0.0, a.1))

-- ---- fuel that is enough

-- what is done after the front equation is the same if it is on equations that shrink, and on such as lose a variable
after_agrees : (last : ℕ) (e : Equation) (es : List Equation) (same same' next next' : List Equation → Option (List Replacement)) → AllNumberedTo last (e ∷ es) → ((to : List Equation) → Shrinks last (e ∷ es) to → same to ≡ same' to) → ((to : List Equation) → Loses last (e ∷ es) to → next to ≡ next' to) → after same next (transformed e.left e.right es) ≡ after same' next' (transformed e.left e.right es)
after_agrees last e es same same' next next' h shrinks loses =
    front_cases es (λ a b r. AllNumberedTo last (equate a b ∷ es) → ((to : List Equation) → Shrinks last (equate a b ∷ es) to → same to ≡ same' to) → ((to : List Equation) → Loses last (equate a b ∷ es) to → next to ≡ next' to) → after same next r ≡ after same' next' r)
    (λ t h s l. s es (shrinks_same last t es h))
    (λ f ts us n h s l. s (argument_equations ts us es) (shrinks_arguments last f ts us es h))
    (λ v t o w h s l. ap (option_map (λ rest. record { number = v; by = t } ∷ rest)) (l (replace_in_all v t es) (loses_left last v t es o h)))
    (λ v t o w h s l. ap (option_map (λ rest. record { number = v; by = t } ∷ rest)) (l (replace_in_all v t es) (loses_right last v t es o h)))
    (λ a b c h s l. refl)
    e.left e.right h shrinks loses

-- a solution is the same whatever its fuel, if it is more than the variables that occur, and no less than the size
pub solve_enough : (last n m n' m' : ℕ) (es : List Equation) → AllNumberedTo last es → variables_in last es < n → variables_in last es < n' → equations_size es ≤ m → equations_size es ≤ m' → mgu_within n m es ≡ mgu_within n' m' es
unfolding mgu_within
solve_enough last n m n' m' [] h a b c d = refl
solve_enough last zero m n' m' (e ∷ es) h a b c d = absurd (omega arith)
solve_enough last (suc n) m zero m' (e ∷ es) h a b c d = absurd (omega arith)
solve_enough last (suc n) zero (suc n') m' (e ∷ es) h a b c d = absurd (omega arith)
solve_enough last (suc n) (suc m) (suc n') zero (e ∷ es) h a b c d = absurd (omega arith)
solve_enough last (suc n) (suc m) (suc n') (suc m') (e ∷ es) h a b c d =
    after_agrees last e es (mgu_within (suc n) m) (mgu_within (suc n') m') (λ to. mgu_within n (equations_size to) to) (λ to. mgu_within n' (equations_size to) to) h
    (λ to s. let v = s.variables in let l = s.smaller in solve_enough last (suc n) m (suc n') m' to s.numbered (omega arith) (omega arith) (omega arith) (omega arith))
    (λ to s. let v = s.variables in solve_enough last n (equations_size to) n' (equations_size to) to s.numbered (omega arith) (omega arith) (le_refl (equations_size to)) (le_refl (equations_size to)))

-- no equations are solved by no replacements
pub nothing_solved_to : (last : ℕ) → mgu_to last [] ≡ Some []
unfolding mgu_within
nothing_solved_to last = refl

pub nothing_solved : NothingIsSolved
nothing_solved = nothing_solved_to 0

-- equations are solved by what their front equation leads to, by one bound on the numbers
pub front_decides_to : (last : ℕ) (e : Equation) (es : List Equation) → AllNumberedTo last (e ∷ es) → mgu_to last (e ∷ es) ≡ after (mgu_to last) (mgu_to last) (transformed e.left e.right es)
unfolding mgu_within
front_decides_to last e es h =
    let most = variables_most last (e ∷ es) in
    let spent : ℕ = size e.left + equations_size es in
    let sum : equations_size (e ∷ es) ≡ suc spent = omega arith in
    ap (λ m. mgu_within (suc (suc last)) m (e ∷ es)) sum
    ∙ after_agrees last e es (mgu_within (suc (suc last)) spent) (mgu_to last) (λ to. mgu_within (suc last) (equations_size to) to) (mgu_to last) h
    (λ to s. let v = s.variables in let l = s.smaller in solve_enough last (suc (suc last)) spent (suc (suc last)) (equations_size to) to s.numbered (omega arith) (omega arith) (omega arith) (le_refl (equations_size to)))
    (λ to s. let v = s.variables in solve_enough last (suc last) (equations_size to) (suc (suc last)) (equations_size to) to s.numbered (omega arith) (omega arith) (le_refl (equations_size to)) (le_refl (equations_size to)))

-- two bounds on the numbers give the same solution
bounds_agree : (last other : ℕ) (es : List Equation) → AllNumberedTo last es → AllNumberedTo other es → mgu_to last es ≡ mgu_to other es
bounds_agree last other es h k =
    let l = variables_most last es in
    let o = variables_most other es in
    ⊎_elim
    (λ (b : last < other). solve_enough last (suc (suc last)) (equations_size es) (suc (suc other)) (equations_size es) es h (omega arith) (omega arith) (le_refl (equations_size es)) (le_refl (equations_size es)))
    (λ (b : other ≤ last). solve_enough other (suc (suc last)) (equations_size es) (suc (suc other)) (equations_size es) es k (omega arith) (omega arith) (le_refl (equations_size es)) (le_refl (equations_size es)))
    (cases_lt last other)

-- the highest number is a bound
pub highest_is_a_bound : HighestIsABound
highest_is_a_bound = numbered_to_highest

-- any bound on the numbers gives the solution
pub any_bound_serves : AnyBoundServes
any_bound_serves last es h = bounds_agree last (highest_among es) es h (numbered_to_highest es)

-- equations are solved by what their front equation leads to
pub front_decides : FrontDecides
front_decides e es =
    let last = highest_among (e ∷ es) in
    let h = numbered_to_highest (e ∷ es) in
    front_decides_to last e es h
    ∙ after_agrees last e es (mgu_to last) mgu (mgu_to last) mgu h (λ to s. any_bound_serves last to s.numbered) (λ to s. any_bound_serves last to s.numbered)

-- a step, if it is known what the front equation leads to
pub stepped : (t u : Term) (es : List Equation) (to : Transformed) → transformed t u es ≡ to → mgu (equate t u ∷ es) ≡ after mgu mgu to
stepped t u es to e = front_decides (equate t u) es ∙ ap (after mgu mgu) e

-- what the front equation leads to brings in no higher numbers
pub front_numbered : FrontKeepsNumbers
front_numbered last e es h =
    front_cases es (λ a b r. AllNumberedTo last (equate a b ∷ es) → FrontNumberedTo last r)
    (λ t h. h.1)
    (λ f ts us n h. numbered-arguments last ts us es h.0.0 h.0.1 h.1)
    (λ v t o w h. (h.0.0, h.0.1, numbered-replace_in_all last v t es h.0.1 h.1))
    (λ v t o w h. (h.0.1, h.0.0, numbered-replace_in_all last v t es h.0.0 h.1))
    (λ a b c h. tt)
    e.left e.right h
