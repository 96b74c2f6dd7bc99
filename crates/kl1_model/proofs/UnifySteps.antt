-- The steps of unification, each from what is known of the front equation.
use Rattle.std.proofs.Common.{◌≡◌, ℕ, ◌==◌, ◌&&◌, nat_lt, false, cond, List, refl, sym, ◌∙◌, eq-eqb, le_of_lt}
use Rattle.std.proofs.lemmas.Bool.{and_from, cond-true, cond-false, le-ltb, lt-ltb, ne_eqb, eqb-false}
use Rattle.std.proofs.lemmas.Slice.Eq.{bytes_eq-Decides}
use Rattle.std.specs.Prelude.{bytes_eq}
use Rattle.kl1_model.specs.Term.{Term, variable, integer, atom, structure, count_of, occurs, occurs_in}
use Rattle.kl1_model.specs.Unify.{Equation, argument_equations, remains, eliminates, transformed}
use Rattle.kl1_model.specs.laws.UnifyLaws.{IsLower, ArgumentsDecide, LeftTakesRight, RightTakesLeft}
use Rattle.kl1_model.proofs.UnifyRule.{stepped}

-- structures of one name and length give way to their arguments
pub arguments_decide : ArgumentsDecide
arguments_decide f ts us es n =
    stepped (structure f ts) (structure f us) es (remains (argument_equations ts us es)) (cond-true (bytes_eq f f && count_of ts == count_of us) _ _ (and_from (bytes_eq f f) (count_of ts == count_of us) ((bytes_eq-Decides f f).1 refl) (eq-eqb (count_of ts) (count_of us) n)))

left_binds : (v : ℕ) (t : Term) (es : List Equation) → occurs v t ≡ false → IsLower v t → transformed (variable v) t es ≡ eliminates v t es
left_binds v (variable w) es o l =
    cond-false (v == w) (remains es) (cond (nat_lt v w) (eliminates w (variable v) es) (eliminates v (variable w) es)) o ∙ cond-false (nat_lt v w) _ _ (le-ltb v w (le_of_lt l))
left_binds v (integer i) es o l = refl
left_binds v (atom a) es o l = refl
left_binds v (structure f ts) es o l = cond-false (occurs_in v ts) _ _ o

right_binds : (v : ℕ) (t : Term) (es : List Equation) → occurs v t ≡ false → IsLower v t → transformed t (variable v) es ≡ eliminates v t es
right_binds v (variable w) es o l =
    cond-false (w == v) (remains es) (cond (nat_lt w v) (eliminates v (variable w) es) (eliminates w (variable v) es)) (ne_eqb w v (λ e. eqb-false v w o (sym e))) ∙ cond-true (nat_lt w v) _ _ (lt-ltb w v l)
right_binds v (integer i) es o l = refl
right_binds v (atom a) es o l = refl
right_binds v (structure f ts) es o l = cond-false (occurs_in v ts) _ _ o

-- a variable on the left takes the right side
pub left_takes_right : LeftTakesRight
left_takes_right v t es o l = stepped (variable v) t es (eliminates v t es) (left_binds v t es o l)

-- a variable on the right takes the left side
pub right_takes_left : RightTakesLeft
right_takes_left v t es o l = stepped t (variable v) es (eliminates v t es) (right_binds v t es o l)
