-- Equations with equal sides are dropped.
use Rattle.std.proofs.Common.{◌≡◌, ◌==◌, List, ◌∷◌, refl, ◌∙◌, subst, eq-eqb}
use Rattle.std.proofs.lemmas.Bool.{cond-true}
use Rattle.std.proofs.lemmas.Bool.Decides.{Decides-int_eq}
use Rattle.std.proofs.lemmas.Slice.Eq.{bytes_eq-Decides}
use Rattle.std.specs.Prelude.{bytes_eq}
use Rattle.std.specs.Ordering.{int_eq}
use Rattle.kl1_model.specs.Term.{Term, variable, integer, atom, structure, Terms, none, more}
use Rattle.kl1_model.specs.Unify.{Equation, argument_equations, remains, mgu}
use Rattle.kl1_model.specs.laws.UnifyLaws.{equate, EqualSidesAreDropped}
use Rattle.kl1_model.proofs.TermFacts.{same_term-true}
use Rattle.kl1_model.proofs.UnifyRule.{stepped}
use Rattle.kl1_model.proofs.UnifySteps.{arguments_decide}

mutual
  dropped : (t : Term) (es : List Equation) → mgu (equate t t ∷ es) ≡ mgu es
  dropped (variable n) es = stepped (variable n) (variable n) es (remains es) (cond-true (n == n) _ _ (eq-eqb n n refl))
  dropped (integer i) es = stepped (integer i) (integer i) es (remains es) (cond-true (int_eq i i) _ _ ((Decides-int_eq i i).1 refl))
  dropped (atom a) es = stepped (atom a) (atom a) es (remains es) (cond-true (bytes_eq a a) _ _ ((bytes_eq-Decides a a).1 refl))
  dropped (structure f ts) es = arguments_decide f ts ts es refl ∙ each_dropped ts es

  each_dropped : (ts : Terms) (es : List Equation) → mgu (argument_equations ts ts es) ≡ mgu es
  each_dropped none es = refl
  each_dropped (more t ts) es = dropped t (argument_equations ts ts es) ∙ each_dropped ts es

-- equations with equal sides are dropped
pub equal_sides_dropped : EqualSidesAreDropped
equal_sides_dropped e es same =
    let q : e.left ≡ e.right = same_term-true e.left e.right same in
    subst (λ x. mgu (equate e.left x ∷ es) ≡ mgu es) q (dropped e.left es)
