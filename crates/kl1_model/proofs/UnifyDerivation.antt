-- How equations are solved with no fuel, and that the answer is one.
use Rattle.std.proofs.Common.{◌≡◌, List, ◌∷◌, Option, option_map, sym, ◌∙◌, ap}
use Rattle.kl1_model.specs.Term.{Replacement}
use Rattle.kl1_model.specs.Unify.{Equation, mgu}
use Rattle.kl1_model.specs.laws.UnifyLaws.{equate, bind, Solves, all_done, same_sides, arguments, left_takes, right_takes, never_equal, SolvedByDerivation, DerivationsAgree}
use Rattle.kl1_model.proofs.TermFacts.{same_term-self}
use Rattle.kl1_model.proofs.Substitutions.{values_of, replaced_is}
use Rattle.kl1_model.proofs.UnifyRule.{nothing_solved}
use Rattle.kl1_model.proofs.UnifySteps.{arguments_decide, left_takes_right, right_takes_left}
use Rattle.kl1_model.proofs.UnifySolution.{none_where_none_unify}
use Rattle.kl1_model.proofs.EqualSides.{equal_sides_dropped}
use Rattle.kl1_model.proofs.UnifyAnswer.{HoldsOfEachAnswer, holds_of_answer}

-- the answer is that of any derivation
pub the_answer : {es : List Equation} {o : Option (List Replacement)} → Solves es o → mgu es ≡ o
the_answer all_done = nothing_solved
the_answer (same_sides t {es} d) = equal_sides_dropped (equate t t) es (same_term-self t) ∙ the_answer d
the_answer (arguments f ts us {es} n d) = arguments_decide f ts us es n ∙ the_answer d
the_answer (left_takes v t {es} o l d) = left_takes_right v t es o l ∙ ap (option_map (λ rest. bind v t ∷ rest)) (the_answer d)
the_answer (right_takes v t {es} o l d) = right_takes_left v t es o l ∙ ap (option_map (λ rest. bind v t ∷ rest)) (the_answer d)
the_answer (never_equal t u {es} n) = none_where_none_unify (equate t u ∷ es) (λ rs m. n rs m.0)

-- in whatever order equations are solved, the answer is one
pub derivations_agree : DerivationsAgree
derivations_agree es o d = the_answer d

derived : HoldsOfEachAnswer Solves
derived = record {
  done = all_done;
  same = λ t es o d. same_sides t d;
  inner = λ f ts us es o n d. arguments f ts us n d;
  left = λ v t es o w l d. left_takes v t w l d;
  right = λ v t es o w l d. right_takes v t w l d;
  clash = λ t u es c. never_equal t u (λ rs e. c (values_of rs) (sym (replaced_is rs t) ∙ e ∙ replaced_is rs u));
}

-- equations are solved with no fuel
pub solved_by_derivation : SolvedByDerivation
solved_by_derivation = holds_of_answer Solves derived
