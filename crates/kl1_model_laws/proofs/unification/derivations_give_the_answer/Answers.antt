use Rattle.kl1_model.proofs.UnifyDerivation.{solved_by_derivation, derivations_agree}
use Rattle.kl1_model_laws.proofs.unification.derivations_give_the_answer.Goals as goal

pub returns-clause-solved : goal.returns-clause-solved
returns-clause-solved c = solved_by_derivation

pub returns-clause-one : goal.returns-clause-one
returns-clause-one c = derivations_agree
