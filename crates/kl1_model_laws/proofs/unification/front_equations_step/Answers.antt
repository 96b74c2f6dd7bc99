use Rattle.kl1_model.proofs.UnifySteps.{arguments_decide, left_takes_right, right_takes_left}
use Rattle.kl1_model_laws.proofs.unification.front_equations_step.Goals as goal

pub returns-clause-arguments : goal.returns-clause-arguments
returns-clause-arguments c = arguments_decide

pub returns-clause-left : goal.returns-clause-left
returns-clause-left c = left_takes_right

pub returns-clause-right : goal.returns-clause-right
returns-clause-right c = right_takes_left
