use Rattle.kl1_model.proofs.UnifyRule.{nothing_solved, front_decides, front_numbered, highest_is_a_bound, any_bound_serves}
use Rattle.kl1_model_laws.proofs.unification.unification_has_no_fuel.Goals as goal

pub returns-clause-nothing : goal.returns-clause-nothing
returns-clause-nothing c = nothing_solved

pub returns-clause-front : goal.returns-clause-front
returns-clause-front c = front_decides

pub returns-clause-numbers : goal.returns-clause-numbers
returns-clause-numbers c = front_numbered

pub returns-clause-highest : goal.returns-clause-highest
returns-clause-highest c = highest_is_a_bound

pub returns-clause-bound : goal.returns-clause-bound
returns-clause-bound c = any_bound_serves
