-- The tokens of a text, by the lemmas on steps.
use Rattle.kl1_model.proofs.LexSteps.{fronts_leave_less, steps_are_enough, tokens_go_on}
use Rattle.kl1_model_laws.proofs.reading.tokens_go_on.Goals as goal

pub returns-clause-less : goal.returns-clause-less
returns-clause-less c = fronts_leave_less

pub returns-clause-enough : goal.returns-clause-enough
returns-clause-enough c = steps_are_enough

pub returns-clause-step : goal.returns-clause-step
returns-clause-step c = tokens_go_on
