-- The reader's steps, by the lemmas on them.
use Rattle.kl1_model.proofs.ReadSteps.{reader_steps_are_enough, expressions_leave_less, expressions_go_on, sums_go_on, products_go_on, series_go_on, bodies_go_on, clauses_go_on}
use Rattle.kl1_model_laws.proofs.reading.expressions_go_on.Goals as goal

pub returns-clause-enough : goal.returns-clause-enough
returns-clause-enough c = reader_steps_are_enough

pub returns-clause-less : goal.returns-clause-less
returns-clause-less c = expressions_leave_less

pub returns-clause-expression : goal.returns-clause-expression
returns-clause-expression c = expressions_go_on

pub returns-clause-series : goal.returns-clause-series
returns-clause-series c = series_go_on

pub returns-clause-clause : goal.returns-clause-clause
returns-clause-clause c = clauses_go_on

pub returns-clause-sum : goal.returns-clause-sum
returns-clause-sum c = sums_go_on

pub returns-clause-product : goal.returns-clause-product
returns-clause-product c = products_go_on

pub returns-clause-body : goal.returns-clause-body
returns-clause-body c = bodies_go_on
