use Rattle.kl1_model.proofs.VerdictStays.{clauses_stay}
use Rattle.kl1_model.proofs.TermStays.{head_stays, term_stays}
use Rattle.kl1_model_laws.proofs.waits.goals_wait_for_named_variables.Goals as goal

pub returns : goal.returns
returns c = record { clauses = clauses_stay; head = head_stays; term = term_stays }
