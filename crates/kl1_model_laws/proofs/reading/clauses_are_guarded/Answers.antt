-- Clauses that were read, by the lemma on modules.
use Rattle.kl1_model.proofs.ReadClauses.{clauses_are_guarded}
use Rattle.kl1_model_laws.proofs.reading.clauses_are_guarded.Goals as goal

pub returns : goal.returns
returns c = clauses_are_guarded
