use Rattle.kl1_model_server.proofs.WrittenStays.{fresh_is_written, written_stays}
use Rattle.kl1_model_server.proofs.journals_stay_written.Goals as goal

pub returns-clause-fresh : goal.returns-clause-fresh
returns-clause-fresh c = fresh_is_written

pub returns-clause-stay : goal.returns-clause-stay
returns-clause-stay c = written_stays
