use Rattle.kl1_model_server.proofs.Besides.{stays_beside}
use Rattle.kl1_model_server.proofs.Replays.{names_stay, rules_stay, fresh_is_replay, replays_stay}
use Rattle.kl1_model_server.proofs.replays_stay.Goals as goal

pub returns-clause-beside : goal.returns-clause-beside
returns-clause-beside c = stays_beside

pub returns-clause-names : goal.returns-clause-names
returns-clause-names c = names_stay

pub returns-clause-rules : goal.returns-clause-rules
returns-clause-rules c = rules_stay

pub returns-clause-fresh : goal.returns-clause-fresh
returns-clause-fresh c = fresh_is_replay

pub returns-clause-stay : goal.returns-clause-stay
returns-clause-stay c = replays_stay
