use Rattle.kl1_log.proofs.Fronts.{cuts_are_fronts, torn_is_dropped, appends_are_fronts}
use Rattle.kl1_log.proofs.DeedsDone.{replays_of_fronts}
use Rattle.kl1_log.proofs.fronts_are_recovered.Goals as goal

pub returns-clause-cuts : goal.returns-clause-cuts
returns-clause-cuts c = cuts_are_fronts

pub returns-clause-torn : goal.returns-clause-torn
returns-clause-torn c = torn_is_dropped

pub returns-clause-appends : goal.returns-clause-appends
returns-clause-appends c = appends_are_fronts

pub returns-clause-replays : goal.returns-clause-replays
returns-clause-replays c = replays_of_fronts
