use Rattle.kl1_model_server.proofs.ReplayReplies.{replies_of_replays, fresh_is_replayable, replayable_stays}
use Rattle.kl1_model_server.proofs.replays_tell_replies.Goals as goal

pub returns-clause-replies : goal.returns-clause-replies
returns-clause-replies c = replies_of_replays

pub returns-clause-fresh : goal.returns-clause-fresh
returns-clause-fresh c = fresh_is_replayable

pub returns-clause-stay : goal.returns-clause-stay
returns-clause-stay c = replayable_stays
