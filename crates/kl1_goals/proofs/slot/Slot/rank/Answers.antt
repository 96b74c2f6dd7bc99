use Rattle.std.proofs.Common.{Some, set, ap, ◌∙◌}
use Rattle.kl1_queue.specs.Ranks.{Queued, rank_of}
use Rattle.kl1_goals.proofs.Changing.{priority_low}
use Rattle.kl1_goals.proofs.slot.Slot.rank.Goals as goal

pub put-requires-clause-priority : goal.put-requires-clause-priority
put-requires-clause-priority g c = priority_low c.args.self.now (Some c.in-Some.priority) c.requires.priority c.in-Some.ensures

pub returns-in-None : goal.returns-in-None
returns-in-None g c = ap (λ (q : Queued). q.ranks) c.remove.ensures ∙ ap (λ r. set c.args.queue.now.ranks c.args.place (rank_of r)) c.in-None.ensures

pub returns-in-Some : goal.returns-in-Some
returns-in-Some g c = ap (λ (q : Queued). q.ranks) c.put.ensures ∙ ap (λ r. set c.args.queue.now.ranks c.args.place (rank_of r)) c.in-Some.ensures
