use Rattle.std.proofs.Common.{sym, ◌∙◌}
use Rattle.kl1_queue.proofs.Laying.{length_over}
use Rattle.kl1_queue.proofs.ready_queue.ReadyQueue.len.Goals as goal

pub returns : goal.returns
returns c = rw (← c.self.view_is) (c.len.ensures ∙ sym (length_over c.self.inside.bits_rank c.self.inside.bits 0 c.self.inside.tree.ranks))
