use Rattle.std.proofs.Common.{sym, ap}
use Rattle.kl1_journal_entries.specs.Slots.{goal_or, goal_in}
use Rattle.kl1_pool.proofs.restored_deed.goal_of.Goals as goal

pub returns-in-Ok : goal.returns-in-Ok
unfolding goal_in
returns-in-Ok c = sym (ap goal_or c.in-Ok.ensures.goal)
