use Rattle.std.proofs.Common.{◌+◌, ◌-◌, length}
use Rattle.kl1_trace_work.proofs.profile.reach.Given as goal

abbrev pub decreases-loop-row : goal.decreases-loop-row
decreases-loop-row l = (l.place + 1) - length l.row.items
