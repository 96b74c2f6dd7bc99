use Rattle.std.proofs.Common.{length}
use Rattle.kl1_layout.proofs.laid_out.item_below.Given as goal

abbrev pub decreases-loop-rest : goal.decreases-loop-rest
decreases-loop-rest l = length l.rest
