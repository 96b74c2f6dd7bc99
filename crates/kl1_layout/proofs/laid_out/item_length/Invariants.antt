use Rattle.std.proofs.Common.{◌≤◌, length}
use Rattle.kl1_layout.proofs.laid_out.item_length.Given as goal

abbrev pub invariant-loop-rest : goal.invariant-loop-rest
invariant-loop-rest l = length l.rest ≤ length l.pieces

abbrev pub decreases-loop-rest : goal.decreases-loop-rest
decreases-loop-rest l = length l.rest
