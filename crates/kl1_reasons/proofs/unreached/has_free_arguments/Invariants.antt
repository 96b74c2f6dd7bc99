use Rattle.std.proofs.Common.{length}
use Rattle.kl1_reasons.proofs.unreached.has_free_arguments.Given as goal

abbrev pub decreases-loop-rest : goal.decreases-loop-rest
decreases-loop-rest l = length l.rest
