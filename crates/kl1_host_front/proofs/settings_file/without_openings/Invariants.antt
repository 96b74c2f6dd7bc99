use Rattle.std.proofs.Common.{length}
use Rattle.kl1_host_front.proofs.settings_file.without_openings.Given as goal

abbrev pub decreases-loop-rest : goal.decreases-loop-rest
decreases-loop-rest l = length l.rest
