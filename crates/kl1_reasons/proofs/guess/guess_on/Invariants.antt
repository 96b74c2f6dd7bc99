use Rattle.std.proofs.Common.{◌-◌, length}
use Rattle.kl1_reasons.proofs.guess.guess_on.Given as goal

abbrev pub decreases-loop-at : goal.decreases-loop-at
decreases-loop-at l = length l.text - l.at
