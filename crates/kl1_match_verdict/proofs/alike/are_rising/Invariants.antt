use Rattle.std.proofs.Common.{length}
use Rattle.kl1_match_verdict.specs.Rising.{AreRising}
use Rattle.kl1_match_verdict.proofs.alike.are_rising.Given as goal

-- all places stand in order if those that are left do
abbrev pub invariant-loop-rest : goal.invariant-loop-rest
invariant-loop-rest g l = AreRising l.last l.rest → AreRising 0 l.fn.places

abbrev pub decreases-loop-rest : goal.decreases-loop-rest
decreases-loop-rest g l = length l.rest
