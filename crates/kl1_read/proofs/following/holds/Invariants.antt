use Rattle.std.proofs.Common.{◌≡◌, length}
use Rattle.kl1_read.specs.Followings.{holds}
use Rattle.kl1_read.proofs.following.holds.Given as goal

-- what is left holds one if the whole does
abbrev pub invariant-loop-rest : goal.invariant-loop-rest
invariant-loop-rest l = holds l.name l.count l.rest ≡ holds l.name l.count l.clauses

abbrev pub decreases-loop-rest : goal.decreases-loop-rest
decreases-loop-rest l = length l.rest
