use Rattle.std.proofs.Common.{◌≡◌, length}
use Rattle.kl1_host_front.specs.Pauses.{wrongs_in, count_of}
use Rattle.kl1_host_front.proofs.wrong_keys.Pauses.count_of.Given as goal

-- nobody who was looked at is who is looked for
abbrev pub invariant-loop-rest : goal.invariant-loop-rest
invariant-loop-rest l = count_of l.rest l.who l.now ≡ count_of (wrongs_in l.self) l.who l.now

abbrev pub decreases-loop-rest : goal.decreases-loop-rest
decreases-loop-rest l = length l.rest
