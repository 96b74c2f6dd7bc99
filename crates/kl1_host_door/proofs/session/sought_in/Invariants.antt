use Rattle.std.proofs.Common.{◌≡◌, true, length}
use Rattle.kl1_host_door.specs.Sessions.{sought_from}
use Rattle.kl1_host_door.proofs.session.sought_in.Given as goal

-- the session that is sought is told by what is left
abbrev pub invariant-loop-rest : goal.invariant-loop-rest
invariant-loop-rest l = sought_from l.owned l.fields l.sessions l.begins l.rest ≡ sought_from l.owned l.fields l.sessions true l.header

abbrev pub decreases-loop-rest : goal.decreases-loop-rest
decreases-loop-rest l = length l.rest
