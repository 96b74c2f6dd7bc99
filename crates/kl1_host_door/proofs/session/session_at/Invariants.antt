use Rattle.std.proofs.Common.{◌≡◌, length}
use Rattle.kl1_host_door.specs.Sessions.{session_at}
use Rattle.kl1_host_door.proofs.session.session_at.Given as goal

-- the session is the first of those that are left
abbrev pub invariant-loop-rest : goal.invariant-loop-rest
invariant-loop-rest l = session_at l.text l.rest ≡ session_at l.text l.sessions

abbrev pub decreases-loop-rest : goal.decreases-loop-rest
decreases-loop-rest l = length l.rest
