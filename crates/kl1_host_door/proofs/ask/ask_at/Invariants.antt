use Rattle.std.proofs.Common.{◌≡◌, length}
use Rattle.kl1_host_door.specs.Asks.{ask_among, ask_at}
use Rattle.kl1_host_door.proofs.ask.ask_at.Given as goal

-- what stands at the path is among those that are left
abbrev pub invariant-loop-rest : goal.invariant-loop-rest
invariant-loop-rest l = ask_among l.path l.rest ≡ ask_at l.path

abbrev pub decreases-loop-rest : goal.decreases-loop-rest
decreases-loop-rest l = length l.rest
