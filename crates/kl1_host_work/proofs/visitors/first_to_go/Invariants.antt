use Rattle.kl1_host_work.specs.Visitors.{IsFirstToGo}
use Rattle.kl1_host_work.proofs.visitors.first_to_go.Given as goal

-- so it is of the places so far
abbrev pub invariant-loop-at : goal.invariant-loop-at
invariant-loop-at g l = IsFirstToGo l.before l.places l.at l.found
