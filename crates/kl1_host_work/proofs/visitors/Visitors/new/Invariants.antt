use Rattle.std.proofs.Common.{◌≡◌, map}
use Rattle.kl1_host_work.specs.Places.{free}
use Rattle.kl1_host_work.proofs.visitors.Visitors.new.Given as goal

-- a free place for each share so far
abbrev pub invariant-loop-share : goal.invariant-loop-share
invariant-loop-share g l = l.places.items ≡ map free l.yielded
