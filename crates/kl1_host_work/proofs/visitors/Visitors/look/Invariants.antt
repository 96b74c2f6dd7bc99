use Rattle.std.proofs.Common.{◌≡◌, drop}
use Rattle.kl1_host_work.specs.Visitors.{AreLooked}
use Rattle.kl1_host_work.proofs.visitors.Visitors.look.Given as goal

-- those so far are looked at, and the others are as they were
abbrev pub invariant-loop-place : goal.invariant-loop-place
invariant-loop-place g l = record {
  looked : AreLooked l.initial.place-items l.place-items l.place-index;
  others : drop l.place-index l.place-items ≡ drop l.place-index l.initial.place-items;
}
