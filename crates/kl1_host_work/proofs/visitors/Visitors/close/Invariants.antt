use Rattle.std.proofs.Common.{◌≡◌, drop}
use Rattle.kl1_host_work.specs.Visitors.{AreTold}
use Rattle.kl1_host_work.proofs.visitors.Visitors.close.Given as goal

-- those so far are told to end, and the others are as they were
abbrev pub invariant-loop-place : goal.invariant-loop-place
invariant-loop-place g l = record {
  told : AreTold l.initial.place-items l.place-items l.place-index;
  others : drop l.place-index l.place-items ≡ drop l.place-index l.initial.place-items;
}
