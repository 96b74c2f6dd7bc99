use Rattle.std.proofs.Common.{take}
use Rattle.std.specs.Prelude.{All}
use Rattle.kl1_shoen.specs.Shifts.{Adds, CoversChange}
use Rattle.kl1_shoen.proofs.tree.ShoenTree.add_changed.Given as goal

-- those so far are told of
abbrev pub invariant-loop-was : goal.invariant-loop-was
invariant-loop-was g l = record {
  adds : Adds l.self l.fn.out.items l.out.items;
  covers : All (CoversChange l.self l.out.items) (take l.was-index l.trail);
}
