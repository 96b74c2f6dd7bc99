use Rattle.std.proofs.Common.{◌≡◌, ◌++◌, take}
use Rattle.kl1_shoen.specs.Shifts.{Adds, shoens_of}
use Rattle.kl1_shoen.proofs.tree.ShoenTree.add_all.Given as goal

-- those so far are added
abbrev pub invariant-loop-number : goal.invariant-loop-number
invariant-loop-number g l = record {
  adds : Adds l.self l.fn.out.items l.out.items;
  numbers : shoens_of l.out.items ≡ shoens_of l.fn.out.items ++ take l.number-index l.numbers;
}
