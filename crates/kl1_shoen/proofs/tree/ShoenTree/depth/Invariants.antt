use Rattle.std.proofs.Common.{◌≡◌, ◌+◌, ◌≤◌, length}
use Rattle.kl1_shoen.specs.Shoens.{path_in}
use Rattle.kl1_shoen.proofs.tree.ShoenTree.depth.Given as goal

-- the shoens so far and those left are the path
abbrev pub invariant-path : goal.invariant-path
invariant-path g l = record {
  depth : l.depth + length (path_in l.self.shoens l.at) ≡ length (path_in l.self.shoens l.number);
  few : l.depth + l.at ≤ l.number;
}

abbrev pub decreases-path : goal.decreases-path
decreases-path g l = l.at
