use Rattle.std.proofs.Common.{◌≡◌}
use Rattle.kl1_shoen.specs.Shoens.{is_enabled_at}
use Rattle.kl1_shoen.proofs.tree.ShoenTree.is_enabled.Given as goal

-- the answer for what is left of the path is that for all of it
abbrev pub invariant-loop-at : goal.invariant-loop-at
invariant-loop-at g l = is_enabled_at l.self.shoens l.self.work l.at ≡ is_enabled_at l.self.shoens l.self.work l.number

abbrev pub decreases-loop-at : goal.decreases-loop-at
decreases-loop-at g l = l.at
