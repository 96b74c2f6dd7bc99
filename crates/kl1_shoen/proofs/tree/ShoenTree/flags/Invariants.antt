use Rattle.std.proofs.Common.{◌≡◌, map, take}
use Rattle.kl1_shoen.specs.Shoens.{is_enabled_at}
use Rattle.kl1_shoen.proofs.tree.ShoenTree.flags.Given as goal

-- those so far are told
abbrev pub invariant-loop-shoen : goal.invariant-loop-shoen
invariant-loop-shoen g l = l.out.items ≡ map (λ h. is_enabled_at l.self.shoens l.self.work h.number) (take l.shoen-index l.shoen-items)
