use Rattle.std.proofs.Common.{◌∷◌, ℕ, List, refl, sym, ap, ◌∙◌}
use Rattle.kl1_shoen_paths.proofs.Paths.{path_zero}
use Rattle.kl1_shoen.proofs.tree.ShoenTree.reached_step.Goals as goal

pub returns-in_default-clause-path : goal.returns-in_default-clause-path
returns-in_default-clause-path g c = c.climb.ensures.end c.in_default.is ∙ ap (λ (ns : List ℕ). c.args.number ∷ ns) (sym (path_zero 0 c.args.self.now.shoens refl))
