use Rattle.std.proofs.Common.{not, List, ℕ, sym, ap, ◌∙◌, arith}
use Rattle.std.specs.List.{list_any}
use Rattle.kl1_shoen.specs.Shoens.{is_blocking_at}
use Rattle.kl1_shoen_paths.proofs.Paths.{path_zero}
use Rattle.kl1_shoen.proofs.tree.ShoenTree.is_enabled.Goals as goal

pub returns : goal.returns
returns g c =
    let t = c.args.self.now in
    sym (ap (λ (ns : List ℕ). not (list_any (is_blocking_at t.shoens t.work) ns)) (path_zero c.loop-at.at t.shoens (omega (arith, c.loop-at-test.false))))
    ∙ c.loop-at.invariant
