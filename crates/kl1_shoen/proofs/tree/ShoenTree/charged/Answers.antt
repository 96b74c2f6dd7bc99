use Rattle.std.proofs.Common.{ℕ, List, length, ap, ◌∙◌, arith}
use Rattle.kl1_shoen.specs.Shoens.{Tree, charged_in}
use Rattle.kl1_shoen.proofs.Charges.{charged_zero, charged_beyond}
use Rattle.kl1_shoen.proofs.tree.ShoenTree.charged.Goals as goal

pub returns-then-number-eq0 : goal.returns-then-number-eq0
returns-then-number-eq0 g c = charged_zero c.args.self.now.shoens c.args.self.now.work c.args.number c.if-number-eq0.true

pub returns : goal.returns
returns g c =
    let e = ap (λ (l : List ℕ). length l) c.items-charges.ensures in
    charged_beyond c.self.inside.shoens.now c.self.inside.charges.now c.self.inside.work c.args.number c.self.invariant.0 (omega arith) (omega (arith, e, c.if-place-charges.false))
    ∙ ap (λ (t : Tree g.row.N.Denot). charged_in t.shoens t.work c.args.number) c.self.view_is
