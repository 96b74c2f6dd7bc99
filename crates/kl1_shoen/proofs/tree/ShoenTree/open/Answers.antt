use Rattle.std.proofs.Common.{ℕ, List, [], ◌∷◌, ◌++◌, length, sym, ap, arith, subst}
use Rattle.kl1_shoen_paths.specs.declared.shoen.Shoen.{Shoen}
use Rattle.kl1_shoen.specs.Shoens.{Tree, AreCharged}
use Rattle.kl1_shoen.proofs.Charges.{charged_open}
use Rattle.kl1_shoen.proofs.Linked.{linked_open}
use Rattle.kl1_shoen.proofs.tree.ShoenTree.open.Goals as goal

pub invariant_of-self : goal.invariant_of-self
invariant_of-self g c =
    let i = c.self.inside in
    let e = ap (λ (t : Tree g.row.N.Denot). length t.shoens) c.self.view_is in (
      subst (λ (ss : List (Shoen g.row.N.Denot)). AreCharged ss c.push-2.new.self.now i.work) (sym c.push.ensures.now)
          (subst (λ (cs : List ℕ). AreCharged (i.shoens.now ++ c.args.shoen ∷ []) cs i.work) (sym c.push-2.ensures.now)
          (charged_open i.shoens.now i.charges.now i.work c.args.shoen c.self.invariant.0 (omega (arith, e, c.requires.number)) (omega (arith, e, c.requires.parent)))),
      subst (λ (ss : List (Shoen g.row.N.Denot)). AreCharged ss c.push-2.new.self.kept i.kept_work) (sym c.push.ensures.kept)
          (subst (λ (cs : List ℕ). AreCharged i.shoens.kept cs i.kept_work) (sym c.push-2.ensures.kept) c.self.invariant.1),
      linked_open i.shoens.now i.shoens.kept c.push.new.self.now c.push.new.self.kept c.args.shoen i.links c.push-3.new.self c.self.invariant.2 c.push.ensures.now c.push.ensures.kept c.push-3.ensures.linked c.push-3.ensures.kept_first c.push-3.ensures.kept_next,
    )
