use Rattle.std.proofs.Common.{List, sym, subst}
use Rattle.kl1_shoen.specs.Shoens.{AreCharged}
use Rattle.kl1_shoen_paths.specs.declared.shoen.Shoen.{Shoen}
use Rattle.kl1_shoen.proofs.Charges.{charged_with}
use Rattle.kl1_shoen.proofs.Linked.{linked_changed}
use Rattle.kl1_shoen.proofs.tree.ShoenTree.change_below.Goals as goal

pub invariant_of-self-2 : goal.invariant_of-self-2
invariant_of-self-2 g c =
    let i = c.self.inside in (
      charged_with i.shoens.now c.change_all.new.shoens.now i.charges.now i.work c.self.invariant.0 c.change_all.ensures.numbered c.change_all.ensures.parents,
      subst (λ (ss : List (Shoen g.row.N.Denot)). AreCharged ss i.charges.kept i.kept_work) (sym c.change_all.ensures.kept) c.self.invariant.1,
      linked_changed i.shoens.now i.shoens.kept c.change_all.new.shoens.now c.change_all.new.shoens.kept i.links c.self.invariant.2 c.change_all.ensures.parents c.change_all.ensures.kept,
    )
