use Rattle.kl1_shoen.proofs.Charges.{charged_none}
use Rattle.kl1_shoen.proofs.Linked.{linked_start}
use Rattle.kl1_shoen.proofs.tree.ShoenTree.new.Goals as goal

pub invariant_of-result : goal.invariant_of-result
invariant_of-result g c = (
  charged_none c.new.result.now c.new-2.result.now c.new-4.result c.new.ensures.now c.new-2.ensures.now c.new-4.ensures,
  charged_none c.new.result.kept c.new-2.result.kept c.new-5.result c.new.ensures.kept c.new-2.ensures.kept c.new-5.ensures,
  linked_start c.new.result.now c.new.result.kept c.new-3.result c.new.ensures.now c.new.ensures.kept c.new-3.ensures.linked c.new-3.ensures.kept,
)
