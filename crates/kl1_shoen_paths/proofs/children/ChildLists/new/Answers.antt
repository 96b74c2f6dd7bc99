use Rattle.kl1_shoen_paths.proofs.Linking.{linked_none}
use Rattle.kl1_shoen_paths.proofs.children.ChildLists.new.Goals as goal

pub returns-clause-linked : goal.returns-clause-linked
returns-clause-linked c = linked_none c.new.result.now c.new-2.result.now c.new.ensures.now c.new-2.ensures.now

pub returns-clause-kept : goal.returns-clause-kept
returns-clause-kept c = linked_none c.new.result.kept c.new-2.result.kept c.new.ensures.kept c.new-2.ensures.kept
