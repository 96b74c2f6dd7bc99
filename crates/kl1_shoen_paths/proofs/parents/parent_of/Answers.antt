use Rattle.kl1_shoen_paths.proofs.Paths.{path_zero, parent_below, path_parent}
use Rattle.kl1_shoen_paths.proofs.parents.parent_of.Goals as goal

pub returns-clause-below : goal.returns-clause-below
returns-clause-below g c = parent_below c.args.number c.parent_named.result c.args.shoens.now c.requires.numbered c.requires.lower c.parent_named.ensures

pub returns-clause-path : goal.returns-clause-path
returns-clause-path g c = path_parent c.args.number c.parent_named.result c.args.shoens.now c.requires.numbered c.requires.lower c.parent_named.ensures

pub returns-clause-end : goal.returns-clause-end
returns-clause-end g c = path_zero c.args.number c.args.shoens.now
