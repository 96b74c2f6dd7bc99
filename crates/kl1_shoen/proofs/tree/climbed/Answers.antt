use Rattle.kl1_shoen.proofs.Paths.{lent_below, lent_path, lent_end}
use Rattle.kl1_shoen.proofs.tree.climbed.Goals as goal

pub returns-clause-below : goal.returns-clause-below
returns-clause-below g c = lent_below c.args.number c.args.shoens.now c.lent.result c.requires.numbered c.requires.lower c.lent.ensures.value c.requires.some

pub returns-clause-path : goal.returns-clause-path
returns-clause-path g c = lent_path c.args.number c.args.shoens.now c.lent.result c.requires.numbered c.requires.lower c.lent.ensures.value c.requires.some

pub returns-clause-end : goal.returns-clause-end
returns-clause-end g c = lent_end c.args.number c.args.shoens.now c.lent.result c.requires.numbered c.requires.lower c.lent.ensures.value c.requires.some
