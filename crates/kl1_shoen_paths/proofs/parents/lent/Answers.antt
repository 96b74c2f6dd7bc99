use Rattle.std.proofs.Common.{sym, ◌∙◌, arith}
use Rattle.kl1_shoen_paths.proofs.Numbered.{found_at, found_none, number_at}
use Rattle.kl1_shoen_paths.proofs.parents.lent.Goals as goal

pub returns-then-number-eq0-clause-value : goal.returns-then-number-eq0-clause-value
returns-then-number-eq0-clause-value g c = sym (found_none c.args.number c.args.shoens.now c.requires c.if-number-eq0.true)

pub returns-clause-value : goal.returns-clause-value
returns-clause-value g c = c.at.ensures ∙ sym (found_at c.args.number c.args.shoens.now c.requires (omega arith))

pub returns-clause-number : goal.returns-clause-number
returns-clause-number g c = number_at c.args.number c.args.shoens.now c.at.result c.requires (omega arith) c.at.ensures
