use Rattle.std.proofs.Common.{subst}
use Rattle.kl1_atoms.specs.Rule.{Kept}
use Rattle.kl1_atoms.proofs.Showing.{shows_names}
use Rattle.kl1_atoms.proofs.atom_table.AtomTable.shows_names.Goals as goal

pub returns : goal.returns
returns c = λ s kept. shows_names c.args.self.now.entries s (subst (λ n. Kept n s) c.args.self.now.key kept)
