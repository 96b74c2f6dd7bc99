use Rattle.kl1_atoms.proofs.Showing.{shows_names}
use Rattle.kl1_atoms.proofs.laws.words_show_names.Goals as goal

pub returns : goal.returns
returns c = shows_names
