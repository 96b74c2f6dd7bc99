use Rattle.kl1_stream.proofs.control.read_word.Goals as goal

pub returns-in-Atom-clause-inside : goal.returns-in-Atom-clause-inside
returns-in-Atom-clause-inside g c = c.atom_said.ensures.inside c.args.store.now.held
