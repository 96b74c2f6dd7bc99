use Rattle.kl1_stream.proofs.Pairs.{is_exception}
use Rattle.kl1_stream.proofs.exceptions.exception_of.Goals as goal

pub returns-clause-exception : goal.returns-clause-exception
returns-clause-exception g c =
    is_exception g.N.NameValue.built c.args.store.now.held c.build_pair.new.self.held c.args.kind c.args.goal c.in_ok-structure.structure c.of-name.result c.of.result
    c.mark-formed.ensures.formed c.requires c.of-name.ensures c.of.ensures c.in_ok-structure.ensures.ok
