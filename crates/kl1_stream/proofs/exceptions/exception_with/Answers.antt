use Rattle.kl1_stream.proofs.Pairs.{is_exception_with}
use Rattle.kl1_stream.proofs.exceptions.exception_with.Goals as goal

pub returns-clause-exception : goal.returns-clause-exception
returns-clause-exception g c =
    is_exception_with g.N.NameValue.built c.args.store.now.held c.build_three.new.self.held c.args.kind c.args.goal c.args.new c.in_ok-structure.structure c.of-name.result c.of.result
    c.mark-formed.ensures.formed c.requires.goal c.requires.new c.of-name.ensures c.of.ensures c.in_ok-structure.ensures.ok
