use Rattle.kl1_stream.proofs.Messages.{ends}
use Rattle.kl1_stream.proofs.sending.end.Goals as goal

pub returns-clause-ok : goal.returns-clause-ok
returns-clause-ok g c =
    ends g.N.NameValue.built c.args.store.now.held c.unify.new.store.held c.args.variable c.of.result c.in_ok-unify.field-0 c.requires.unbound c.of.ensures c.in_ok-unify.ensures.ok
