use Rattle.std.proofs.Common.{ap, rules}
use Rattle.kl1_model.specs.declared.built_in.BuiltIn.TheVariants as built_in
use Rattle.kl1_model.specs.Control.{message_term}
use Rattle.kl1_stream.proofs.Putting.{atom_message, allow_message}
use Rattle.kl1_stream.proofs.console.message_cell.Goals as goal

pub returns-in-Stop-clause-message : goal.returns-in-Stop-clause-message
returns-in-Stop-clause-message g c = atom_message g.N.NameValue.built c.args.store.now.held c.args.message built_in.Stop c.of.result c.of.ensures (ap message_term c.in-Stop.is)

pub returns-in-Start-clause-message : goal.returns-in-Start-clause-message
returns-in-Start-clause-message g c = atom_message g.N.NameValue.built c.args.store.now.held c.args.message built_in.Start c.of-in-Start.result c.of-in-Start.ensures (ap message_term c.in-Start.is)

pub returns-in-Abort-clause-message : goal.returns-in-Abort-clause-message
returns-in-Abort-clause-message g c = atom_message g.N.NameValue.built c.args.store.now.held c.args.message built_in.Abort c.of-in-Abort.result c.of-in-Abort.ensures (ap message_term c.in-Abort.is)

pub returns-in_ok-structure-in-Allow-clause-message : goal.returns-in_ok-structure-in-Allow-clause-message
returns-in_ok-structure-in-Allow-clause-message g c =
    allow_message g.N.NameValue.built c.args.store.now.held c.build_one.new.self.held c.args.message c.in-Allow.more c.in_ok-structure-in-Allow.structure _ c.of-name.result c.mark-formed.ensures.formed
    c.in-Allow.is (search rules) c.of-name.ensures c.in_ok-structure-in-Allow.ensures.ok
