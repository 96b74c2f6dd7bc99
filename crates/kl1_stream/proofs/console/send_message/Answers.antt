use Rattle.std.proofs.lemmas.Result.{IfOk-weaker}
use Rattle.kl1_store.specs.declared.cell.Cell.TheVariants as cell
use Rattle.kl1_stream.specs.Sendings.{SentAs}
use Rattle.kl1_stream.specs.Messages.{PutAs}
use Rattle.kl1_stream.proofs.Putting.{put_as, has_no_variable}
use Rattle.kl1_stream.proofs.console.send_message.Goals as goal

pub returns-in_ok-cell-in-Variable-clause-put : goal.returns-in_ok-cell-in-Variable-clause-put
returns-in_ok-cell-in-Variable-clause-put g c =
    let built = g.N.NameValue.built in
    let mid = c.message_cell.new.store.held in
    let new = c.send.new.store.held in
    let v = c.in-Variable.variable in
    let x = c.in_ok-cell-in-Variable.cell in
    let e = c.in_ok-cell-in-Variable.ensures in
    IfOk-weaker c.send.result (SentAs built mid new v x) (PutAs built c.args.store.now.held new c.args.tail c.args.message)
    (λ o. put_as built c.args.store.now.held mid new c.args.tail v c.args.message x o c.in-Variable.ensures.walked c.in-Variable.ensures.means e.grown e.message) c.send.ensures.sent

pub returns-in-Integer-clause-put : goal.returns-in-Integer-clause-put
returns-in-Integer-clause-put g c =
    has_no_variable g.N.NameValue.built c.args.store.now.held c.args.tail (cell.Integer c.in-Integer._number) c.mark-formed.ensures.formed c.in-Integer.ensures.inside tt c.in-Integer.ensures.means

pub returns-in-Atom-clause-put : goal.returns-in-Atom-clause-put
returns-in-Atom-clause-put g c =
    has_no_variable g.N.NameValue.built c.args.store.now.held c.args.tail (cell.Atom c.in-Atom._name) c.mark-formed.ensures.formed c.in-Atom.ensures.inside tt c.in-Atom.ensures.means

pub returns-in-Structure-clause-put : goal.returns-in-Structure-clause-put
returns-in-Structure-clause-put g c =
    has_no_variable g.N.NameValue.built c.args.store.now.held c.args.tail (cell.Structure c.in-Structure._structure) c.mark-formed.ensures.formed c.in-Structure.ensures.inside tt c.in-Structure.ensures.means
