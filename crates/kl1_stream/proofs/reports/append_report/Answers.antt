use Rattle.std.proofs.Common.{subst}
use Rattle.std.specs.Prelude.{Option}
use Rattle.kl1_store.specs.declared.cell.Cell.TheVariants as cell
use Rattle.kl1_stream.specs.Sendings.{SentAs}
use Rattle.kl1_stream.proofs.Tails.{has_broken, has_cycle}
use Rattle.kl1_stream.proofs.reports.append_report.Goals as goal

pub returns-in-None-clause-told : goal.returns-in-None-clause-told
returns-in-None-clause-told g c =
    let P : Option _ → Type 0 = λ o. SentAs g.N.NameValue.built c.args.store.now.held c.send.new.store.held c.in-Variable.variable c.args.message o in
    has_cycle g.N.NameValue.built c.args.store.now.held c.send.new.store.held c.args.tail c.in-Variable.variable c.args.message c.args.is_broken c.args.is_last c.if-is_broken.false c.in-Variable.ensures.walked c.in-Variable.ensures.means
    (subst P c.in-None.is c.in_ok-next-in-Variable.ensures.sent)

pub returns-in-Integer-clause-told : goal.returns-in-Integer-clause-told
returns-in-Integer-clause-told g c =
    has_broken g.N.NameValue.built c.args.store.now.held c.args.tail (cell.Integer c.in-Integer._number) c.args.message c.args.is_broken c.args.is_last c.if-is_broken.false c.mark-formed.ensures.formed c.in-Integer.ensures.inside tt c.in-Integer.ensures.means

pub returns-in-Atom-clause-told : goal.returns-in-Atom-clause-told
returns-in-Atom-clause-told g c =
    has_broken g.N.NameValue.built c.args.store.now.held c.args.tail (cell.Atom c.in-Atom._name) c.args.message c.args.is_broken c.args.is_last c.if-is_broken.false c.mark-formed.ensures.formed c.in-Atom.ensures.inside tt c.in-Atom.ensures.means

pub returns-in-Structure-clause-told : goal.returns-in-Structure-clause-told
returns-in-Structure-clause-told g c =
    has_broken g.N.NameValue.built c.args.store.now.held c.args.tail (cell.Structure c.in-Structure._structure) c.args.message c.args.is_broken c.args.is_last c.if-is_broken.false c.mark-formed.ensures.formed c.in-Structure.ensures.inside tt c.in-Structure.ensures.means
