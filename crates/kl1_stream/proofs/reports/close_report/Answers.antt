use Rattle.std.proofs.lemmas.Result.{on_ok_weaker}
use Rattle.kl1_store.specs.declared.cell.Cell.TheVariants as cell
use Rattle.kl1_stream.proofs.Tails.{has_ended, stays_ended}
use Rattle.kl1_stream.proofs.reports.close_report.Goals as goal

pub returns-in-Variable-clause-closed : goal.returns-in-Variable-clause-closed
returns-in-Variable-clause-closed g c =
    on_ok_weaker c.end.result (has_ended g.N.NameValue.built c.args.store.now.held c.end.new.store.held c.args.tail c.in-Variable.variable c.args.is_broken c.if-is_broken.false c.in-Variable.ensures.walked c.in-Variable.ensures.means) c.end.ensures.ok

pub returns-in-Integer-clause-closed : goal.returns-in-Integer-clause-closed
returns-in-Integer-clause-closed g c =
    stays_ended g.N.NameValue.built c.args.store.now.held c.args.tail (cell.Integer c.in-Integer._number) c.args.is_broken c.if-is_broken.false c.mark-formed.ensures.formed c.in-Integer.ensures.inside tt c.in-Integer.ensures.means

pub returns-in-Atom-clause-closed : goal.returns-in-Atom-clause-closed
returns-in-Atom-clause-closed g c =
    stays_ended g.N.NameValue.built c.args.store.now.held c.args.tail (cell.Atom c.in-Atom._name) c.args.is_broken c.if-is_broken.false c.mark-formed.ensures.formed c.in-Atom.ensures.inside tt c.in-Atom.ensures.means

pub returns-in-Structure-clause-closed : goal.returns-in-Structure-clause-closed
returns-in-Structure-clause-closed g c =
    stays_ended g.N.NameValue.built c.args.store.now.held c.args.tail (cell.Structure c.in-Structure._structure) c.args.is_broken c.if-is_broken.false c.mark-formed.ensures.formed c.in-Structure.ensures.inside tt c.in-Structure.ensures.means
