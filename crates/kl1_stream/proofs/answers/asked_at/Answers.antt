use Rattle.std.proofs.Common.{sym, ap, ◌∙◌}
use Rattle.std.specs.Prelude.{option_map}
use Rattle.kl1_stream.specs.Askings.{asked_of}
use Rattle.kl1_store.specs.Meaning.{term_of}
use Rattle.kl1_stream.proofs.Asked.{none_there, one_there}
use Rattle.kl1_stream.proofs.answers.asked_at.Goals as goal

pub returns-in_err-element-clause-asking : goal.returns-in_err-element-clause-asking
returns-in_err-element-clause-asking g c = λ f r.
    none_there (term_of f c.args.store.now.held c.args.reports) (term_of f c.args.store.now.held c.nth_cell.result) c.args.place (c.nth_cell.ensures.elements f r) (c.in_err-element.ensures f r) ∙ ap (option_map (asked_of f c.args.store.now.held)) (sym c.from_residual.ensures)

pub returns-clause-asking : goal.returns-clause-asking
returns-clause-asking g c = λ f r.
    one_there (term_of f c.args.store.now.held c.args.reports) (term_of f c.args.store.now.held c.nth_cell.result) (term_of f c.args.store.now.held c.in_ok-element.element) (term_of f c.args.store.now.held c.in_ok-element._rest) c.args.place (option_map (asked_of f c.args.store.now.held) c.asked.result)
    (c.nth_cell.ensures.elements f r) (c.in_ok-element.ensures.is f r) (c.asked.ensures.asking f r)
