use Rattle.std.proofs.Common.{suc, ◌+◌, drop, ap, ◌∙◌, arith, ◌≡◌}
use Rattle.kl1_model.specs.code.TermCode.{behind}
use Rattle.kl1_match.specs.TestTerms.{tests_of, named_in, terms_from}
use Rattle.kl1_match.proofs.TestForms.{argument_is, argument_is_row}
use Rattle.kl1_match.proofs.test_view.TestViewView.argument.Goals as goal

pub returns-in-Cell-clause-means : goal.returns-in-Cell-clause-means
returns-in-Cell-clause-means g c = λ f. argument_is g.N.NameValue.built f (tests_of c.args.self.now) c.args.structure c.in-Cell.number c.args.index c.argument.result c.in-Cell.is (c.argument.ensures.means f)

pub returns-in-Row-clause-means : goal.returns-in-Row-clause-means
returns-in-Row-clause-means g c = λ f.
    let t = tests_of c.args.self.now in
    let named = named_in g.N.NameValue.built f t in
    let one : c.in-Row.place + 1 ≡ suc c.in-Row.place = omega arith in
    argument_is_row g.N.NameValue.built f t c.args.structure c.in-Row.place c.args.index c.behind_terms.result c.in-Row.is c.requires.index
    (c.behind_terms.ensures.read named ∙ ap (λ n. behind c.args.index (terms_from named (drop n t.row))) one)
