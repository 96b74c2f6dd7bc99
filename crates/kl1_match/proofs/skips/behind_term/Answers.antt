use Rattle.std.proofs.Common.{◌+◌, drop, ap, ◌∙◌, sym}
use Rattle.kl1_model.specs.code.TermCode.{behind}
use Rattle.kl1_match.specs.TestTerms.{terms_from}
use Rattle.kl1_match.proofs.Reading.{behind_one}
use Rattle.kl1_clause.specs.declared.instruction.Instruction.TheVariants.{Variable}
use Rattle.kl1_match.proofs.Skipping.{first_ahead}
use Rattle.kl1_match.proofs.skips.behind_term.Goals as goal

pub returns-clause-behind : goal.returns-clause-behind
returns-clause-behind c = λ names p ps e. let a = first_ahead names c.args.row.now c.args.from (Variable 0) p ps c.requires e in c.behind_terms.ensures.behind names a.terms ps (a.counted ∙ sym c.arguments_of.ensures) a.row_is

pub returns-clause-read : goal.returns-clause-read
returns-clause-read c = λ named.
    let rest = terms_from named (drop (c.args.from + 1) c.args.row.now) in
    behind_one named c.args.row.now c.args.from (Variable 0) (terms_from named (drop c.behind_terms.result c.args.row.now)) c.requires (c.behind_terms.ensures.read named ∙ ap (λ n. behind n rest) c.arguments_of.ensures)
