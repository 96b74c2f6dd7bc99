use Rattle.std.proofs.Common.{rules, ◌≡◌, sym, ap, ◌∙◌, arith}
use Rattle.kl1_model.specs.Guard.{compared}
use Rattle.kl1_clause.specs.declared.instruction.Instruction.TheVariants as instruction
use Rattle.kl1_match.proofs.AtOnce.{row_at_once}
use Rattle.kl1_match.proofs.at_once.known_at_once.Goals as goal

pub returns : goal.returns
returns g c = λ names awaited.
    let same : c.holds.result ≡ compared c.in-Some.comparison c.in-Some-integer_at.left c.in-Some-integer_at-2.right = search rules in
    row_at_once g.N.NameValue.built c.args.store.now.held names c.args.row.now c.args.places.now c.in-Language.name c.in-Some.comparison c.instruction_at-2.result c.instruction_at-3.result c.in-Some-integer_at.left c.in-Some-integer_at-2.right c.holds.result awaited
    (omega (arith, c.if-row-ne3.false))
    (sym c.instruction_at.ensures ∙ c.in-Structure-default-eq2.is ∙ ap (λ n. instruction.Structure c.in-Structure-default-eq2.name n) c.in-Structure-default-eq2.field-1-test ∙ ap (λ n. instruction.Structure n 2) c.in-Language.is)
    (sym c.instruction_at-2.ensures) (sym c.instruction_at-3.ensures)
    c.in-Some.ensures c.in-Some-integer_at.ensures c.in-Some-integer_at-2.ensures same
