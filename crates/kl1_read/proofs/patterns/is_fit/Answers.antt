use Rattle.std.proofs.Common.{nat_lt, ap, sym, ◌∙◌, arith}
use Rattle.kl1_model.specs.declared.limits.TheConstants.{MOST_DEPTH}
use Rattle.kl1_read.proofs.FitHeads.{name_unfit, many_unfit, depth_fits}
use Rattle.kl1_read.proofs.patterns.is_fit.Goals as goal

pub returns-then-not-may_name_structure : goal.returns-then-not-may_name_structure
returns-then-not-may_name_structure c = name_unfit c.args.name.now c.args.arguments.now (omega arith) (sym c.if-not-may_name_structure.ensures)

pub returns-then-arguments-gt-MOST_ARGUMENTS : goal.returns-then-arguments-gt-MOST_ARGUMENTS
returns-then-arguments-gt-MOST_ARGUMENTS c = many_unfit c.args.name.now c.args.arguments.now c.if-arguments-gt-MOST_ARGUMENTS.true

pub returns : goal.returns
returns c =
    ap (λ d. nat_lt d MOST_DEPTH) c.deepest.ensures.value ∙ depth_fits c.args.name.now c.args.arguments.now (omega arith) c.if-arguments-gt-MOST_ARGUMENTS.false (sym c.if-not-may_name_structure.ensures) c.shows_text.ensures c.deepest.ensures.narrow
