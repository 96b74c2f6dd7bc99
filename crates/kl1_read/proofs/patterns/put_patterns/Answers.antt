use Rattle.std.proofs.Common.{ap, ◌∙◌}
use Rattle.kl1_read.specs.Statements.{is_fit_name}
use Rattle.kl1_read.proofs.Clauses.{patterns_fit}
use Rattle.kl1_read.proofs.patterns.put_patterns.Goals as goal

pub returns-then-is_fit : goal.returns-then-is_fit
returns-then-is_fit c =
    patterns_fit c.args.name.now c.args.arguments.now.items c.put_terms.new.terms.items c.put_terms.result (c.if-is_fit.ensures ∙ ap (is_fit_name c.args.name.now) c.as_slice.ensures.value) c.put_terms.ensures
