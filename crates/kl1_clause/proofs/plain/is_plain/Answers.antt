use Rattle.std.proofs.Common.{sym, ◌∙◌}
use Rattle.kl1_clause.proofs.Rising.{rising}
use Rattle.kl1_clause.proofs.plain.is_plain.Goals as goal

pub returns : goal.returns
returns c h = record {
  tests_are = c.are_true.ensures c.if-not-are_true.false;
  rising = rising 0 c.args.patterns.now (sym c.is_rising.ensures ∙ h);
}
