use Rattle.std.proofs.Common.{map, ap, ◌∙◌}
use Rattle.kl1_read.specs.Views.{numbered_token}
use Rattle.kl1_read.specs.Series.{single}
use Rattle.kl1_read.proofs.Singles.{single_reads}
use Rattle.kl1_read.proofs.expression.read_expression.Goals as goal

pub returns : goal.returns
returns c = c.lone_term.ensures ∙ ap single c.in_ok-series.ensures ∙ single_reads (map numbered_token c.args.tokens.now)
