use Rattle.kl1_codes.proofs.Rows.{span_hit}
use Rattle.kl1_codes.proofs.indexing.span_on.Goals as goal

pub returns-then-is_at : goal.returns-then-is_at
returns-then-is_at c = span_hit c.args.index.now c.args.key c.args.place c.requires (c.is_at.ensures c.if-is_at.true) ((0, 0), record { start = 0; end = 0 })
