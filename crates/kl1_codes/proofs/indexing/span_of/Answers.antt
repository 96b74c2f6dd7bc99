use Rattle.std.proofs.Common.{sym}
use Rattle.kl1_codes.proofs.Rows.{span_hit, span_miss}
use Rattle.kl1_codes.proofs.indexing.span_of.Goals as goal

pub returns-in-Err : goal.returns-in-Err
returns-in-Err c = sym (span_miss c.args.index.now c.args.key c.in-Err.field-0 c.in-Err.ensures.absent)

pub returns-in-Ok : goal.returns-in-Ok
returns-in-Ok c = sym (span_hit c.args.index.now c.args.key c.in-Ok.place c.requires c.in-Ok.ensures.found ((0, 0), record { start = 0; end = 0 }))
