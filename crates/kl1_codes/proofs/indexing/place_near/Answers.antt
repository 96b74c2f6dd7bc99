use Rattle.kl1_codes.proofs.Rows.{span_miss}
use Rattle.kl1_codes.proofs.indexing.place_near.Goals as goal

pub returns-in-Err : goal.returns-in-Err
returns-in-Err c = span_miss c.args.index.now c.args.key c.in-Err.field-0 c.in-Err.ensures.absent
