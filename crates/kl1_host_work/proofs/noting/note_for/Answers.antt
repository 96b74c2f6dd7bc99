use Rattle.kl1_pool.specs.Names.{called_at}
use Rattle.kl1_host_work.proofs.Notices.{noted_by}
use Rattle.kl1_host_work.proofs.noting.note_for.Goals as goal

-- the leave that was held waits for what was seen
pub returns : goal.returns
returns g c = noted_by g.K.PoolIds.rules (called_at g.K.Names.names c.args.account) c.args.account c.look-is_seen.result c.look-is_seen.new.reader.outgoing c.if_held.result c.if_held.ensures c.look-is_seen.ensures.seen
