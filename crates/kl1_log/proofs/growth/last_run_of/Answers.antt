use Rattle.kl1_log.proofs.LinesPut.{bytes_in, last_read}
use Rattle.kl1_log.proofs.growth.last_run_of.Goals as goal

pub returns : goal.returns
returns c =
    last_read c.args.rules c.run_of.result c.deref.result.now c.loop-rest.last.now.items c.loop-rest.rest.now (bytes_in c.args.lines.now) c.run_of.ensures c.deref.ensures.value c.loop-rest.invariant c.in_default-rest.len_below
