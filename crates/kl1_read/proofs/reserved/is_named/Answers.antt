use Rattle.std.proofs.Common.{sym}
use Rattle.kl1_read.proofs.FitHeads.{named_next}
use Rattle.kl1_read.proofs.reserved.is_named.Goals as goal

pub loop-built_in-preserved : goal.loop-built_in-preserved
loop-built_in-preserved c = named_next c.args.name.now c.args.names.now c.loop-built_in.built_in-index _ c.of_built_in.result _ c.loop-built_in-test.true c.of_built_in.ensures (sym c.if-is.ensures.value) c.loop-built_in.invariant
