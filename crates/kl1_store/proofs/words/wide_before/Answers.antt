use Rattle.std.proofs.Common.{length}
use Rattle.kl1_store.proofs.Ordering.{skips_first}
use Rattle.kl1_store.proofs.words.wide_before.Goals as goal

pub loop-place-init : goal.loop-place-init
loop-place-init g c = skips_first c.args.words.now.items c.args.count (length c.args.wide.now.items) c.requires.order
