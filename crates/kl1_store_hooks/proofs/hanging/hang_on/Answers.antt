use Rattle.kl1_store_hooks.proofs.Hooked.{next_within, next_hangs}
use Rattle.kl1_store_hooks.proofs.hanging.hang_on.Goals as goal

pub hang_once-requires : goal.hang_once-requires
hang_once-requires g c = next_within c.args.store.now c.loop-variable.store c.args.number c.loop-variable.variable-index 0 c.args.awaited.now c.requires c.loop-variable-test.true c.loop-variable.invariant

pub loop-variable-preserved : goal.loop-variable-preserved
loop-variable-preserved g c =
    next_hangs c.args.store.now c.loop-variable.store c.hang_once.new.store c.args.number c.loop-variable.variable-index 0 c.args.awaited.now c.loop-variable-test.true c.loop-variable.invariant
    c.in_ok-hang_once.ensures.held c.in_ok-hang_once.ensures.grown c.in_ok-hang_once.ensures.hangs
