use Rattle.std.proofs.Common.{arith}
use Rattle.kl1_store.specs.Held.{arguments_of}
use Rattle.kl1_store.proofs.Terms.{arguments_in, within_at}
use Rattle.kl1_store.proofs.advance.turn.Goals as goal

pub argument-left-requires : goal.argument-left-requires
argument-left-requires g c = let p = c.requires.pair in record { structure = p.left; index = omega (arith, p.left_count, c.requires.more) }

pub walk-left-requires : goal.walk-left-requires
walk-left-requires g c =
    let h = c.args.cells.now.held in
    within_at h (arguments_of h c.args.frame.left) c.args.frame.next c.argument-left.result (arguments_in h c.args.frame.left c.argument-left.ensures.formed) c.argument-left.ensures.is

pub walk-right-requires : goal.walk-right-requires
walk-right-requires g c =
    let h = c.args.cells.now.held in
    within_at h (arguments_of h c.args.frame.right) c.args.frame.next c.argument-right.result (arguments_in h c.args.frame.right c.argument-right.ensures.formed) c.argument-right.ensures.is
