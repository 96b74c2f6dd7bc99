use Rattle.std.proofs.Common.{◌≡◌, ◌+◌, ◌-◌, length, arith, sym}
use Rattle.kl1_goals.proofs.Changing.{empty_end, not_true}
use Rattle.kl1_goals.proofs.places.ends_empty.Goals as goal

pub returns : goal.returns
returns g c = λ e.
    let ss = c.args.slots.now.items in
    let k = c.len-count.result - 1 in
    let len : length ss ≡ k + 1 = omega (arith, c.len-count.ensures, c.args.slots.now.ok.0, c.if-count-eq0.false) in
    empty_end ss k c.index.result.now len (sym c.index.ensures) (not_true c.index.result.now.is_held e)
