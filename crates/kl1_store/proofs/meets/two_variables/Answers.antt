use Rattle.std.proofs.Common.{◌≡◌, arith}
use Rattle.kl1_store.proofs.Meetings.{takes_lower, takes_higher}
use Rattle.kl1_store.proofs.meets.two_variables.Goals as goal

pub returns-then-left-right-2 : goal.returns-then-left-right-2
returns-then-left-right-2 g c =
    let r = c.requires in
    takes_lower c.args.cells.now.held c.args.left c.args.right r.right_in r.left_walked r.right_walked c.if-left-right-2.true

pub returns : goal.returns
returns g c =
    let r = c.requires in
    let ne : c.args.left ≡ c.args.right → ⊥ = c.if-left-right.false in
    takes_higher c.args.cells.now.held c.args.left c.args.right r.left_in r.left_walked r.right_walked (omega (arith, ne))
