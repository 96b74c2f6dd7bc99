use Rattle.std.proofs.Common.{◌-◌, ◌∙◌, false, arith}
use Rattle.kl1_goals.specs.Slots.{held_in}
use Rattle.kl1_goals.proofs.Changing.{not_true, not_false}
use Rattle.kl1_goals.proofs.Chaining.{empty_link, read_at}
use Rattle.kl1_goals.proofs.chains.leads_to_empty.Goals as goal

pub returns-clause-empty : goal.returns-clause-empty
returns-clause-empty g c = λ e.
    let ss = c.args.slots.now.items in
    let k = c.args.link - 1 in
    empty_link ss c.args.link k c.index.result.now (omega (arith, c.if-link-eq0.false)) (omega (arith, c.requires, c.if-link-eq0.false)) c.index.ensures (not_true c.index.result.now.is_held e)

pub returns-clause-held : goal.returns-clause-held
returns-clause-held g c = λ e some.
    let ss = c.args.slots.now.items in
    let k = c.args.link - 1 in
    read_at held_in ss k c.index.result.now false (omega (arith, c.requires, c.if-link-eq0.false)) c.index.ensures ∙ not_false c.index.result.now.is_held e
