use Rattle.std.proofs.Common.{[], ◌∷◌, ◌++◌, ◌≡◌, ◌-◌, ◌∙◌, ap, arith, drop, length, length-append, length-drop, length-take, rules}
use Rattle.kl1_match.proofs.Places.{order_step_at, order_end_at}
use Rattle.kl1_match.proofs.variables.put_in_order.Goals as goal

pub loop-rest-preserved : goal.loop-rest-preserved
loop-rest-preserved g c =
    let numbered : c.place-item.result.variable ≡ length c.loop-rest.cells.items = search rules in
    let pushed : c.push_reserved.new.self.items ≡ c.loop-rest.cells.items ++ c.place-item.result.cell ∷ [] = c.push_reserved.ensures.items in (
      order_step_at c.args.cells.now.items c.loop-rest.cells.items c.push_reserved.new.self.items c.args.places.now c.loop-rest.rest.now c.place-item.result c.in-len1-up.len_at_least c.place-item.is numbered pushed c.loop-rest.invariant.0,
      omega (
        arith,
        ap length pushed,
        length-append c.loop-rest.cells.items (c.place-item.result.cell ∷ []),
        c.push_reserved.ensures.capacity,
        c.loop-rest.invariant.1,
        c.in-len1-up.len_at_least,
        length-take (length c.loop-rest.rest.now - 1) (drop 1 c.loop-rest.rest.now),
        length-drop 1 c.loop-rest.rest.now,
      ),
      c.push_reserved.ensures.capacity ∙ c.loop-rest.invariant.2,
    )

pub returns-clause-order : goal.returns-clause-order
returns-clause-order g c h = (order_end_at c.args.cells.now.items c.loop-rest.cells.items c.args.places.now c.loop-rest.rest.now c.in_default.len_below c.loop-rest.invariant.0).0

pub returns-clause-put : goal.returns-clause-put
returns-clause-put g c h = (order_end_at c.args.cells.now.items c.loop-rest.cells.items c.args.places.now c.loop-rest.rest.now c.in_default.len_below c.loop-rest.invariant.0).1
