use Rattle.std.proofs.Common.{◌++◌, ap, ◌∙◌}
use Rattle.kl1_store.proofs.Recalling.{first_remembered, others_remembered, recalled}
use Rattle.kl1_store.proofs.remembering.recall.Goals as goal

pub returns-then-first-right : goal.returns-then-first-right
returns-then-first-right g c =
    let h = c.args.cells.now.held in
    let slice = c.as_slice.result.now in
    recalled g.N.NameValue.built h c.first-item.result c.args.left c.args.right slice c.args.waits.now.items c.extend_from_slice.new.self.items
    (first_remembered g.N.NameValue.built h c.first-item.result c.loop-rest.rest.now c.in-len1-up.len_at_least c.first-item.is c.loop-rest.invariant.0) c.if-first-left.true c.if-first-right.true c.as_slice.ensures.value
    (c.in_ok-extend_from_slice.ensures.items ∙ ap (λ l. l ++ slice) c.loop-rest.invariant.1)

pub loop-rest-preserved-else-first-right : goal.loop-rest-preserved-else-first-right
loop-rest-preserved-else-first-right g c = (others_remembered g.N.NameValue.built c.args.cells.now.held c.loop-rest.rest.now c.in-len1-up.len_at_least c.loop-rest.invariant.0, c.loop-rest.invariant.1)

pub loop-rest-preserved : goal.loop-rest-preserved
loop-rest-preserved g c = (others_remembered g.N.NameValue.built c.args.cells.now.held c.loop-rest.rest.now c.in-len1-up.len_at_least c.loop-rest.invariant.0, c.loop-rest.invariant.1)
