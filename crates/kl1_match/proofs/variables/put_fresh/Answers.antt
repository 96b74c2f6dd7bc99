use Rattle.std.proofs.Common.{[], ◌∷◌, ◌∙◌, ap, arith, length, length-append}
use Rattle.kl1_store.specs.declared.cell.Cell.TheVariants.{Variable}
use Rattle.kl1_match.proofs.Places.{fresh_more}
use Rattle.kl1_match.proofs.variables.put_fresh.Goals as goal

pub loop-left-preserved : goal.loop-left-preserved
loop-left-preserved g c = (
  fresh_more c.args.store.now.held c.loop-left.store.held c.fresh.new.self.held c.args.cells.now.items c.loop-left.cells.items c.push_reserved.new.self.items c.args.count c.loop-left.left c.in_ok-number.number
      c.loop-left-test.true c.loop-left.invariant.0 c.in_ok-number.ensures.ok.0 c.in_ok-number.ensures.ok.1 c.push_reserved.ensures.items,
  c.fresh.ensures.hooks ∙ c.loop-left.invariant.1,
  omega (arith, ap length c.push_reserved.ensures.items, length-append c.loop-left.cells.items (Variable c.in_ok-number.number ∷ []), c.push_reserved.ensures.capacity, c.loop-left.invariant.2, c.loop-left-test.true),
)
