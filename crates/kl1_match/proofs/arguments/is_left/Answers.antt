use Rattle.std.proofs.Common.{sym, ◌∙◌, arith}
use Rattle.kl1_match.proofs.Cells.{AreSpans-pop, no_next}
use Rattle.kl1_match.proofs.arguments.is_left.Goals as goal

pub loop-span-preserved : goal.loop-span-preserved
loop-span-preserved g c =
    let h = c.args.store.now.held in
    let i = c.loop-span.invariant in
    let p = AreSpans-pop h c.loop-span.behind.items c.pop.new.self.items c.in-Some.outer c.in-Some.ensures.items i.behind in
    record {
      span = p.1;
      behind = p.0;
      same = sym (no_next h c.loop-span.span c.in-Some.outer c.loop-span.behind.items c.pop.new.self.items i.span c.loop-span-test.true c.in-Some.ensures.items) ∙ i.same;
      capacity = c.pop.ensures.capacity ∙ i.capacity;
      len = omega (arith, i.len, c.pop.ensures.len);
    }

pub returns-in_default-clause-capacity : goal.returns-in_default-clause-capacity
returns-in_default-clause-capacity g c = c.pop.ensures.capacity ∙ c.loop-span.invariant.capacity
