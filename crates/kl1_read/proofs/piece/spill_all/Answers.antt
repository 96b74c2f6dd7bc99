use Rattle.std.proofs.Common.{◌≡◌, length, arith}
use Rattle.kl1_read.proofs.Arguments.{nodes_go, deep_goes, narrow_goes, end_nodes, end_deep, end_narrow}
use Rattle.kl1_read.proofs.piece.spill_all.Goals as goal

pub loop-argument-preserved : goal.loop-argument-preserved
loop-argument-preserved c =
    record {
      nodes = nodes_go _ c.pop.new.self.items c.loop-argument.arguments.items c.in-Some.argument _ _ c.loop-argument.invariant.nodes c.in-Some.ensures.items c.in_ok-depth.ensures.nodes;
      deep = rw c.max-deepest.ensures (deep_goes _ c.pop.new.self.items c.loop-argument.arguments.items c.in-Some.argument c.loop-argument.deepest c.in_ok-depth.depth c.loop-argument.invariant.deep c.in-Some.ensures.items c.in_ok-depth.ensures.depth);
      narrow = narrow_goes _ c.pop.new.self.items c.loop-argument.arguments.items c.in-Some.argument c.loop-argument.invariant.narrow c.in-Some.ensures.items c.in_ok-depth.ensures.narrow;
    }

pub returns : goal.returns
returns c =
    let none : length c.loop-argument.arguments.items ≡ 0 = omega (arith, c.in_default.ensures.cases.0, c.loop-argument.arguments.ok.0) in
    record {
      nodes = end_nodes c.loop-argument.arguments.items _ _ none c.loop-argument.invariant.nodes;
      depth = end_deep c.loop-argument.arguments.items c.loop-argument.deepest _ none c.loop-argument.invariant.deep;
      narrow = end_narrow c.loop-argument.arguments.items _ none c.loop-argument.invariant.narrow;
    }
