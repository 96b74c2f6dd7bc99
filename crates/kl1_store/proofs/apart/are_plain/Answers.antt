use Rattle.std.proofs.Common.{arith}
use Rattle.kl1_store.specs.Held.{arguments_of}
use Rattle.kl1_store.proofs.Terms.{arguments_in, within_at}
use Rattle.kl1_store.proofs.Freeing.{free_on, structure_free}
use Rattle.kl1_store.proofs.apart.are_plain.Goals as goal

pub walk-requires : goal.walk-requires
walk-requires g c =
    let h = c.args.cells.now.held in
    within_at h (arguments_of h c.args.structure) c.loop-index.index c.argument-argument.result (arguments_in h c.args.structure c.argument-argument.ensures.formed) c.argument-argument.ensures.is

pub loop-index-preserved : goal.loop-index-preserved
loop-index-preserved g c =
    let h = c.args.cells.now.held in
    let i = c.loop-index.invariant in
    record {
      free = free_on h c.args.variable (arguments_of h c.args.structure) c.loop-index.index c.argument-argument.result c.walk.result i.free c.argument-argument.ensures.is c.walk.ensures.walked (c.is_plain.ensures c.if-not-is_plain.false) c.walk.ensures.means;
      count = i.count;
    }

pub returns : goal.returns
returns g c = λ t.
    let h = c.args.cells.now.held in
    let i = c.loop-index.invariant in
    structure_free h c.args.variable c.args.structure c.loop-index.index c.head-count.ensures.formed c.requires i.free (omega arith)
