use Rattle.std.proofs.Common.{◌*◌, ◌^◌, arith, ℕ}
use Rattle.std.proofs.lemmas.List.{get_or_read}
use Rattle.kl1_queue.specs.Trees.{Leads}
use Rattle.kl1_queue.proofs.tree.first_leaf.Goals.{then-index-top, else-index-top}
use Rattle.kl1_queue.proofs.Descending.{above_leaves, leads_left, leads_right, level_doubles}
use Rattle.kl1_queue.proofs.tree.first_leaf.Goals as goal

pub overflow_mul-node : goal.overflow_mul-node
overflow_mul-node c =
    let a = above_leaves c.args.depth c.loop.counter c.loop.node c.args.best.now.items c.loop-test.true c.loop.invariant.leads in
    omega (arith, a.1, c.requires.tree.size, c.args.best.now.ok.0)

pub index-requires : goal.index-requires
index-requires c =
    let a = above_leaves c.args.depth c.loop.counter c.loop.node c.args.best.now.items c.loop-test.true c.loop.invariant.leads in
    omega (arith, a.1, c.requires.tree.size, c.args.best.now.ok.0)

pub loop-preserved : goal.loop-preserved
loop-preserved c =
    let bs = c.args.best.now.items in
    let half = 2 ^ c.args.depth in
    let level = 2 ^ c.loop.counter in
    let h = c.loop.invariant.leads in
    let a = above_leaves c.args.depth c.loop.counter c.loop.node bs c.loop-test.true h in
    let d = level_doubles c.loop.counter in
    let child = get_or_read bs (2 * c.loop.node) c.index.result.now (omega (arith, a.1, c.requires.tree.size)) c.index.ensures 0 in
    let P : ℕ → ℕ → Type 0 = λ l n. Leads bs l n in
    record {
      top = c.loop.invariant.top;
      leads = elim c.if-index-top.branch [
        | then-index-top w ↦ rw (d, w.node-is) (leads_right half level c.loop.node bs c.requires.tree h a.0 a.1 (omega (arith, w.if-index-top.true, child, c.loop.invariant.top)))
        | else-index-top w ↦ rw (d, w.node-is) (leads_left half level c.loop.node bs c.requires.tree h a.0 a.1 (omega (arith, w.if-index-top.false, child, c.loop.invariant.top)))
      ];
    }
