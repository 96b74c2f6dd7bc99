use Rattle.std.proofs.Common.{refl, ◌∙◌, set, arith}
use Rattle.std.proofs.lemmas.List.{get_or_default}
use Rattle.kl1_store.proofs.Merging.{root_starts, root_goes_on}
use Rattle.kl1_store.proofs.merges.find_root.Goals as goal

pub loop-at-init : goal.loop-at-init
loop-at-init c = λ ms a. root_starts c.args.parents.now.items c.args.structure ms a

pub loop-at-preserved : goal.loop-at-preserved
loop-at-preserved c = λ ms a.
    let l = c.loop-at in
    root_goes_on l.parents.items (set l.parents.items l.at c.index-over.result.now) c.args.structure l.at c.index-next.result.now c.index-over.result.now ms
    (omega (arith, c.len.ensures, c.loop-at-test.true, l.parents.ok.0)) c.index-next.ensures c.if-next-at.false (c.index-over.ensures ∙ get_or_default l.parents.items c.index-next.result.now c.index-over.result.now c.index-next.result.now (omega (arith, c.len.ensures, c.loop-at-test.true, c.if-next-at.false, l.parents.ok.0))) refl (l.invariant ms a)
