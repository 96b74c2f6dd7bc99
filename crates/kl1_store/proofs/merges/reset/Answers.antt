use Rattle.std.proofs.Common.{refl, set, arith}
use Rattle.kl1_store.proofs.Merging.{reset_inside, reset_outside}
use Rattle.kl1_store.proofs.merges.reset.Goals as goal

pub loop-merge-preserved-then-from-len : goal.loop-merge-preserved-then-from-len
loop-merge-preserved-then-from-len c =
    let l = c.loop-merge in
    let m = c.in-Some.merge in
    reset_inside l.parents.items (set l.parents.items m.from m.from) l.merges.items c.pop.new.self.items m c.in-Some.ensures.items (omega (arith, c.len.ensures, c.if-from-len.true, l.parents.ok.0)) refl l.invariant

pub loop-merge-preserved : goal.loop-merge-preserved
loop-merge-preserved c =
    let l = c.loop-merge in
    reset_outside l.parents.items l.merges.items c.pop.new.self.items c.in-Some.merge c.in-Some.ensures.items (omega (arith, c.len.ensures, c.if-from-len.false, l.parents.ok.0)) l.invariant
