use Rattle.std.proofs.Common.{List, take, sym, arith, subst}
use Rattle.kl1_shoen_paths.specs.declared.tracked.Was.{Was}
use Rattle.kl1_shoen_paths.specs.Tracked.{Tracked, IsTrail, put_back}
use Rattle.kl1_shoen_paths.proofs.Trails.{is_trail}
use Rattle.kl1_shoen_paths.proofs.tracked.TrackedList.trail.Goals as goal

pub returns : goal.returns
returns g c =
    let i = c.self.inside in
    let kept = put_back i.was.items (take i.mark i.items.items) in
    subst (λ (t : Tracked g.row.T.Denot). IsTrail t.now t.kept c.deref.result.now) c.self.view_is
    (subst (λ (ws : List (Was g.row.T.Denot)). IsTrail i.items.items kept ws) (sym c.deref.ensures.value)
    (is_trail i.items.items i.was.items i.mark (let m = c.self.invariant in let o = i.items.ok in omega (arith, m, o))))
