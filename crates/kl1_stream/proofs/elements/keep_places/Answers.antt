use Rattle.std.proofs.Common.{sym, ◌∙◌, subst}
use Rattle.kl1_store.specs.Held.{Held}
use Rattle.kl1_store.specs.Fingers.{IsFinger}
use Rattle.kl1_stream.proofs.elements.keep_places.Goals as goal

pub loop-left-preserved : goal.loop-left-preserved
loop-left-preserved g c =
    let i = c.loop-left.invariant in
    let next = c.keep_some.ensures in
    let P : Held g.row.N.Denot → Type 0 = λ h. IsFinger g.N.NameValue.built h c.one_further-next.result in
    record {
      right = subst P (sym next.held) c.one_further-next.ensures;
      held = next.held ∙ i.held;
      room = next.room ∙ i.room;
      hooks = next.hooks ∙ i.hooks;
      hook_room = next.hook_room ∙ i.hook_room;
    }
