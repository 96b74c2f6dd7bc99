use Rattle.std.proofs.Common.{[], ◌∷◌, ◌++◌, ap, ◌∙◌, arith}
use Rattle.kl1_store.proofs.Placed.{placed_more}
use Rattle.kl1_store.proofs.bindings.Bindings.fresh.Goals as goal

pub invariant_of-self-2 : goal.invariant_of-self-2
invariant_of-self-2 g c =
    let s = c.self.inside in
    record {
      placed = placed_more s.places.items c.push_reserved.new.self.items s.variables.items (c.push_reserved.ensures.items ∙ ap (λ l. l ++ 0 ∷ []) c.in_ok-make_room.ensures.items) c.self.invariant.placed;
      paired = c.self.invariant.paired;
      few = omega (arith, c.push_reserved.ensures.len);
    }
