use Rattle.std.proofs.Common.{◌≡◌}
use Rattle.kl1_store.specs.Fingers.{IsFinger}
use Rattle.kl1_stream.proofs.elements.keep_places.Given as goal

-- the place is right, and nothing but places that are kept is new
abbrev pub invariant-loop-left : goal.invariant-loop-left
invariant-loop-left g l = record {
  right : IsFinger g.N.NameValue.built l.store.held l.finger;
  held : l.store.held ≡ l.initial.store.held;
  room : l.store.room ≡ l.initial.store.room;
  hooks : l.store.hooks ≡ l.initial.store.hooks;
  hook_room : l.store.hook_room ≡ l.initial.store.hook_room;
}

abbrev pub decreases-loop-left : goal.decreases-loop-left
decreases-loop-left g l = l.left
