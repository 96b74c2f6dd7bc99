use Rattle.std.proofs.Common.{◌≡◌, length, take, vec_capacity}
use Rattle.kl1_store.specs.Slots.{ArePlaced}
use Rattle.kl1_store.proofs.bindings.unbind.Given as goal

-- the places are those of the variables that are left, the first of them the same
abbrev pub invariant-loop-variables : goal.invariant-loop-variables
invariant-loop-variables l = record {
  placed : ArePlaced l.places.items l.variables.items;
  first : take l.keep l.variables.items ≡ take l.keep l.fn.variables.items;
  places : length l.places.items ≡ length l.fn.places.items;
  places_capacity : vec_capacity l.places ≡ vec_capacity l.fn.places;
  variables_capacity : vec_capacity l.variables ≡ vec_capacity l.fn.variables;
}

abbrev pub decreases-loop-variables : goal.decreases-loop-variables
decreases-loop-variables l = length l.variables.items
