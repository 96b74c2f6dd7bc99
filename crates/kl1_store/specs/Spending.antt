-- How much of its room a store uses up, and what room it keeps.
use Rattle.std.specs.Prelude.{ℕ, ◌+◌, ◌≤◌, length}
use Rattle.kl1_store.specs.Held.{Held, Room, arguments_held}

-- of the room for variables, structures, arguments and bindings at most so much is used up
pub record Spends (old new : Room) (vs ss xs bs : ℕ) : Type 0 where
  pub variables : old.variables ≤ new.variables + vs
  pub structures : old.structures ≤ new.structures + ss
  pub arguments : old.arguments ≤ new.arguments + xs
  pub bindings : old.bindings ≤ new.bindings + bs

-- no room but that for bindings is used up, and of that no more than there are bindings more
pub record SpendsOnBindings {N : Type 0} (old : Held N) (before : Room) (new : Held N) (after : Room) : Type 0 where
  pub variables : before.variables ≤ after.variables
  pub structures : before.structures ≤ after.structures
  pub arguments : before.arguments ≤ after.arguments
  pub bindings : length old.bindings + before.bindings ≤ length new.bindings + after.bindings

-- what is held and the room beyond it, taken together, are no less than before: what is held no more has left room
pub record FreesRoom {N : Type 0} (old : Held N) (before : Room) (new : Held N) (after : Room) : Type 0 where
  pub variables : old.variables + before.variables ≤ new.variables + after.variables
  pub structures : length old.structures + before.structures ≤ length new.structures + after.structures
  pub arguments : arguments_held old.structures + before.arguments ≤ arguments_held new.structures + after.arguments
  pub bindings : length old.bindings + before.bindings ≤ length new.bindings + after.bindings
