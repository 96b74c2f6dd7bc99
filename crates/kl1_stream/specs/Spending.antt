-- How much of its room a store uses up for a message.
use Rattle.std.specs.Prelude.{◌+◌, ◌≤◌, length}
use Rattle.kl1_store.specs.Held.{Held, Room}

-- one variable, one structure and two arguments at most are used up, and of the room for bindings no more than there are bindings more
pub record SpendsOnMessage {N : Type 0} (old : Held N) (before : Room) (new : Held N) (after : Room) : Type 0 where
  pub variables : before.variables ≤ after.variables + 1
  pub structures : before.structures ≤ after.structures + 1
  pub arguments : before.arguments ≤ after.arguments + 2
  pub bindings : length old.bindings + before.bindings ≤ length new.bindings + after.bindings

-- one variable, two structures and three arguments at most are used up, and of the room for bindings no more than there are bindings more
pub record SpendsOnControl {N : Type 0} (old : Held N) (before : Room) (new : Held N) (after : Room) : Type 0 where
  pub variables : before.variables ≤ after.variables + 1
  pub structures : before.structures ≤ after.structures + 2
  pub arguments : before.arguments ≤ after.arguments + 3
  pub bindings : length old.bindings + before.bindings ≤ length new.bindings + after.bindings
