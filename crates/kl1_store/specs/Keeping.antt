-- How the parts of a store stand for what it keeps.
use Rattle.std.specs.Prelude.{List, ◌-◌, ◌≤◌, min}
use Rattle.kl1_store.specs.declared.levels.Levels.{Levels}
use Rattle.kl1_store.specs.Held.{Stored}
use Rattle.kl1_store.specs.Hooks.{Kept}
use Rattle.kl1_store.specs.Chains.{Hung}
use Rattle.kl1_store.specs.Levels.{AreLevels}
use Rattle.kl1_store.specs.Resting.{AreRests}
use Rattle.kl1_store.specs.declared.rest.Rest.{Rest}
use Rattle.kl1_store.specs.Fingers.{AreFingers}
use Rattle.kl1_store.specs.declared.fingers.Fingers.{Fingers}
use Rattle.kl1_model.specs.declared.built_in.BuiltIn.{BuiltIn}

-- what the cells and the hooks keep: there is room for a variable if both have it
abbrev pub kept_in : {N : Type 0} → Stored N → Hung → Kept N
kept_in s k =
    record {
      held = s.held;
      hooks = k.hooks;
      room = record {
        variables = min s.room.variables (k.memory - s.held.variables);
        structures = s.room.structures;
        arguments = s.room.arguments;
        bindings = s.room.bindings;
      };
      hook_room = k.room;
    }

-- what always holds of the parts: levels are in order, each variable has a head, what is kept of comparisons was left of them, and
-- places in lists are right
pub record IsKept {N : Type 0} (built : BuiltIn → N) (s : Stored N) (k : Hung) (ls : Levels) (rs : List Rest) (gs : Fingers N) : Type 0 where
  pub levels : AreLevels s.held ls
  pub covered : s.held.variables ≤ k.covered
  pub rests : AreRests built s.held rs
  pub fingers : AreFingers built s.held gs
