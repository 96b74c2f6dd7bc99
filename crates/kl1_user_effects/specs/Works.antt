-- What is made of an account, one change after another, before all of it is put in place.
use Rattle.std.specs.Prelude.{◌≡◌, ℕ, ◌<◌, List, length}
use Rattle.kl1_model.specs.declared.rules.Rules.{Rules}
use Rattle.kl1_model.specs.State.{State}
use Rattle.kl1_text.specs.Reading.{Reads}
use Rattle.kl1_text.specs.declared.cell_name.CellName.{CellName}
use Rattle.kl1_store.specs.Held.{Held}
use Rattle.kl1_goals.specs.declared.goal.Goal.{Goal}
use Rattle.kl1_shoen_paths.specs.declared.shoen.Shoen.{Shoen}
use Rattle.kl1_codes.specs.Numbered.{Numbered, AreRead}
use Rattle.kl1_user_effects.specs.Fitting.{Reading, built}
use Rattle.kl1_user_effects.specs.Account.{with_kept}
use Rattle.kl1_user_effects.specs.Kept.{AreGoalsIn, AreOwned, AreShoensIn}

-- what is made of an account: its rules; its goals and its shoens; the charged work; the texts of its names; the last number of a goal; and the
-- variables, structures and reports that are counted
pub record Made : Type 0 where
  pub rules : Rules
  pub goals : List (Goal CellName)
  pub shoens : List (Shoen CellName)
  pub work : List ℕ
  pub names : List (List ℕ)
  pub last_goal : ℕ
  pub variables : ℕ
  pub nodes : ℕ
  pub reports : ℕ

-- a state with what is made of it, and the cells of a store, for a reading
abbrev pub worked : Reading → State → Held CellName → Made → State
worked f s h w =
    with_kept f (record s {
      rules = w.rules;
      work = w.work;
      names = w.names;
      last_goal = w.last_goal;
      last_shoen = length w.shoens;
      variables = w.variables;
      nodes = w.nodes;
      reports = w.reports;
    }) h w.goals w.shoens

-- what is made has the cells of a store, and its goals are of its shoens
pub record IsMadeIn (h : Held CellName) (w : Made) : Type 0 where
  pub some : 0 < h.variables
  pub goals : AreGoalsIn h w.goals
  pub shoens : AreShoensIn h w.shoens
  pub owned : AreOwned (length w.shoens) w.goals

-- a reading that reads the names of the language, and the numbers of each of these modules as its names
pub record Knows (ms : List Numbered) (f : Reading) : Type 0 where
  pub reads : Reads built f
  pub rows : AreRead f ms

-- what is made has come on by this change of states, for each reading that knows these modules
pub record Turns (ms : List Numbered) (change : Reading → State → State) (old new : Held CellName) (before after : Made) : Type 0 where
  pub inside : IsMadeIn new after
  pub states : (f : Reading) → Knows ms f → (s : State) → change f (worked f s old before) ≡ worked f s new after
