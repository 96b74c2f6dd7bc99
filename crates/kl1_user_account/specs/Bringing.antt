-- Goals that the console brings to an account.
use Rattle.std.specs.Prelude.{◌≡◌, ℕ, ◌<◌, ◌≤◌, List, [], length}
use Rattle.kl1_model.specs.Rules.{limits_of}
use Rattle.kl1_model.specs.State.{names_of, with_names}
use Rattle.kl1_text.specs.declared.cell_name.CellName.{CellName}
use Rattle.kl1_clause.specs.NameList.{with_texts, IsNameList}
use Rattle.kl1_user_effects.specs.Account.{Account, texts_of}
use Rattle.kl1_machine.specs.declared.machine.bringing.Brought.{Brought}
use Rattle.kl1_machine.specs.Bringing.{goal_of, CanBring}

-- a goal with these names may be brought to an account, and its journal has room for the entry
pub record MayBring (a : Account) (texts : List (List ℕ)) (z : Brought) : Type 0 where
  pub texts_are : texts ≡ with_names [] (names_of (goal_of z))
  pub list : IsNameList texts
  pub few : length (with_texts (texts_of a.names) texts) ≤ (limits_of a.rules).names
  pub can : (numbers : List CellName) → length numbers ≡ length texts → CanBring a.held a.variables a.nodes numbers z
  pub room : a.entries < (limits_of a.rules).entries
