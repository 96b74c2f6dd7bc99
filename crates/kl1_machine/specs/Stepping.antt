-- What the step of a goal does to a machine, if a name that is new may come of it.
use Rattle.std.specs.Prelude.{◌≡◌, List}
use Rattle.kl1_model.specs.Tree.{charge}
use Rattle.kl1_model.specs.Ending.{after_reduction}
use Rattle.kl1_model.specs.Reduction as model
use Rattle.kl1_model.specs.Reduction.{moved}
use Rattle.kl1_text.specs.declared.cell_name.CellName.{CellName}
use Rattle.kl1_store.specs.declared.qualified.Qualified.{Qualified}
use Rattle.kl1_store.specs.Held.{Held}
use Rattle.kl1_goals.specs.declared.goal.Goal.{Goal}
use Rattle.kl1_codes.specs.Numbered.{Numbered}
use Rattle.kl1_user_effects.specs.Fitting.{Reading}
use Rattle.kl1_user_effects.specs.Account.{meaning, goal_with, aim}
use Rattle.kl1_user_effects.specs.Works as works
use Rattle.kl1_user_effects.specs.Moving.{name_for}
use Rattle.kl1_machine.specs.declared.machine.Machine.{Machine}
use Rattle.kl1_machine.specs.Machines.{made, most_names, IsMachine}
use Rattle.kl1_machine.specs.Moving.{Making, IsMade}
use Rattle.kl1_machine.specs.Naming.{ReadsAll, IsBoundLast, HoldsSpare, Patches, HasName}

-- a goal that is cell `x` and has been removed has made a move: its shoen was charged before, and shoens of its path have reported that
-- they are exhausted, or have terminated, after it; whatever number a name that is new gets, if it stands where the spare number does
pub record StepsAs (a : Making) (goal : Goal CellName) (x : Qualified CellName) (m n : Machine) : Type 0 where
  pub turns : (ms : List Numbered) (k : Reading → model.Move) (key : CellName) (last : Held CellName) → ReadsAll (most_names m) a.move ms m.store.held m.names.names a.text key → Patches n.spelled key n.store.held last → IsMade a ms m k →
      works.Turns ms (λ f s. after_reduction goal.shoen (moved (goal_with (meaning f m.store.held) goal) (aim f m.store.held x) (k f) (charge goal.shoen s))) m.store.held last (made m) (made n)
  pub machine : IsMachine n
  pub name : n.name ≡ name_for (most_names m) a.move m.names.names a.text
  pub last : IsBoundLast n.spelled n.store.held
  pub spare_last : HoldsSpare n.spelled n.store.held
  pub has : HasName n.spelled n.name
