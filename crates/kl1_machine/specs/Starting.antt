-- What goals of the console that are built, and starts, do to a machine.
use Rattle.std.specs.Prelude.{◌≡◌, suc, ◌+◌, ◌-◌, List, [], map}
use Rattle.kl1_model.specs.Term.{Term, variable}
use Rattle.kl1_model.specs.Meaning.{highest}
use Rattle.kl1_model.specs.Opening.{with_next_variables}
use Rattle.kl1_model.specs.State.{names_of, with_names}
use Rattle.kl1_text.specs.Reading.{Reads}
use Rattle.kl1_text.specs.declared.cell_name.CellName.{CellName}
use Rattle.kl1_store.specs.declared.cell.Cell.{Cell}
use Rattle.kl1_store.specs.declared.cell.Cell.TheVariants.{Variable}
use Rattle.kl1_store.specs.Held.{IsIn}
use Rattle.kl1_store.specs.Sound.{Grown}
use Rattle.kl1_shoen_paths.specs.declared.shoen.Origin.{Origin}
use Rattle.kl1_user_effects.specs.Fitting.{Reading, built}
use Rattle.kl1_user_effects.specs.Account.{meaning}
use Rattle.kl1_user_effects.specs.Kept.{IsKeptIn}
use Rattle.kl1_user_effects.specs.Works.{Made}
use Rattle.kl1_machine.specs.declared.machine.Machine.{Machine}
use Rattle.kl1_machine.specs.Machines.{made, IsMachine}

-- a reading reads these numbers as the names of a goal, in order of first use
abbrev pub ReadsNames : List CellName → Term → Reading → Type 0
ReadsNames numbers goal f = map f numbers ≡ with_names [] (names_of goal)

-- a goal of the console was built after its variables, which are the store's next, with these numbers for its names; nothing else has
-- changed, and no variable was bound
pub record BuildsGoal (goal : Term) (numbers : List CellName) (m n : Machine) (x : Cell CellName) : Type 0 where
  pub rest : n ≡ record m { store = n.store }
  pub machine : IsMachine n
  pub grown : Grown m.store.held n.store.held
  pub hooks : n.store.hooks ≡ m.store.hooks
  pub inside : IsIn n.store.held x
  pub variables : n.store.held.variables ≡ m.store.held.variables + highest goal
  pub bindings : n.store.held.bindings ≡ m.store.held.bindings
  pub kept : (f : Reading) → Reads built f → (y : Cell CellName) → IsIn m.store.held y → meaning f n.store.held y ≡ meaning f m.store.held y
  pub means : (f : Reading) → Reads built f → ReadsNames numbers goal f → meaning f n.store.held x ≡ with_next_variables (m.store.held.variables - 1) goal

-- two variables more are the tails of the streams of a shoen for a goal, as the console keeps them; nothing else has changed
pub record OpensStreams (x : Cell CellName) (m n : Machine) (o : Origin CellName) : Type 0 where
  pub rest : n ≡ record m { store = n.store }
  pub machine : IsMachine n
  pub grown : Grown m.store.held n.store.held
  pub hooks : n.store.hooks ≡ m.store.hooks
  pub inside : IsKeptIn n.store.held o
  pub variables : n.store.held.variables ≡ m.store.held.variables + 2
  pub kept : (f : Reading) (y : Cell CellName) → IsIn m.store.held y → meaning f n.store.held y ≡ meaning f m.store.held y
  pub goal : o.goal ≡ x
  pub forgotten : o.forgotten ≡ 0
  pub control : o.control ≡ Variable m.store.held.variables
  pub reports : o.reports ≡ Variable (suc m.store.held.variables)
  pub free : (f : Reading) → (meaning f n.store.held o.control ≡ variable m.store.held.variables) × (meaning f n.store.held o.reports ≡ variable (suc m.store.held.variables))

-- what is made of a machine, if the names of a goal are used besides those that another machine has
abbrev pub naming : Term → Machine → Machine → Made
naming goal m n = record (made n) { names = with_names (made m).names (names_of goal) }
