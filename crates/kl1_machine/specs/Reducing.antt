-- Reductions: which are refused, and what one leaves.
use Rattle.std.specs.Prelude.{◌≡◌, ℕ, ◌&&◌, Bool, true, List, find, Some}
use Rattle.kl1_model.specs.State.{State}
use Rattle.kl1_model.specs.Choice.{is_in_run}
use Rattle.kl1_model.specs.Event.{reduce, refuse, is_number, is_full, needs_entry}
use Rattle.kl1_model.specs.Step.{step}
use Rattle.kl1_model.specs.Reduction.{Action, acted}
use Rattle.kl1_text.specs.declared.cell_name.CellName.{CellName}
use Rattle.kl1_atoms.specs.declared.known.Known.{Known}
use Rattle.kl1_store.specs.Held.{Held}
use Rattle.kl1_goals.specs.declared.goal.Goal.{Goal}
use Rattle.kl1_goals.specs.Lists.{has_number}
use Rattle.kl1_codes.specs.Finding.{contents}
use Rattle.kl1_codes.specs.Shelves.{Program}
use Rattle.kl1_user_events.specs.declared.refusal.Refusal.{Refusal}
use Rattle.kl1_user_events.specs.Views.{refusal_of}
use Rattle.kl1_user_effects.specs.Fitting.{Reading, Fits}
use Rattle.kl1_user_effects.specs.Account.{meaning, goal_with}
use Rattle.kl1_user_effects.specs.Works.{worked}
use Rattle.kl1_machine.specs.declared.machine.Machine.{Machine}
use Rattle.kl1_machine.specs.Machines.{made}
use Rattle.kl1_machine.specs.Naming.{HoldsSpare, IsNamed, Patches}
use Rattle.kl1_ready.specs.Plans.{Judges, CanDo}

-- goal `n` is there and may step, and a command may have these numbers
pub record IsSteppable (goals : List (Goal CellName)) (n c : ℕ) (g : Goal CellName) : Type 0 where
  pub numbers : (is_number n && is_number c) ≡ true
  pub found : find (has_number n) goals ≡ Some g
  pub enabled : g.is_enabled ≡ true

-- each reading of the names of an account reads the same of a machine
abbrev pub ReadsAlike : Machine → Type 0
ReadsAlike m = (f g : Reading) → Fits m.names.names f → Fits m.names.names g → (s : State) → worked f s m.store.held (made m) ≡ worked g s m.store.held (made m)

-- a reduction of an account with this machine, whose journal may be full, is refused
abbrev pub Refuses : Program → Bool → ℕ → ℕ → Machine → Refusal → Type 0
Refuses program full n c m r =
    (f : Reading) → Fits m.names.names f → (s : State) → s.modules ≡ contents program.loaded → let now = worked f s m.store.held (made m) in
    (needs_entry (is_in_run now n c) now && is_full now) ≡ full → step now (reduce n c) ≡ refuse now (refusal_of r)

-- goal `n` was there and might step, and has done what it could by clause `c`: whatever number a name gets that is new, the state is what
-- the definitions make of it; a spare number stands for it as yet
pub record Reduces (program : Program) (n c : ℕ) (m u : Machine) : Type 0 where
  pub goal : Goal CellName
  pub steppable : IsSteppable m.goals.goals n c goal
  pub action : Reading → Action
  pub does : (f : Reading) → Judges program m.store.held goal f → CanDo program m.store.held (made m) goal c f (Some (action f))
  pub acts : (more : List Known) (k : CellName) (last : Held CellName) → IsNamed m.names.names more u.name k → Patches u.spelled k u.store.held last → (f : Reading) → Fits more f → (s : State) →
      acted (goal_with (meaning f m.store.held) goal) (action f) (worked f s m.store.held (made m)) ≡ worked f s last (made u)
  pub spare_last : HoldsSpare u.spelled u.store.held
