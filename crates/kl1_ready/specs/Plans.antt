-- What goals are to do.
use Rattle.std.specs.Prelude.{◌≡◌, ℕ, Bool, true, false, List, Option, Some, None}
use Rattle.kl1_model.specs.State.{State}
use Rattle.kl1_model.specs.code.Waits.{term_clause}
use Rattle.kl1_model.specs.Reduction as reduction
use Rattle.kl1_model.specs.Reduction.{Action, reads, moves, goes, task_action}
use Rattle.kl1_text.specs.declared.cell_name.CellName.{CellName}
use Rattle.kl1_store.specs.declared.qualified.Qualified.{Qualified}
use Rattle.kl1_store.specs.Held.{Held, IsIn}
use Rattle.kl1_stream.specs.declared.control.Control.{Control}
use Rattle.kl1_stream.specs.declared.control.Control.TheVariants.{Awaits, Tells, TellsOther, Ends, BreaksOff}
use Rattle.kl1_stream.specs.Controls.{control_as, ControlIn}
use Rattle.kl1_clause.specs.Predicates.{AreSome}
use Rattle.kl1_match.specs.declared.place.Place.{Place}
use Rattle.kl1_goals_moves.specs.Moves.{IsMove, MoveIn}
use Rattle.kl1_goals.specs.declared.task.Task.TheVariants.{Monitor, Reduces}
use Rattle.kl1_goals.specs.declared.goal.Goal.{Goal}
use Rattle.kl1_goals.specs.Lists.{is_monitor}
use Rattle.kl1_goals.specs.Readies.{clause_in}
use Rattle.kl1_codes.specs.Finding.{contents}
use Rattle.kl1_codes.specs.Shelves.{Program}
use Rattle.kl1_user_effects.specs.Fitting.{Reading}
use Rattle.kl1_user_effects.specs.Account.{meaning, task_with, aim}
use Rattle.kl1_user_effects.specs.Works.{Made, Knows, worked}
use Rattle.kl1_user_effects.specs.Settled.{TaskDoes}
use Rattle.kl1_ready.specs.declared.planning.Plan.{Plan}
use Rattle.kl1_ready.specs.declared.planning.Plan.TheVariants as plan
use Rattle.kl1_ready.specs.declared.planning.PlannedMove.{PlannedMove}

-- whether a monitor reads what stands before it: it isn't a variable
abbrev pub is_read : Control CellName → Bool
is_read (Awaits v) = false
is_read (Tells m rest) = true
is_read (TellsOther m rest) = true
is_read Ends = true
is_read (BreaksOff x) = true

-- a move, or nothing but to go if there is none
abbrev pub move_or_go : Option reduction.Move → reduction.Move
move_or_go None = goes
move_or_go (Some m) = m

-- what a goal can do by clause `c`, if it may step, in each state of an account with this store, these parts and these modules
abbrev pub CanDo : Program → Held CellName → Made → Goal CellName → ℕ → Reading → Option Action → Type 0
CanDo program h w g c f o = (s : State) → s.modules ≡ contents program.loaded → task_action (worked f s h w) g.shoen (task_with (meaning f h) g.task) c ≡ o

-- a reading of the names knows the modules, and by it a goal stands as it can
pub record Judges (program : Program) (h : Held CellName) (g : Goal CellName) (f : Reading) : Type 0 where
  pub knows : Knows program.loaded f
  pub judged : (x : Qualified CellName) (c : ℕ) → g.task ≡ Reduces x → clause_in g.standing ≡ Some c → term_clause program.rules (contents program.loaded) (aim f h x) ≡ Some c
  pub does : TaskDoes program.rules (task_with (meaning f h) g.task) g.standing

-- a monitor reads this
pub record ReadsBy (program : Program) (h : Held CellName) (w : Made) (g : Goal CellName) (c : ℕ) (control : Control CellName) : Type 0 where
  pub monitor : g.task ≡ Monitor
  pub inside : ControlIn h control
  pub does : (f : Reading) → Judges program h g f → CanDo program h w g c f (Some (reads (control_as f h control)))

-- a goal that is no monitor can run this move, with what the variables of a clause's head are and the text that it uses as a name: the
-- cells are the store's
pub record IsRunnable (h : Held CellName) (g : Goal CellName) (places : List (Place CellName)) (text : List ℕ) (a : PlannedMove) : Type 0 where
  pub reduces : is_monitor g ≡ false
  pub cell : IsIn h a.cell.cell
  pub some : AreSome a.located.predicate.names.now a.located.predicate.clauses.now
  pub inside : MoveIn h a.located.predicate places text (Some a.made)

-- it makes this move by clause `c`
pub record MovesBy (program : Program) (h : Held CellName) (w : Made) (g : Goal CellName) (c : ℕ) (places : List (Place CellName)) (text : List ℕ) (a : PlannedMove) : Type 0 where
  pub runnable : IsRunnable h g places text a
  pub move : Reading → reduction.Move
  pub is : (f : Reading) → Judges program h g f → IsMove f h (Some (move f)) a.located.predicate places text (Some a.made)
  pub does : (f : Reading) → Judges program h g f → CanDo program h w g c f (Some (moves (aim f h a.cell) (move f)))

-- what a goal is to do
abbrev pub IsPlan : Program → Held CellName → Made → Goal CellName → ℕ → List (Place CellName) → List ℕ → Plan → Type 0
IsPlan program h w g c places text (plan.Reads control) = ReadsBy program h w g c control
IsPlan program h w g c places text (plan.Moves a) = MovesBy program h w g c places text a

-- a goal can do nothing by clause `c`
abbrev pub DoesNothing : Program → Held CellName → Made → Goal CellName → ℕ → Type 0
DoesNothing program h w g c = (f : Reading) → Judges program h g f → CanDo program h w g c f None
