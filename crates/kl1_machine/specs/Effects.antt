-- What goals do to a machine.
use Rattle.std.specs.Prelude.{◌≡◌, ℕ, suc, ◌+◌, ◌||◌, Bool, true, false, List, [], ◌∷◌, ◌++◌, length, find}
use Rattle.std.specs.List.{list_any}
use Rattle.kl1_model.specs.State.{State}
use Rattle.kl1_model.specs.Match.{Candidate}
use Rattle.kl1_model.specs.Tree.{charge}
use Rattle.kl1_model.specs.Report.{report, is_reported}
use Rattle.kl1_model.specs.Reduction.{commits, moved}
use Rattle.kl1_text.specs.Reading.{Reads}
use Rattle.kl1_text.specs.declared.cell_name.CellName.{CellName}
use Rattle.kl1_store.specs.declared.cell.Cell.{Cell}
use Rattle.kl1_store.specs.declared.qualified.Qualified.{Qualified}
use Rattle.kl1_store.specs.Sound.{Grown}
use Rattle.kl1_clause.specs.declared.predicate.Predicate.{Predicate}
use Rattle.kl1_match.specs.declared.place.Place.{Place}
use Rattle.kl1_goals_moves.specs.Moves.{IsCandidate}
use Rattle.kl1_goals.specs.declared.task.Task.TheVariants.{Reduces}
use Rattle.kl1_goals.specs.declared.task.Task.{Task}
use Rattle.kl1_goals.specs.declared.goal.Goal.{Goal}
use Rattle.kl1_shoen_paths.specs.declared.shoen.Shoen.{Shoen}
use Rattle.kl1_shoen.specs.Shoens.{has_number, path_in, has_reached_in}
use Rattle.kl1_codes.specs.Numbered.{Numbered}
use Rattle.kl1_user_effects.specs.Fitting.{Reading, built}
use Rattle.kl1_user_effects.specs.Account.{meaning, goal_with, aim}
use Rattle.kl1_user_effects.specs.Works.{Knows, worked}
use Rattle.kl1_user_effects.specs.Works as works
use Rattle.kl1_user_effects.specs.Late.{KeepsFree}
use Rattle.kl1_user_effects.specs.Reports.{unheard}
use Rattle.kl1_user_effects.specs.Drafts.{goal_at}
use Rattle.kl1_machine.specs.declared.machine.Machine.{Machine}
use Rattle.kl1_machine.specs.Machines.{made, IsMachine}

-- a machine has come on by this change of states
abbrev pub Turns : (Reading → State → State) → Machine → Machine → Type 0
Turns change m n = (ms : List Numbered) → works.Turns ms change m.store.held n.store.held (made m) (made n)

-- a machine with these goals
abbrev pub having_goals : List (Goal CellName) → Machine → Machine
having_goals gs m = record m { goals = record m.goals { goals = gs } }

-- a machine with these shoens
abbrev pub having_shoens : List (Shoen CellName) → Machine → Machine
having_shoens hs m = record m { shoens = record m.shoens { shoens = hs } }

-- a machine with these shoens, which may let or hold back their goals other than before
abbrev pub shifting_shoens : List (Shoen CellName) → Machine → Machine
shifting_shoens hs m = record m { shoens = record m.shoens { shoens = hs }; shifts = true }

-- a machine with a shoen more, and room for so many
abbrev pub with_shoen : Shoen CellName → ℕ → Machine → Machine
with_shoen h room m = record m { shoens = record m.shoens { shoens = m.shoens.shoens ++ h ∷ []; room = room }; goals = record m.goals { shoens = m.goals.shoens + 1 } }

-- a machine has become this one, of which holds what always does
pub record Becomes (x n : Machine) : Type 0 where
  pub is : n ≡ x
  pub machine : IsMachine n

-- whether a shoen on the path of shoen `n` was charged just what it may be
abbrev pub any_reached : ℕ → List (Shoen CellName) → List ℕ → Bool
any_reached n shoens work = list_any (has_reached_in shoens work) (path_in shoens n)

-- a reduction in shoen `n` was charged, and whether a shoen has reached its allowance by it
pub record Charges (n : ℕ) (m u : Machine) (reached : Bool) : Type 0 where
  pub reached_is : any_reached n m.shoens.shoens (n ∷ m.shoens.work) ≡ reached
  pub is : u ≡ record m { shoens = record m.shoens { work = n ∷ m.shoens.work }; shifts = m.shifts || reached }
  pub turns : Turns (λ f. charge n) m u
  pub machine : IsMachine u

-- a machine with a goal more, after the others
abbrev pub with_goal : Goal CellName → Machine → Machine
with_goal g m = record m { goals = record m.goals { goals = m.goals.goals ++ g ∷ []; last = g.number }; counts = record m.counts { last_goal = g.number } }

-- goals more for these cells, each with its priority
abbrev pub with_goals : ℕ → List ℕ → List (Qualified CellName) → Machine → Machine
with_goals shoen ps [] m = m
with_goals shoen [] (x ∷ xs) m = m
with_goals shoen (p ∷ ps) (x ∷ xs) m = with_goals shoen ps xs (with_goal (goal_at (suc m.counts.last_goal) shoen p (Reduces x)) m)

-- a machine that has counted these variables and structures
abbrev pub counting : ℕ → ℕ → Machine → Machine
counting variables nodes m = record m { counts = record m.counts { variables = variables; nodes = nodes } }

-- one goal more is there, with the number after the last
pub record Puts (shoen priority : ℕ) (task : Task CellName) (m n : Machine) : Type 0 where
  pub is : n ≡ with_goal (goal_at (suc m.counts.last_goal) shoen priority task) m
  pub machine : IsMachine n

-- a name that is new to the account stays, if there is one, and so does the variable that becomes it
pub record KeepsName (m n : Machine) : Type 0 where
  pub name : n.name ≡ m.name
  pub spelled : n.spelled ≡ m.spelled

-- a machine has come on by this change of states, what always holds does, and no name is new
pub record TurnsAs (change : Reading → State → State) (m n : Machine) : Type 0 where
  pub turns : Turns change m n
  pub machine : IsMachine n
  pub named : KeepsName m n

-- what a report of shoen `n` with this message leaves, and whether it is made; one that isn't leaves all but the store and the shoen's
-- stream
pub record Tells (n : ℕ) (message : Cell CellName) (m u : Machine) (told : Bool) : Type 0 where
  pub turns : Turns (λ f. report n (meaning f m.store.held message)) m u
  pub told_is : (f : Reading) → Reads built f → (s : State) → is_reported n (meaning f m.store.held message) (worked f s m.store.held (made m)) ≡ told
  pub dropped : told ≡ false → u ≡ record m { store = u.store; shoens = record m.shoens { shoens = unheard m.rules n (find (has_number n) m.shoens.shoens) m.shoens.shoens } }
  pub keeps : KeepsFree n m.shoens.shoens m.store.held u.store.held
  pub machine : IsMachine u
  pub named : KeepsName m u
  pub grown : Grown m.store.held u.store.held
  pub count : length u.shoens.shoens ≡ length m.shoens.shoens

-- a clause that was chosen, by its place in a predicate, with what its variables are
pub record Chosen : Type 0 where
  pub predicate : Predicate CellName
  pub place : ℕ
  pub places : List (Place CellName)

-- a goal that is this cell and has been removed has committed to the candidate of a clause, or has raised an exception if that would
-- pass a limit
pub record Commits (b : Chosen) (goal : Goal CellName) (x : Qualified CellName) (m n : Machine) : Type 0 where
  pub turns : (ms : List Numbered) (k : Reading → Candidate) → ((f : Reading) → Knows ms f → IsCandidate f m.store.held b.predicate b.place b.places (k f)) →
      works.Turns ms (λ f. moved (goal_with (meaning f m.store.held) goal) (aim f m.store.held x) (commits (k f))) m.store.held n.store.held (made m) (made n)
  pub machine : IsMachine n
  pub named : KeepsName m n
