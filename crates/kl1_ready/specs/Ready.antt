-- What is found of goals that are looked at: what they can do, and that they hang on what they wait for.
use Rattle.std.specs.Prelude.{◌≡◌, ℕ, List}
use Rattle.kl1_model.specs.declared.rules.Rules.{Rules}
use Rattle.kl1_model.specs.Control.{control_of}
use Rattle.kl1_model.specs.code.Waits.{awaited_by_control}
use Rattle.kl1_text.specs.Reading.{Reads}
use Rattle.kl1_text.specs.declared.cell_name.CellName.{CellName}
use Rattle.kl1_store.specs.declared.cell.Cell.{Cell}
use Rattle.kl1_store.specs.declared.qualified.Qualified.{Qualified}
use Rattle.kl1_store.specs.Hooks.{Hook}
use Rattle.kl1_store.specs.Held.{Held}
use Rattle.kl1_store.specs.Meaning.{term_of}
use Rattle.kl1_clause.specs.declared.predicate.Predicate.{Predicate}
use Rattle.kl1_goals_moves.specs.declared.kind.Kind.{Kind}
use Rattle.kl1_goals_moves.specs.Kinds.{IsKind}
use Rattle.kl1_goals_moves.specs.Moves.{HasPredicate}
use Rattle.kl1_goals.specs.declared.task.Task.{Task}
use Rattle.kl1_goals.specs.declared.task.Task.TheVariants.{Reduces}
use Rattle.kl1_goals.specs.declared.goal.Goal.{Goal}
use Rattle.kl1_goals.specs.declared.standing.Standing.{Standing}
use Rattle.kl1_goals.specs.Readies.{clause_in}
use Rattle.kl1_shoen_paths.specs.declared.shoen.Shoen.{Shoen}
use Rattle.kl1_codes.specs.Numbered.{Numbered}
use Rattle.kl1_codes.specs.Finding.{contents}
use Rattle.kl1_codes.specs.Shelves.{Program}
use Rattle.kl1_store_hooks.specs.Hanging.{HangsOnEach}
use Rattle.kl1_user_effects.specs.Fitting.{Reading, built}
use Rattle.kl1_user_effects.specs.Account.{aim}
use Rattle.kl1_user_effects.specs.Works.{Knows}
use Rattle.kl1_user_effects.specs.Settled.{control_clause, IsSettled}
use Rattle.kl1_user_effects.specs.Drafts.{goal_at}

-- a goal of this number, shoen and task that stands so
abbrev pub ready_at : ℕ → ℕ → Task CellName → Standing → Goal CellName
ready_at n shoen task s = record (goal_at n shoen 0 task) { standing = s }

-- a goal of this kind with this number stands so by these rules, if these are the clauses of its predicate, and hangs on
-- each variable that it waits for
pub record IsReadyBy (rules : Rules) (h : Held CellName) (hooks : List Hook) (kind : Kind CellName) (p : Predicate CellName) (n : ℕ) (s : Standing) : Type 0 where
  pub settled : (f : Reading) (modules : List Numbered) (shoens : List (Shoen CellName)) (shoen : ℕ) (x : Qualified CellName) → Reads built f → IsKind f h (aim f h x) kind → HasPredicate f h (contents modules) kind p →
      IsSettled f hooks h (record { rules = rules; loaded = modules }) shoens (ready_at n shoen (Reduces x) s)

-- a monitor with this number that reads the control stream which a cell means stands so, and hangs on the variable that it waits for
pub record IsHeardAt (h : Held CellName) (hooks : List Hook) (x : Cell CellName) (n : ℕ) (s : Standing) : Type 0 where
  pub standing : (f : Reading) → Reads built f → clause_in s ≡ control_clause (control_of (term_of f h x))
  pub hung : (f : Reading) → Reads built f → HangsOnEach hooks n (awaited_by_control (control_of (term_of f h x)))

-- a goal of this number, shoen and task stands so, and hangs on each variable that it waits for
pub record IsReadyAt (program : Program) (shoens : List (Shoen CellName)) (h : Held CellName) (hooks : List Hook) (n shoen : ℕ) (task : Task CellName) (s : Standing) : Type 0 where
  pub settled : (f : Reading) → Knows program.loaded f → IsSettled f hooks h program shoens (ready_at n shoen task s)
