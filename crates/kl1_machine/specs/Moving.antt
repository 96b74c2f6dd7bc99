-- What a goal's move does to a machine.
use Rattle.std.specs.Prelude.{ℕ, List, Some}
use Rattle.kl1_model.specs.Unify.{mgu}
use Rattle.kl1_model.specs.Opening.{with_shoen, open_shoen}
use Rattle.kl1_model.specs.Reduction as model
use Rattle.kl1_model.specs.Reduction.{equation, unified, opens, moved}
use Rattle.kl1_text.specs.declared.cell_name.CellName.{CellName}
use Rattle.kl1_store.specs.declared.cell.Cell.{Cell}
use Rattle.kl1_store.specs.declared.qualified.Qualified.{Qualified}
use Rattle.kl1_clause.specs.declared.predicate.Predicate.{Predicate}
use Rattle.kl1_match.specs.declared.place.Place.{Place}
use Rattle.kl1_goals_moves.specs.declared.moves.Move.{Move}
use Rattle.kl1_goals_moves.specs.declared.order.ExecuteArguments.{ExecuteArguments}
use Rattle.kl1_goals_moves.specs.Orders.{order_at, IsOrder}
use Rattle.kl1_goals_moves.specs.Moves.{IsMove}
use Rattle.kl1_goals.specs.declared.goal.Goal.{Goal}
use Rattle.kl1_shoen_paths.specs.declared.shoen.Shoen.{Shoen}
use Rattle.kl1_codes.specs.Numbered.{Numbered}
use Rattle.kl1_user_effects.specs.Fitting.{Reading}
use Rattle.kl1_user_effects.specs.Account.{meaning, goal_with, shoen_with, aim}
use Rattle.kl1_user_effects.specs.Works.{Knows}
use Rattle.kl1_user_effects.specs.Works as works
use Rattle.kl1_machine.specs.declared.machine.Machine.{Machine}
use Rattle.kl1_machine.specs.Machines.{made, IsMachine}
use Rattle.kl1_machine.specs.Effects.{Turns, KeepsName, TurnsAs}

-- ---- unifications

-- a goal that is cell `x` and has been removed has unified two cells, or has raised an exception if they have no unifier
abbrev pub UnifiesAs : Goal CellName → Qualified CellName → Cell CellName → Cell CellName → Machine → Machine → Type 0
UnifiesAs goal x left right m n = TurnsAs (λ f. unified (goal_with (meaning f m.store.held) goal) (aim f m.store.held x) (mgu (equation (meaning f m.store.held left) (meaning f m.store.held right)))) m n

-- ---- shoens that open

-- a shoen has joined a machine with its monitor and its goal, which is a cell
abbrev pub JoinsAs : Shoen CellName → Cell CellName → Machine → Machine → Type 0
JoinsAs h x m n = TurnsAs (λ f. with_shoen (shoen_with (meaning f m.store.held) h) (meaning f m.store.held x)) m n

-- a shoen has opened for a goal, which is a cell
abbrev pub OpensAs : Shoen CellName → Cell CellName → Machine → Machine → Type 0
OpensAs h x m n = TurnsAs (λ f. open_shoen (shoen_with (meaning f m.store.held) h) (meaning f m.store.held x)) m n

-- a goal that is cell `x` and has been removed has opened a child by the arguments of structure `s`, or has raised an exception if a limit
-- would be passed
pub record OpensChild (s : ℕ) (goal : Goal CellName) (x : Qualified CellName) (m n : Machine) : Type 0 where
  pub turns : (o : ExecuteArguments CellName) → IsOrder m.store.held s o → Turns (λ f. moved (goal_with (meaning f m.store.held) goal) (aim f m.store.held x) (opens (order_at f m.store.held o))) m n
  pub machine : IsMachine n
  pub named : KeepsName m n

-- ---- moves

-- a move that a goal makes by the clauses of a predicate, with what the variables of the head are and the text that it uses as a name, if
-- it does that
pub record Making : Type 0 where
  pub predicate : Predicate CellName
  pub move : Move CellName
  pub places : List (Place CellName)
  pub text : List ℕ

-- for each reading this is the move, by the definitions
abbrev pub IsMade : Making → List Numbered → Machine → (Reading → model.Move) → Type 0
IsMade a ms m k = (f : Reading) → Knows ms f → IsMove f m.store.held (Some (k f)) a.predicate a.places a.text (Some a.move)

-- a goal that is cell `x` and has been removed has made a move that uses no name, or has raised an exception if the move would pass a limit
pub record MovesAs (a : Making) (goal : Goal CellName) (x : Qualified CellName) (m n : Machine) : Type 0 where
  pub turns : (ms : List Numbered) (k : Reading → model.Move) → IsMade a ms m k → works.Turns ms (λ f. moved (goal_with (meaning f m.store.held) goal) (aim f m.store.held x) (k f)) m.store.held n.store.held (made m) (made n)
  pub machine : IsMachine n
  pub named : KeepsName m n
