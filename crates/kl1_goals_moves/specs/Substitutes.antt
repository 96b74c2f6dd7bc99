-- What substitutes can do, and what they wait for.
use Rattle.std.specs.Prelude.{◌≡◌, ℕ, ◌==◌, if◌then◌else◌, List, Option, Some, None}
use Rattle.kl1_model.specs.declared.built_in.BuiltIn.TheVariants.{IllegalInput}
use Rattle.kl1_model.specs.Text.{text_of}
use Rattle.kl1_model.specs.Term.{Term}
use Rattle.kl1_model.specs.Look.{goal_look}
use Rattle.kl1_model.specs.Reduction as model
use Rattle.kl1_model.specs.Reduction.{raises, gives_way}
use Rattle.kl1_model.specs.code.Steps.{substitute_move}
use Rattle.kl1_model.specs.code.Waits.{awaited_by_substitute, substitute_clause}
use Rattle.kl1_match.specs.Waiting.{AreSame}
use Rattle.kl1_goals.specs.declared.standing.Standing.{Standing}
use Rattle.kl1_goals.specs.Readies.{clause_in}
use Rattle.kl1_goals_moves.specs.Judged.{SubstituteDoes}
use Rattle.kl1_goals_moves.specs.declared.look.Look.{Look}
use Rattle.kl1_goals_moves.specs.declared.look.Look.TheVariants as look
use Rattle.kl1_goals_moves.specs.declared.moves.Move.{Move}
use Rattle.kl1_goals_moves.specs.declared.moves.Move.TheVariants as move

-- what a substitute does by a look
abbrev pub giving_way : {N : Type 0} → Look → Option (Move N)
giving_way look.Right = Some move.GivesWay
giving_way (look.Waits v) = None
giving_way look.Wrong = Some (move.Raises IllegalInput)

-- what a substitute can do by the clause numbered `clause`, by the definitions
abbrev pub move_by_clause : Term → ℕ → Option model.Move
move_by_clause t clause = if clause == 0 then substitute_move (goal_look t) else None

-- the move that a substitute's is
abbrev pub substitute_move_of : {N : Type 0} → Option (Move N) → Option model.Move → Type 0
substitute_move_of None m = m ≡ None
substitute_move_of (Some (move.Commits place)) m = ⊥
substitute_move_of (Some (move.Raises b)) m = m ≡ Some (raises (text_of b))
substitute_move_of (Some (move.Unifies a b)) m = ⊥
substitute_move_of (Some (move.Names a)) m = ⊥
substitute_move_of (Some (move.Opens s)) m = ⊥
substitute_move_of (Some move.Goes) m = ⊥
substitute_move_of (Some move.GivesWay) m = m ≡ Some gives_way

-- what a substitute of this term can do by the clause numbered `clause` is this move
abbrev pub SubstituteMoves : {N : Type 0} → Term → ℕ → Option (Move N) → Type 0
SubstituteMoves t clause found = substitute_move_of found (move_by_clause t clause)

-- this is what a substitute of this term can do, and these are the variables that it waits for
pub record SubstituteStands (t : Term) (awaited : List ℕ) (standing : Standing) : Type 0 where
  pub clause_is : clause_in standing ≡ substitute_clause t
  pub does : SubstituteDoes t standing
  pub awaits : AreSame awaited (awaited_by_substitute t)
