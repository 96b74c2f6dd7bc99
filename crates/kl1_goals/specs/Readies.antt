-- Goals that can step, and the first of them.
use Rattle.std.specs.Prelude.{ℕ, ◌==◌, nat_lt, ◌&&◌, ◌||◌, Bool, if◌then◌else◌, List, [], ◌∷◌, Option, Some, None, option_map, is_some}
use Rattle.kl1_goals.specs.declared.standing.Standing.{Standing}
use Rattle.kl1_goals.specs.declared.standing.Standing.TheVariants as standing
use Rattle.kl1_goals.specs.declared.goal.Goal.{Goal}

-- the clause by which a goal could step that stands so, from 1, and 0 if it needs none
abbrev pub clause_in : Standing → Option ℕ
clause_in standing.Waits = None
clause_in (standing.Commits clause place) = Some clause
clause_in standing.Fails = Some 0
clause_in standing.Unifies = Some 0
clause_in (standing.Becomes z) = Some 0
clause_in standing.Overflows = Some 0
clause_in standing.Misuses = Some 0
clause_in standing.Names = Some 0
clause_in standing.Opens = Some 0
clause_in standing.Goes = Some 0
clause_in standing.Reads = Some 0
clause_in standing.GivesWay = Some 0

-- a goal that can step: its number, the clause by which it does, and its priority
pub record Ready : Type 0 where
  pub goal : ℕ
  pub clause : ℕ
  pub priority : ℕ

-- whether one goal goes before another: by greater priority, and of equal ones by the lesser number
abbrev pub goes_first : Ready → Ready → Bool
goes_first a b = nat_lt b.priority a.priority || a.priority == b.priority && nat_lt a.goal b.goal

-- whether a goal can step: it may, and has a clause by which it could
abbrev pub stands : {N : Type 0} → Goal N → Bool
stands g = g.is_enabled && is_some (clause_in g.standing)

-- a goal that can step by a clause
abbrev pub ready_by : {N : Type 0} → Goal N → ℕ → Ready
ready_by g clause = record { goal = g.number; clause = clause; priority = g.priority }

-- a goal, if it can step
abbrev pub ready_of : {N : Type 0} → Goal N → Option Ready
ready_of g = if g.is_enabled then option_map (ready_by g) (clause_in g.standing) else None

-- the first of what is the first so far and another
abbrev pub better : Option Ready → Option Ready → Option Ready
better best None = best
better None (Some r) = Some r
better (Some b) (Some r) = if goes_first r b then Some r else Some b

-- the first of what is the first so far and goals
abbrev pub first_from : {N : Type 0} → Option Ready → List (Goal N) → Option Ready
first_from best [] = best
first_from best (g ∷ gs) = first_from (better best (ready_of g)) gs

-- the number of a goal and of the clause by which it can step
abbrev pub chosen : Ready → ℕ × ℕ
chosen r = (r.goal, r.clause)
