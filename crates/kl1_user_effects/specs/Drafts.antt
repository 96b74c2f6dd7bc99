-- Goals that come, and names that are used.
use Rattle.std.specs.Prelude.{ℕ, suc, Bool, false, List, [], ◌∷◌, ◌++◌, Option, Some, None}
use Rattle.kl1_model.specs.Module.{is_among}
use Rattle.kl1_text.specs.declared.cell_name.CellName.{CellName}
use Rattle.kl1_store.specs.declared.qualified.Qualified.{Qualified}
use Rattle.kl1_goals.specs.declared.task.Task.{Task}
use Rattle.kl1_goals.specs.declared.task.Task.TheVariants.{Reduces}
use Rattle.kl1_goals.specs.declared.goal.Goal.{Goal}
use Rattle.kl1_goals.specs.declared.standing.Standing.TheVariants.{Waits}

-- whether a goal, be it a monitor, is of one of these shoens
abbrev pub is_of_any : List ℕ → Goal CellName → Bool
is_of_any shoens g = is_among g.shoen shoens

-- names, and one more if there is one
abbrev pub names_with : List (List ℕ) → Option (List ℕ) → List (List ℕ)
names_with names None = names
names_with names (Some text) = names ++ text ∷ []

-- a goal of a shoen with this number, priority and task, which can't step as yet
abbrev pub goal_at : ℕ → ℕ → ℕ → Task CellName → Goal CellName
goal_at n shoen priority task = record { number = n; task = task; shoen = shoen; priority = priority; standing = Waits; is_enabled = false }

-- goals for cells, with the numbers after the last, in a shoen, each with its priority; none can step as yet
abbrev pub goals_for : ℕ → ℕ → List ℕ → List (Qualified CellName) → List (Goal CellName)
goals_for last shoen priorities [] = []
goals_for last shoen [] (x ∷ xs) = []
goals_for last shoen (p ∷ ps) (x ∷ xs) =
    goal_at (suc last) shoen p (Reduces x) ∷ goals_for (suc last) shoen ps xs

-- a goal of another task in the place of one, with the number after the last; it can't step as yet
abbrev pub one_for : ℕ → Goal CellName → Task CellName → List (Goal CellName)
one_for last g task = goal_at (suc last) g.shoen g.priority task ∷ []
