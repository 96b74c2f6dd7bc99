-- The cells of a goal that is started, built of its row in room that was made before.
use Rattle.std.specs.Prelude.{◌≡◌, ℕ, zero, suc, ◌+◌, ◌≤◌, false, List, [], ◌∷◌, Option, Some, None, length, map, slice_index_or, IsTrue, vec_capacity}
use Rattle.kl1_model.specs.declared.built_in.BuiltIn.{BuiltIn}
use Rattle.kl1_model.specs.declared.built_in.BuiltIn.TheVariants.{EmptyList}
use Rattle.kl1_model.specs.Term.{Term, variable, substituted}
use Rattle.kl1_model.specs.code.TermCode.{nodes_of}
use Rattle.kl1_model.specs.Meaning.{highest, is_numbered}
use Rattle.kl1_model.specs.Opening.{with_next_variables}
use Rattle.kl1_text.specs.Reading.{Reads}
use Rattle.kl1_store.specs.declared.cell.Cell.{Cell}
use Rattle.kl1_store.specs.declared.cell.Cell.TheVariants as cell
use Rattle.kl1_store.specs.Held.{Held, Room, is_bound, IsIn, AreIn}
use Rattle.kl1_store.specs.Meaning.{term_of}
use Rattle.kl1_store.specs.Unbound.{IsUnbound}
use Rattle.kl1_clause.specs.declared.instruction.Instruction.{Instruction}
use Rattle.kl1_clause.specs.Instructions.{IsRowOf}
use Rattle.kl1_match.specs.declared.scratch.Scratch.{Scratch}
use Rattle.kl1_match.specs.Instances.{AreKept}
use Rattle.kl1_match.specs.Rooms.{HasRoomForRow}
use Rattle.kl1_match.specs.Steps.{Agrees}

-- the cells for a goal's variables, by their numbers from 0
abbrev pub goal_variables : {N : Type 0} → Scratch N → List (Cell N)
goal_variables s = s.variables.items

-- room to build a row in, in a store and in the scratch
abbrev pub HasRoomForGoal : {N : Type 0} → Room → Scratch N → List Instruction → Type 0
HasRoomForGoal room s row = HasRoomForRow room (vec_capacity s.stack) row

-- after a cell for none, the `count` variables after the last
pub record AreNext {N : Type 0} (last count : ℕ) (cells : List (Cell N)) : Type 0 where
  pub length_is : length cells ≡ count + 1
  pub are : (v : ℕ) → 1 ≤ v → v ≤ count → slice_index_or cells v (cell.Variable 0) ≡ cell.Variable (last + v)

-- the `count` variables after the last are unbound
abbrev pub AreFreeBehind : {N : Type 0} → Held N → ℕ → ℕ → Type 0
AreFreeBehind h last count = (v : ℕ) → 1 ≤ v → v ≤ count → is_bound (last + v) h.bindings ≡ false

-- the cells for a goal's `count` variables are the variables of the store after the last, of which none is bound
pub record AreGoalVariables {N : Type 0} (h : Held N) (last count : ℕ) (cells : List (Cell N)) : Type 0 where
  pub inside : AreIn h cells
  pub next : AreNext last count cells
  pub free : AreFreeBehind h last count

-- how many of an answer's variables tell none of the account
abbrev pub new_in : List (Option ℕ) → ℕ
new_in [] = 0
new_in (Some v ∷ ts) = new_in ts
new_in (None ∷ ts) = suc (new_in ts)

-- the cells for an answer's variables: those that they tell, and for the others the variables from `n` on
abbrev pub told_cells : {N : Type 0} → ℕ → List (Option ℕ) → List (Cell N)
told_cells n [] = []
told_cells n (Some v ∷ ts) = cell.Variable v ∷ told_cells n ts
told_cells n (None ∷ ts) = cell.Variable n ∷ told_cells (suc n) ts

-- these after a cell for none
abbrev pub told_row : {N : Type 0} → (BuiltIn → N) → ℕ → List (Option ℕ) → List (Cell N)
told_row built n told = cell.Atom (built EmptyList) ∷ told_cells n told

-- the variable that stands for one of an answer's, by its place from 0: the one that it tells, or the next of those from `n` on
abbrev pub told_at : ℕ → List (Option ℕ) → ℕ → ℕ
told_at n [] i = n + i
told_at n (Some v ∷ ts) zero = v
told_at n (None ∷ ts) zero = n
told_at n (Some v ∷ ts) (suc i) = told_at n ts i
told_at n (None ∷ ts) (suc i) = told_at (suc n) ts i

-- the variables that an answer's tell stand for themselves
abbrev pub AreTold : {N : Type 0} → Held N → List (Option ℕ) → Type 0
AreTold h [] = Unit {0}
AreTold h (Some v ∷ ts) = IsUnbound h v × AreTold h ts
AreTold h (None ∷ ts) = AreTold h ts

-- the cells for a goal's `count` variables are variables by their numbers, none of which is bound
pub record AreFreeCells {N : Type 0} (h : Held N) (count : ℕ) (e : ℕ → ℕ) (cells : List (Cell N)) : Type 0 where
  pub length_is : length cells ≡ count + 1
  pub are : (v : ℕ) → 1 ≤ v → v ≤ count → slice_index_or cells v (cell.Variable 0) ≡ cell.Variable (e v)
  pub free : (v : ℕ) → 1 ≤ v → v ≤ count → is_bound (e v) h.bindings ≡ false

-- a cell was built of the row of a goal, if these cells stand for the goal's variables, for one reading of the names: it means
-- the goal with what the variables mean in place of them; if they are the next of the store, the goal with these; and if
-- those are unbound, as in the definitions; and if they are any unbound variables, the goal with these
pub record IsGoalBuilt {N : Type 0} (f : N → List ℕ) (old new : Held N) (cells : List (Cell N)) (goal : Term) (x : Cell N) : Type 0 where
  pub means : (e : ℕ → Term) → Agrees f old cells e → term_of f new x ≡ substituted e goal
  pub term : IsTrue (is_numbered goal) → (last : ℕ) → AreNext last (highest goal) cells → term_of f new x ≡ substituted (λ v. term_of f new (cell.Variable (last + v))) goal
  pub next : IsTrue (is_numbered goal) → (last : ℕ) → AreNext last (highest goal) cells → AreFreeBehind old last (highest goal) → term_of f new x ≡ with_next_variables last goal
  pub free : IsTrue (is_numbered goal) → (e : ℕ → ℕ) → AreFreeCells old (highest goal) e cells → term_of f new x ≡ substituted (λ v. variable (e v)) goal

-- a cell was built of a row, if these cells stand for its variables: whatever goal the row is, however names are read, it
-- means that goal; and each cell that was there means what it meant
pub record BuildsGoal {N : Type 0} (built : BuiltIn → N) (names : List N) (row : List Instruction) (cells : List (Cell N)) (old new : Held N) (x : Cell N) : Type 0 where
  pub inside : IsIn new x
  pub variables : new.variables ≡ old.variables
  pub kept : (f : N → List ℕ) → Reads built f → AreKept f old new
  pub built_is : (f : N → List ℕ) → Reads built f → (goal : Term) → IsRowOf (map f names) row (nodes_of goal) → IsGoalBuilt f old new cells goal x
