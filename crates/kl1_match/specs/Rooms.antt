-- The room that building takes, and what it leaves.
use Rattle.std.specs.Prelude.{ℕ, ◌≡◌, ◌+◌, ◌≤◌, List, [], ◌∷◌, length, Vec, vec_capacity}
use Rattle.std.specs.declared.alloc.Global.{Global}
use Rattle.kl1_store.specs.declared.cell.Cell.{Cell}
use Rattle.kl1_store.specs.Held.{Room}
use Rattle.kl1_store.specs.Spending.{Spends}
use Rattle.kl1_clause.specs.declared.instruction.Instruction.{Instruction}
use Rattle.kl1_clause.specs.declared.instruction.Instruction.TheVariants as instruction
use Rattle.kl1_match.specs.declared.step.Step.{Step}
use Rattle.kl1_match.specs.declared.step.Step.TheVariants.{Variable, Integer, Atom, Structure}
use Rattle.kl1_match.specs.Matching.{arguments_after}

-- how many structures an instruction builds
abbrev pub structures_at : Instruction → ℕ
structures_at (instruction.Variable n) = 0
structures_at (instruction.Integer i) = 0
structures_at (instruction.Atom a) = 0
structures_at (instruction.Structure f n) = 1

-- how many structures a row builds
abbrev pub structures_in : List Instruction → ℕ
structures_in [] = 0
structures_in (i ∷ is) = structures_at i + structures_in is

-- how many arguments the structures of a row have in all
abbrev pub arguments_in : List Instruction → ℕ
arguments_in [] = 0
arguments_in (i ∷ is) = arguments_after i + arguments_in is

-- how many structures a step builds
abbrev pub step_structures : {N : Type 0} → Step N → ℕ
step_structures (Variable n) = 0
step_structures (Integer i) = 0
step_structures (Atom a) = 0
step_structures (Structure a n) = 1

-- how many arguments a step takes
abbrev pub step_arguments : {N : Type 0} → Step N → ℕ
step_arguments (Variable n) = 0
step_arguments (Integer i) = 0
step_arguments (Atom a) = 0
step_arguments (Structure a n) = n

-- room for `structures` structures and `arguments` arguments in the store
pub record HasRoomFor (structures arguments : ℕ) (room : Room) : Type 0 where
  pub structures_fit : structures ≤ room.structures
  pub arguments_fit : arguments ≤ room.arguments

-- at most `structures` and `arguments` of the room were used, and at most one cell more was put on the stack
pub record UsesRoom {N : Type 0} (structures arguments : ℕ) (old new : Room) (stack after : Vec (Cell N) Global) : Type 0 where
  pub spends : Spends old new 0 structures arguments 0
  pub height : length after.items ≤ length stack.items + 1
  pub capacity : vec_capacity after ≡ vec_capacity stack

-- room to build a row in: in the store, and on an empty stack, which can hold `stack` cells
pub record HasRoomForRow (room : Room) (stack : ℕ) (row : List Instruction) : Type 0 where
  pub structures_fit : structures_in row ≤ room.structures
  pub arguments_fit : arguments_in row ≤ room.arguments
  pub stack_fits : length row ≤ stack
