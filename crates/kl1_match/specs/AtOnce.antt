-- Tests that are decided at once.
use Rattle.std.specs.Prelude.{◌≡◌, ℕ, ℤ, List, Some}
use Rattle.kl1_model.specs.declared.built_in.BuiltIn.{BuiltIn}
use Rattle.kl1_model.specs.declared.comparison.Comparison.{Comparison}
use Rattle.kl1_model.specs.Term.{Term, integer}
use Rattle.kl1_model.specs.Text.{text_of}
use Rattle.kl1_model.specs.Guard.{compares, test_of_two}
use Rattle.kl1_store.specs.declared.cell.Cell.{Cell}
use Rattle.kl1_store.specs.Held.{Held}
use Rattle.kl1_store.specs.Meaning.{term_of}
use Rattle.kl1_clause.specs.declared.instruction.Instruction.{Instruction}
use Rattle.kl1_clause.specs.declared.instruction.Instruction.TheVariants.{Variable, Integer, Atom, Structure}
use Rattle.kl1_match.specs.declared.place.Place.{Place}
use Rattle.kl1_match.specs.TestTerms.{first_cell}

-- a test of two terms that has this name is this comparison
abbrev pub IsComparison : BuiltIn → Comparison → Type 0
IsComparison name c = (left right : Term) → test_of_two (text_of name) left right ≡ Some (compares c left right)

-- an integer stands at the first place of a variable
pub record HasInteger {N : Type 0} (h : Held N) (places : List (Place N)) (v : ℕ) (i : ℤ) : Type 0 where
  pub cell : Cell N
  pub placed : first_cell places v ≡ Some cell
  pub means : (f : N → List ℕ) → term_of f h cell ≡ integer i

-- an instruction is this integer, or a variable with it at its first place
abbrev pub IsInteger : {N : Type 0} → Held N → List (Place N) → Instruction → ℤ → Type 0
IsInteger h places (Variable v) i = HasInteger h places v i
IsInteger h places (Integer j) i = j ≡ i
IsInteger h places (Atom a) i = ⊥
IsInteger h places (Structure a n) i = ⊥
