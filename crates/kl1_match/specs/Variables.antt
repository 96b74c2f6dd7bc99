-- The cells that stand for a clause's variables.
use Rattle.std.specs.Prelude.{◌≡◌, ℕ, zero, suc, ◌+◌, ◌-◌, ◌==◌, nat_le, if◌then◌else◌, List, [], ◌∷◌, length}
use Rattle.kl1_model.specs.declared.built_in.BuiltIn.{BuiltIn}
use Rattle.kl1_model.specs.Term.{Term, variable, Replacement}
use Rattle.kl1_model.specs.Meaning.{nil}
use Rattle.kl1_model.specs.Match.{term_at}
use Rattle.kl1_text.specs.Reading.{Reads}
use Rattle.kl1_store.specs.declared.cell.Cell.{Cell}
use Rattle.kl1_store.specs.declared.cell.Cell.TheVariants.{Variable}
use Rattle.kl1_store.specs.Held.{Held, AreIn}
use Rattle.kl1_match.specs.declared.place.Place.{Place}
use Rattle.kl1_match.specs.Instances.{replacements_of}
use Rattle.kl1_match.specs.Steps.{Agrees}

-- the cell at the first place of a variable, or a given one if it has no place
abbrev pub cell_at : {N : Type 0} → List (Place N) → ℕ → Cell N → Cell N
cell_at [] v x = x
cell_at (p ∷ ps) v x = if p.variable == v then p.cell else cell_at ps v x

-- the cells at places
abbrev pub cells_at : {N : Type 0} → List (Place N) → List (Cell N)
cells_at [] = []
cells_at (p ∷ ps) = p.cell ∷ cells_at ps

-- places of the variables from a number on, one of each in order
abbrev pub AreFrom : {N : Type 0} → ℕ → List (Place N) → Type 0
AreFrom n [] = Unit {0}
AreFrom n (p ∷ ps) = (p.variable ≡ n) × AreFrom (suc n) ps

-- `count` variables more
abbrev pub with_variables : {N : Type 0} → Held N → ℕ → Held N
with_variables h count = record { variables = h.variables + count; structures = h.structures; bindings = h.bindings }

-- as many variables as given, from `n` on
abbrev pub fresh_cells : {N : Type 0} → ℕ → ℕ → List (Cell N)
fresh_cells n zero = []
fresh_cells n (suc k) = Variable n ∷ fresh_cells (suc n) k

-- what stands for a variable of a clause whose head has `head`: the term at its place, or the next variable after the last
abbrev pub stands_for : ℕ → List Replacement → ℕ → ℕ → Term
stands_for head places last v = if nat_le v head then term_at places v nil else variable (last + (v - head))

-- a cell for each variable of a clause whose head has `head` variables and whose body has `fresh` others
pub record AreVariables {N : Type 0} (built : BuiltIn → N) (head fresh : ℕ) (places : List (Place N)) (old new : Held N) (cells : List (Cell N)) : Type 0 where
  pub held : new ≡ with_variables old fresh
  pub length_is : length cells ≡ head + 1 + fresh
  pub inside : AreIn new cells
  pub mean : (f : N → List ℕ) → Reads built f → Agrees f new cells (stands_for head (replacements_of f old places) (old.variables - 1))
