-- Cells in which a variable is not.
use Rattle.std.specs.Prelude.{◌≡◌, ℕ, ◌<◌, false, List, Some, slice_get}
use Rattle.kl1_model.specs.Term.{occurs}
use Rattle.kl1_store.specs.declared.cell.Cell.{Cell}
use Rattle.kl1_store.specs.declared.cell.Cell.TheVariants.{Variable, Integer, Atom, Structure}
use Rattle.kl1_store.specs.Held.{Held}
use Rattle.kl1_store.specs.Meaning.{term_of}

-- a constant, or another variable than this one
abbrev pub IsPlain : {N : Type 0} → ℕ → Cell N → Type 0
IsPlain v (Variable w) = w ≡ v → ⊥
IsPlain v (Integer i) = Unit {0}
IsPlain v (Atom a) = Unit {0}
IsPlain v (Structure s) = ⊥

-- a variable is not in the term of a cell
abbrev pub IsFree : {N : Type 0} → Held N → ℕ → Cell N → Type 0
IsFree h v x = (f : _) → occurs v (term_of f h x) ≡ false

-- a variable is in none of the first `n` cells' terms
abbrev pub AreFree : {N : Type 0} → Held N → ℕ → List (Cell N) → ℕ → Type 0
AreFree {N = N} h v xs n = (i : ℕ) (x : Cell N) → i < n → slice_get xs i ≡ Some x → IsFree h v x
