-- Levels of variables and structures: no part of a term lies below the whole.
use Rattle.std.specs.Prelude.{◌≡◌, ◌⊎◌, ℕ, suc, ◌≤◌, Bool, true, false, List, length, Some, slice_get, get_or}
use Rattle.kl1_model.specs.Term.{occurs}
use Rattle.kl1_store.specs.declared.cell.Cell.{Cell}
use Rattle.kl1_store.specs.declared.cell.Cell.TheVariants.{Variable, Integer, Atom, Structure}
use Rattle.kl1_store.specs.declared.levels.Levels.{Levels}
use Rattle.kl1_store.specs.Held.{Held, is_bound, found, arguments_of}
use Rattle.kl1_store.specs.Meaning.{term_of}

-- the level at `n`; those beyond the end of the list lie at 0
abbrev pub level_at : List ℕ → ℕ → ℕ
level_at ls n = get_or ls n 0

-- a cell that lies at a level or above it, by the levels of variables and of structures; a constant lies above all
abbrev pub LiesAt : {N : Type 0} → (ℕ → ℕ) → (ℕ → ℕ) → ℕ → Cell N → Type 0
LiesAt vs ss n (Variable v) = n ≤ vs v
LiesAt vs ss n (Integer i) = Unit {0}
LiesAt vs ss n (Atom a) = Unit {0}
LiesAt vs ss n (Structure s) = n ≤ ss s

-- no argument lies below its structure, and no value below its variable
pub record IsLevel {N : Type 0} (h : Held N) (vs ss : ℕ → ℕ) : Type 0 where
  pub arguments : (s i : ℕ) (x : Cell N) → slice_get (arguments_of h s) i ≡ Some x → LiesAt vs ss (ss s) x
  pub values : (v : ℕ) → LiesAt vs ss (vs v) (found v h.bindings)

-- levels of what is held
pub record AreLevels {N : Type 0} (h : Held N) (ls : Levels) : Type 0 where
  pub level : IsLevel h (level_at ls.variables.items) (level_at ls.structures.items)
  pub fit : length ls.structures.items ≤ length h.structures

-- one level was changed
pub record SetsLevel (old new : List ℕ) (number level : ℕ) : Type 0 where
  pub here : level_at new number ≡ level
  pub others : (n : ℕ) → (n ≡ number → ⊥) → level_at new n ≡ level_at old n
  pub fit : (k : ℕ) → length old ≤ k → suc number ≤ k → length new ≤ k

-- whether a variable is in a term; if it isn't, the term lies above it
abbrev pub FindsAs : {N : Type 0} → Held N → Levels → ℕ → Cell N → Bool → Type 0
FindsAs h ls v x true = (f : _) → occurs v (term_of f h x) ≡ true
FindsAs h ls v x false = ((f : _) → occurs v (term_of f h x) ≡ false) × LiesAt (level_at ls.variables.items) (level_at ls.structures.items) (level_at ls.variables.items v) x

-- all that is in a term lies above 0, and of the variables that stand for themselves those alone that are in it
pub record SeesTerm {N : Type 0} (h : Held N) (ls : Levels) (x : Cell N) : Type 0 where
  pub here : LiesAt (level_at ls.variables.items) (level_at ls.structures.items) 1 x
  pub seen : (v : ℕ) → is_bound v h.bindings ≡ false → (level_at ls.variables.items v ≡ 0) ⊎ ((f : N → List ℕ) → occurs v (term_of f h x) ≡ true)
