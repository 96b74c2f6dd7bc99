-- Shoens as the definitions have them.
use Rattle.std.specs.Prelude.{◌≡◌, ℕ, Bool, true, false, List, Option, Some, None, option_map}
use Rattle.std.specs.List.{AllByRecursion}
use Rattle.kl1_model.specs.declared.rules.Rules.{Rules}
use Rattle.kl1_model.specs.Meaning.{nil}
use Rattle.kl1_model.specs.State.{has_forgetting}
use Rattle.kl1_model.specs.State as model
use Rattle.kl1_store.specs.declared.cell.Cell.{Cell}
use Rattle.kl1_store.specs.Held.{Held, IsIn}
use Rattle.kl1_store.specs.Meaning.{term_of}
use Rattle.kl1_shoen_paths.specs.declared.shoen.Origin.{Origin}
use Rattle.kl1_shoen_paths.specs.declared.shoen.Shoen.{Shoen}

-- what the console keeps, with the cells of a store, names read by f
abbrev pub origin_of : {N : Type 0} → (N → List ℕ) → Held N → Origin N → model.Origin
origin_of f h o = record { goal = term_of f h o.goal; forgotten = o.forgotten; reports = term_of f h o.reports; control = term_of f h o.control }

-- a shoen, with the cells of a store, names read by f
abbrev pub shoen_of : {N : Type 0} → (N → List ℕ) → Held N → Shoen N → model.Shoen
shoen_of f h s = record {
  number = s.number;
  parent = s.parent;
  life = s.life;
  is_stopped = s.is_stopped;
  allowance = s.allowance;
  low = s.low;
  high = s.high;
  control = term_of f h s.control;
  tail = term_of f h s.tail;
  is_broken = s.is_broken;
  origin = option_map (origin_of f h) s.origin;
}

-- the cells of what the console keeps are of a store
pub record IsOriginIn {N : Type 0} (h : Held N) (o : Origin N) : Type 0 where
  pub goal : IsIn h o.goal
  pub reports : IsIn h o.reports
  pub control : IsIn h o.control

-- the cells of what the console keeps are of a store, if it keeps something
abbrev pub IsKeptIn : {N : Type 0} → Held N → Option (Origin N) → Type 0
IsKeptIn h None = Unit {0}
IsKeptIn h (Some o) = IsOriginIn h o

-- the cells of a shoen are of a store
pub record IsShoenIn {N : Type 0} (h : Held N) (s : Shoen N) : Type 0 where
  pub control : IsIn h s.control
  pub tail : IsIn h s.tail
  pub origin : IsKeptIn h s.origin

-- the cells of shoens are of a store
abbrev pub AreShoensIn : {N : Type 0} → Held N → List (Shoen N) → Type 0
AreShoensIn h shoens = AllByRecursion (IsShoenIn h) shoens

-- what is told to be left of the control streams of shoens that end, as rules want it: nothing is left by rules by which things are let go,
-- and all stays by others
abbrev pub LeavesBy : {N : Type 0} → Rules → (N → List ℕ) → Held N → Option (Cell N) → Type 0
LeavesBy rules f h None = has_forgetting rules ≡ false
LeavesBy rules f h (Some left) = (has_forgetting rules ≡ true) × (term_of f h left ≡ nil)
