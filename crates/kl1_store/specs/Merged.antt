-- Structures that were found to be equal.
use Rattle.std.specs.Prelude.{◌≡◌, ℕ, ◌≤◌, ◌⊎◌, List, [], ◌∷◌, get_or}
use Rattle.kl1_model.specs.Term.{Term}
use Rattle.kl1_store.specs.declared.merge.Merge.{Merge}
use Rattle.kl1_store.specs.Held.{Held}
use Rattle.kl1_store.specs.Nested.{structure_term}

-- terms of structures, by which each two that were merged are one
abbrev pub Respects : (ℕ → Term) → List Merge → Type 0
Respects S [] = Unit {0}
Respects S (m ∷ ms) = (S m.from ≡ S m.to) × Respects S ms

-- a structure that was merged into another
abbrev pub IsFrom : ℕ → List Merge → Type 0
IsFrom s [] = ⊥
IsFrom s (m ∷ ms) = (m.from ≡ s) ⊎ IsFrom s ms

-- where each structure leads: to a lower one, by what was merged
pub record AreParents (parents : List ℕ) (ms : List Merge) : Type 0 where
  pub lower : (s : ℕ) → get_or parents s s ≤ s
  pub same : (S : ℕ → Term) → Respects S ms → (s : ℕ) → S (get_or parents s s) ≡ S s
  pub linked : (s : ℕ) → (get_or parents s s ≡ s) ⊎ IsFrom s ms

-- what was merged is equal in a store
abbrev pub AreMerged : {N : Type 0} → Held N → List Merge → Type 0
AreMerged {N = N} h ms = (f : N → _) → Respects (structure_term f h) ms

-- a structure of one class with another, found with the lists kept in order
pub record FindsRoot (parents : List ℕ) (ms : List Merge) (structure root : ℕ) : Type 0 where
  pub kept : AreParents parents ms
  pub lower : root ≤ structure
  pub same : (S : ℕ → Term) → Respects S ms → S root ≡ S structure
