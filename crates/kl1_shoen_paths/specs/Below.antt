-- Which shoens are below another, and the children of each as lists.
use Rattle.std.specs.Prelude.{◌≡◌, ◌≢◌, ◌≤◌, ◌<◌, ◌-◌, ◌↔◌, ℕ, true, List, length, get_or, Contains}
use Rattle.std.specs.List.{AllPairs}
use Rattle.kl1_model.specs.Module.{is_among}
use Rattle.kl1_model.specs.Tree.{path_within}
use Rattle.kl1_model.specs.laws.TreeLaws.{ParentsAreLower}
use Rattle.kl1_shoen_paths.specs.declared.shoen.Shoen.{Shoen}
use Rattle.kl1_shoen_paths.specs.Paths.{is_on_path_in}

-- these are the numbers of the shoens on whose path shoen `number` is, each once
pub record AreBelow {N : Type 0} (shoens : List (Shoen N)) (number : ℕ) (found : List ℕ) : Type 0 where
  pub among : (n : ℕ) → Contains found n ↔ ((0 < n) × (n ≤ length shoens) × (is_on_path_in shoens number n ≡ true))
  pub once : AllPairs (λ a b. a ≢ b) found

-- for each number, from 0, its first child, the newest one, and for each shoen, from 1, the next child of its parent; 0 for none; both
-- as they were when they were marked; and how many more shoens can be taken in without asking for memory
pub record Links : Type 0 where
  pub first : List ℕ
  pub next : List ℕ
  pub kept_first : List ℕ
  pub kept_next : List ℕ
  pub room : ℕ

-- a child and those after it
abbrev pub children_from : List ℕ → ℕ → List ℕ
children_from next n = path_within n next n

-- from its first child on, each number has just its children: the shoens of which it is the parent
pub record AreLinked (parents first next : List ℕ) : Type 0 where
  pub first_count : length first ≡ length parents
  pub next_count : length next ≡ length parents
  pub lower : ParentsAreLower next
  pub among : (p n : ℕ) → (is_among n (children_from next (get_or first p 0)) ≡ true) ↔ ((0 < n) × (n ≤ length parents) × (get_or parents (n - 1) 0 ≡ p))
