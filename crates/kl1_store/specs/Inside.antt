-- How the lists of a store stand for what it holds.
use Rattle.std.specs.Prelude.{◌≡◌, ℕ, ◌+◌, ◌-◌, ◌^◌, ◌≤◌, min, List, [], ◌∷◌, length, take, drop}
use Rattle.kl1_store.specs.declared.cell.Cell.{Cell}
use Rattle.kl1_store.specs.declared.node.Node.{Node}
use Rattle.kl1_store.specs.declared.binding.Binding.{Binding}
use Rattle.kl1_store.specs.Held.{Shape, Held}
use Rattle.kl1_store.specs.Sound.{IsFormed}

-- the structures, their arguments one after another in one list
abbrev pub shapes_in : {N : Type 0} → List (Cell N) → List (Node N) → List (Shape N)
shapes_in xs [] = []
shapes_in xs (n ∷ ns) = record { name = n.name; arguments = take n.count xs } ∷ shapes_in (drop n.count xs) ns

-- structures whose arguments stand in order from one place to another
abbrev pub AreLaid : {N : Type 0} → ℕ → List (Node N) → ℕ → Type 0
AreLaid start [] end = start ≡ end
AreLaid start (n ∷ ns) end = (n.start ≡ start) × AreLaid (start + n.count) ns end

-- the most of each that a store takes, so that numbers fit 32 bits
abbrev pub most : ℕ
most = 2 ^ 32 - 1

-- how many more fit
abbrev pub room_in : ℕ → ℕ → ℕ
room_in capacity length = min capacity most - length

-- what the lists hold
abbrev pub held_in : {N : Type 0} → ℕ → List (Node N) → List (Cell N) → List (Binding N) → Held N
held_in variables nodes arguments bindings = record { variables = variables; structures = shapes_in arguments nodes; bindings = bindings }

-- what always holds of the lists
pub record IsInside {N : Type 0} (variables : ℕ) (nodes : List (Node N)) (arguments : List (Cell N)) (bindings : List (Binding N)) : Type 0 where
  pub formed : IsFormed (held_in variables nodes arguments bindings)
  pub laid : AreLaid 0 nodes (length arguments)
  pub variables_fit : variables ≤ most
  pub structures_fit : length nodes ≤ most
  pub arguments_fit : length arguments ≤ most
