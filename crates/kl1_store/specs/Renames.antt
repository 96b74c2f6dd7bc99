-- Names that become others in what came since a mark.
use Rattle.std.specs.Prelude.{ℕ, zero, suc, List, [], ◌∷◌, map}
use Rattle.kl1_store.specs.declared.cell.Cell.{Cell}
use Rattle.kl1_store.specs.declared.cell.Cell.TheVariants.{Variable, Integer, Atom, Structure}
use Rattle.kl1_store.specs.declared.node.Node.{Node}
use Rattle.kl1_store.specs.declared.binding.Binding.{Binding}
use Rattle.kl1_store.specs.declared.mark.Mark.{Mark}
use Rattle.kl1_store.specs.Held.{Held, Shape}

-- a cell, with another name if it is an atom
abbrev pub cell_renamed : {N M : Type 0} → (N → M) → Cell N → Cell M
cell_renamed g (Variable v) = Variable v
cell_renamed g (Integer i) = Integer i
cell_renamed g (Atom a) = Atom (g a)
cell_renamed g (Structure s) = Structure s

-- a structure, with another name, and with other names if its arguments are atoms
abbrev pub shape_renamed : {N M : Type 0} → (N → M) → Shape N → Shape M
shape_renamed g s = record { name = g s.name; arguments = map (cell_renamed g) s.arguments }

-- a structure as the store keeps it, with another name
abbrev pub node_renamed : {N M : Type 0} → (N → M) → Node N → Node M
node_renamed g n = record { name = g n.name; start = n.start; count = n.count }

-- a binding, with another name if it is to an atom
abbrev pub binding_renamed : {N M : Type 0} → (N → M) → Binding N → Binding M
binding_renamed g b = record { variable = b.variable; value = cell_renamed g b.value }

-- what is held, with other names everywhere
abbrev pub held_renamed : {N M : Type 0} → (N → M) → Held N → Held M
held_renamed k h = record { variables = h.variables; structures = map (shape_renamed k) h.structures; bindings = map (binding_renamed k) h.bindings }

-- a list with a function of each element from one on
abbrev pub mapped_from : {X : Type 0} → (X → X) → ℕ → List X → List X
mapped_from f zero xs = map f xs
mapped_from f (suc n) [] = []
mapped_from f (suc n) (x ∷ xs) = x ∷ mapped_from f n xs

-- what is held, with other names in the structures from one on
abbrev pub structures_renamed : {N : Type 0} → (N → N) → ℕ → Held N → Held N
structures_renamed g n h = record { variables = h.variables; structures = mapped_from (shape_renamed g) n h.structures; bindings = h.bindings }

-- what is held, with other names in the bindings from one on
abbrev pub bindings_renamed : {N : Type 0} → (N → N) → ℕ → Held N → Held N
bindings_renamed g n h = record { variables = h.variables; structures = h.structures; bindings = mapped_from (binding_renamed g) n h.bindings }

-- what is held, with other names in the structures and the bindings that came since a mark
abbrev pub renamed_since : {N : Type 0} → (N → N) → Mark → Held N → Held N
renamed_since g mark h = bindings_renamed g mark.bindings (structures_renamed g mark.structures h)

-- no name
abbrev pub unnamed : {N : Type 0} → N → Unit {0}
unnamed n = tt
