-- The lists of a store whose names are other ones from a mark on.
use Rattle.std.proofs.Common.{◌≡◌, ℕ, zero, suc, ◌+◌, ◌-◌, ◌<◌, ◌≤◌, List, [], ◌∷◌, length, get_or, take, drop, map, refl, sym, ap, ap₂, ◌∙◌, arith, subst, length-drop}
use Rattle.std.proofs.lemmas.List.{take-map, drop-map}
use Rattle.kl1_store.specs.declared.cell.Cell.{Cell}
use Rattle.kl1_store.specs.declared.binding.Binding.{Binding}
use Rattle.kl1_store.specs.declared.node.Node.{Node}
use Rattle.kl1_store.specs.declared.mark.Mark.{Mark}
use Rattle.kl1_store.specs.Held.{Held, Shape}
use Rattle.kl1_store.specs.Inside.{shapes_in, AreLaid, held_in, IsInside}
use Rattle.kl1_store.specs.Renames.{cell_renamed, node_renamed, shape_renamed, binding_renamed, held_renamed, mapped_from, renamed_since, unnamed}
use Rattle.kl1_store.proofs.Laid.{count_fits, rest_laid}
use Rattle.kl1_store.proofs.Changed.{length-mapped}
use Rattle.kl1_store.proofs.Bare.{formed_alike, bare_since}

-- where the arguments of the structures from one on begin
abbrev pub start_in : {N : Type 0} → List (Node N) → ℕ → ℕ → ℕ
start_in [] i end = end
start_in (n ∷ ns) zero end = n.start
start_in (n ∷ ns) (suc i) end = start_in ns i end

pub start_there : {N : Type 0} (ns : List (Node N)) (i end : ℕ) (n : Node N) → i < length ns → n ≡ get_or ns i n → start_in ns i end ≡ n.start
start_there [] i end n lt e = absurd (omega arith)
start_there (x ∷ ns) zero end n lt e = ap (λ (m : Node _). m.start) (sym e)
start_there (x ∷ ns) (suc i) end n lt e = start_there ns i end n (omega arith) e

pub start_past : {N : Type 0} (ns : List (Node N)) (i end : ℕ) → length ns ≤ i → start_in ns i end ≡ end
start_past [] i end le = refl
start_past (x ∷ ns) zero end le = absurd (omega arith)
start_past (x ∷ ns) (suc i) end le = start_past ns i end (omega arith)

start_up : {N : Type 0} (s : ℕ) (ns : List (Node N)) (i end : ℕ) → AreLaid s ns end → s ≤ start_in ns i end
start_up s [] i end h = omega arith
start_up s (n ∷ ns) zero end h = omega (arith, h.0)
start_up s (n ∷ ns) (suc i) end h = let p = start_up (s + n.count) ns i end h.1 in omega arith

take_mapped : {X : Type 0} (f : X → X) (c k : ℕ) (xs : List X) → c ≤ k → take c (mapped_from f k xs) ≡ take c xs
take_mapped f zero k xs h = refl
take_mapped f (suc c) zero xs h = absurd (omega arith)
take_mapped f (suc c) (suc k) [] h = refl
take_mapped f (suc c) (suc k) (x ∷ xs) h = ap (λ l. x ∷ l) (take_mapped f c k xs (omega arith))

drop_mapped : {X : Type 0} (f : X → X) (c k : ℕ) (xs : List X) → c ≤ k → drop c (mapped_from f k xs) ≡ mapped_from f (k - c) (drop c xs)
drop_mapped f zero k xs h = ap (λ n. mapped_from f n xs) (omega arith)
drop_mapped f (suc c) zero xs h = absurd (omega arith)
drop_mapped f (suc c) (suc k) [] h = nil (suc k - suc c)
  where
    nil : (n : ℕ) → [] ≡ mapped_from f n []
    nil zero = refl
    nil (suc n) = refl
drop_mapped f (suc c) (suc k) (x ∷ xs) h = drop_mapped f c k xs (omega arith) ∙ ap (λ n. mapped_from f n (drop c xs)) (omega arith)

-- structures with other names have their arguments with other names
shapes_in-map : {N M : Type 0} (g : N → M) (xs : List (Cell N)) (ns : List (Node N)) → shapes_in (map (cell_renamed g) xs) (map (node_renamed g) ns) ≡ map (shape_renamed g) (shapes_in xs ns)
shapes_in-map g xs [] = refl
shapes_in-map {M = M} g xs (n ∷ ns) =
    let shape : List (Cell M) → Shape M = λ l. record { name = g n.name; arguments = l } in
    ap₂ (λ l r. shape l ∷ r) (take-map (cell_renamed g) n.count xs)
    (ap (λ l. shapes_in l (map (node_renamed g) ns)) (drop-map (cell_renamed g) n.count xs) ∙ shapes_in-map g (drop n.count xs) ns)

-- so it is of those from one on
shapes_in-mapped : {N : Type 0} (g : N → N) (s : ℕ) (ns : List (Node N)) (xs : List (Cell N)) (i k : ℕ) → AreLaid s ns (s + length xs) → s + k ≡ start_in ns i (s + length xs) →
    shapes_in (mapped_from (cell_renamed g) k xs) (mapped_from (node_renamed g) i ns) ≡ mapped_from (shape_renamed g) i (shapes_in xs ns)
shapes_in-mapped g s [] xs zero k h e = refl
shapes_in-mapped g s [] xs (suc i) k h e = refl
shapes_in-mapped {N = N} g s (n ∷ ns) xs zero k h e =
    let P : ℕ → Type 0 = λ m. shapes_in (mapped_from (cell_renamed g) m xs) (map (node_renamed g) (n ∷ ns)) ≡ map (shape_renamed g) (shapes_in xs (n ∷ ns)) in
    let none : 0 ≡ k = omega (arith, h.0, e) in
    subst P none (shapes_in-map g xs (n ∷ ns))
shapes_in-mapped {N = N} g s (n ∷ ns) xs (suc i) k h e =
    let p = count_fits s n ns xs h in
    let shape : List (Cell N) → Shape N = λ l. record { name = n.name; arguments = l } in
    let end : s + length xs ≡ s + n.count + length (drop n.count xs) = omega (arith, p, length-drop n.count xs) in
    let up = start_up (s + n.count) ns i (s + length xs) h.1 in
    let le : n.count ≤ k = omega (arith, up, e) in
    let rest : s + n.count + (k - n.count) ≡ start_in ns i (s + n.count + length (drop n.count xs)) = (let q : s + n.count + (k - n.count) ≡ s + k = omega (arith, le) in q) ∙ e ∙ ap (start_in ns i) end in
    ap₂ (λ l r. shape l ∷ r) (take_mapped (cell_renamed g) n.count k xs le)
    (ap (λ l. shapes_in l (mapped_from (node_renamed g) i ns)) (drop_mapped (cell_renamed g) n.count k xs le)
    ∙ shapes_in-mapped g (s + n.count) ns (drop n.count xs) i (k - n.count) (rest_laid s n ns xs h) rest)

laid_mapped : {N : Type 0} (g : N → N) (s i : ℕ) (ns : List (Node N)) (end : ℕ) → AreLaid s ns end → AreLaid s (mapped_from (node_renamed g) i ns) end
laid_mapped g s zero [] end h = h
laid_mapped g s zero (n ∷ ns) end h = (h.0, laid_mapped g (s + n.count) zero ns end h.1)
laid_mapped g s (suc i) [] end h = h
laid_mapped g s (suc i) (n ∷ ns) end h = (h.0, laid_mapped g (s + n.count) i ns end h.1)

-- the lists after names became others
pub record AreRenamed {N : Type 0} (g : N → N) (mark : Mark) (variables : ℕ) (nodes : List (Node N)) (arguments : List (Cell N)) (bindings : List (Binding N)) (old : Held N) : Type 0 where
  pub inside : IsInside variables nodes arguments bindings
  pub held : held_in variables nodes arguments bindings ≡ renamed_since g mark old

are_mapped : {N : Type 0} (g : N → N) (mark : Mark) (start : ℕ) (variables variables' : ℕ) (nodes : List (Node N)) (arguments : List (Cell N)) (bindings bindings' : List (Binding N)) →
    IsInside variables nodes arguments bindings → variables' ≡ variables → start ≡ start_in nodes mark.structures (length arguments) → bindings' ≡ mapped_from (binding_renamed g) mark.bindings bindings →
    AreRenamed g mark variables' (mapped_from (node_renamed g) mark.structures nodes) (mapped_from (cell_renamed g) start arguments) bindings' (held_in variables nodes arguments bindings)
are_mapped {N = N} g mark start variables variables' nodes arguments bindings bindings' inside many begins bs =
    let old = held_in variables nodes arguments bindings in
    let nodes' = mapped_from (node_renamed g) mark.structures nodes in
    let arguments' = mapped_from (cell_renamed g) start arguments in
    let new = held_in variables' nodes' arguments' bindings' in
    let make : ℕ → List (Shape N) → List (Binding N) → Held N = λ n ss ps. record { variables = n; structures = ss; bindings = ps } in
    let D : ℕ → Type 0 = λ n. AreLaid 0 nodes n in
    let E : ℕ → Type 0 = λ n. AreLaid 0 nodes' n in
    let laid : AreLaid 0 nodes (0 + length arguments) = subst D (omega arith) inside.laid in
    let at : 0 + start ≡ start_in nodes mark.structures (0 + length arguments) = (let q : 0 + start ≡ start = omega arith in q) ∙ begins ∙ ap (start_in nodes mark.structures) (omega arith) in
    let held : new ≡ renamed_since g mark old =
    ap (λ n. make n (shapes_in arguments' nodes') bindings') many ∙ ap₂ (make variables) (shapes_in-mapped g 0 nodes arguments mark.structures start laid at) bs in
    let long_xs = length-mapped (cell_renamed g) start arguments in
    let long_ns = length-mapped (node_renamed g) mark.structures nodes in
    record {
      inside = record {
        formed = formed_alike old new (ap (held_renamed unnamed) held ∙ bare_since g mark old) inside.formed;
        laid = subst E (sym long_xs) (laid_mapped g 0 mark.structures nodes (length arguments) inside.laid);
        variables_fit = omega (arith, many, inside.variables_fit);
        structures_fit = omega (arith, long_ns, inside.structures_fit);
        arguments_fit = omega (arith, long_xs, inside.arguments_fit);
      };
      held = held;
    }

pub are_renamed : {N : Type 0} (g : N → N) (mark : Mark) (start : ℕ) (variables variables' : ℕ) (nodes nodes' : List (Node N)) (arguments arguments' : List (Cell N)) (bindings bindings' : List (Binding N)) →
    IsInside variables nodes arguments bindings → variables' ≡ variables → start ≡ start_in nodes mark.structures (length arguments) →
    bindings' ≡ mapped_from (binding_renamed g) mark.bindings bindings → arguments' ≡ mapped_from (cell_renamed g) start arguments → nodes' ≡ mapped_from (node_renamed g) mark.structures nodes →
    AreRenamed g mark variables' nodes' arguments' bindings' (held_in variables nodes arguments bindings)
are_renamed {N = N} g mark start variables variables' nodes nodes' arguments arguments' bindings bindings' inside many begins bs xs ns =
    let old = held_in variables nodes arguments bindings in
    let P : List (Cell N) → Type 0 = λ l. AreRenamed g mark variables' nodes' l bindings' old in
    let Q : List (Node N) → Type 0 = λ l. AreRenamed g mark variables' l (mapped_from (cell_renamed g) start arguments) bindings' old in
    subst P (sym xs) (subst Q (sym ns) (are_mapped g mark start variables variables' nodes arguments bindings bindings' inside many begins bs))
