-- Room that a message uses up.
use Rattle.std.proofs.Common.{◌≡◌, ◌+◌, ◌≤◌, List, [], ◌∷◌, ◌++◌, length, length-append, ap, ◌∙◌, arith}
use Rattle.kl1_store.specs.declared.cell.Cell.{Cell}
use Rattle.kl1_store.specs.Held.{Shape, Held, Room, with_variable, arguments_held}
use Rattle.kl1_store.specs.Spending.{Spends, SpendsOnBindings, FreesRoom}
use Rattle.kl1_stream.specs.Spending.{SpendsOnMessage}
use Rattle.kl1_stream.proofs.Pairs.{with_pair}

held_more : {N : Type 0} (ss : List (Shape N)) (s : Shape N) → arguments_held ss ≤ arguments_held (ss ++ s ∷ [])
held_more [] s = omega arith
held_more (x ∷ ss) s = omega (arith, held_more ss s)

-- a variable and a list cell that are taken back leave their room
pub spends_back : {N : Type 0} (h mid full now new : Held N) (name : N) (a b : Cell N) (p q r s t : Room) → mid ≡ with_variable h → full ≡ with_pair mid name a b → now ≡ full → new ≡ h →
    Spends p q 1 0 0 0 → Spends q r 0 1 2 0 → SpendsOnBindings full r now s → FreesRoom now s new t → SpendsOnMessage h p new t
spends_back {N = N} h mid full now new name a b p q r s t e f g k one two three four =
    let shape : Shape N = record { name = name; arguments = a ∷ b ∷ [] } in
    let now_is : now ≡ with_pair (with_variable h) name a b = g ∙ f ∙ ap (λ (x : Held N). with_pair x name a b) e in
    let full_is : full ≡ with_pair (with_variable h) name a b = f ∙ ap (λ (x : Held N). with_pair x name a b) e in
    let v : now.variables ≡ h.variables + 1 = ap (λ (x : Held N). x.variables) now_is in
    let ss : length now.structures ≡ length (h.structures ++ shape ∷ []) = ap (λ (x : Held N). length x.structures) now_is in
    let xs : arguments_held now.structures ≡ arguments_held (h.structures ++ shape ∷ []) = ap (λ (x : Held N). arguments_held x.structures) now_is in
    let bs : length full.bindings ≡ length h.bindings = ap (λ (x : Held N). length x.bindings) full_is in
    let v' : new.variables ≡ h.variables = ap (λ (x : Held N). x.variables) k in
    let ss' : length new.structures ≡ length h.structures = ap (λ (x : Held N). length x.structures) k in
    let xs' : arguments_held new.structures ≡ arguments_held h.structures = ap (λ (x : Held N). arguments_held x.structures) k in
    record {
      variables = omega (arith, one.variables, two.variables, three.variables, four.variables, v, v');
      structures = omega (arith, one.structures, two.structures, three.structures, four.structures, ss, ss', length-append h.structures (shape ∷ []));
      arguments = omega (arith, one.arguments, two.arguments, three.arguments, four.arguments, xs, xs', held_more h.structures shape);
      bindings = omega (arith, one.bindings, two.bindings, three.bindings, four.bindings, bs);
    }
