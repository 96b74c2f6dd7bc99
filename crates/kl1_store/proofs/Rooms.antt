-- Room that is used up, and room that is left again.
use Rattle.std.proofs.Common.{◌≡◌, ℕ, ◌+◌, ◌≤◌, List, length, ap, arith, subst}
use Rattle.kl1_store.specs.declared.cell.Cell.{Cell}
use Rattle.kl1_store.specs.declared.node.Node.{Node}
use Rattle.kl1_store.specs.declared.binding.Binding.{Binding}
use Rattle.kl1_store.specs.Held.{Held, Room, Stored, arguments_held}
use Rattle.kl1_store.specs.Chains.{Hung}
use Rattle.kl1_store.specs.Keeping.{kept_in}
use Rattle.kl1_store.specs.Inside.{room_in, held_in, most, AreLaid, IsInside}
use Rattle.kl1_store.specs.Spending.{SpendsOnBindings, FreesRoom}
use Rattle.kl1_store.proofs.Laid.{length-shapes_in, arguments_held-laid}

pub spends_none : {N : Type 0} (h : Held N) (r : Room) → SpendsOnBindings h r h r
spends_none h r = record { variables = omega arith; structures = omega arith; arguments = omega arith; bindings = omega arith }

pub spends_trans : {N : Type 0} (a : Held N) (x : Room) (b : Held N) (y : Room) (c : Held N) (z : Room) → SpendsOnBindings a x b y → SpendsOnBindings b y c z → SpendsOnBindings a x c z
spends_trans a x b y c z p q = record {
  variables = omega (arith, p.variables, q.variables);
  structures = omega (arith, p.structures, q.structures);
  arguments = omega (arith, p.arguments, q.arguments);
  bindings = omega (arith, p.bindings, q.bindings);
}

-- bindings that are taken back leave their room
pub spends_back : {N : Type 0} (a : Held N) (x : Room) (b : Held N) (y : Room) (c : Held N) (z : Room) → SpendsOnBindings a x b y → FreesRoom b y c z → b.variables ≡ a.variables → b.structures ≡ a.structures → c ≡ a → SpendsOnBindings a x c z
spends_back {N = N} a x b y c z p q vs ss e =
    let v : c.variables ≡ a.variables = ap (λ (h : Held N). h.variables) e in
    let s : length c.structures ≡ length a.structures = ap (λ (h : Held N). length h.structures) e in
    let t : arguments_held c.structures ≡ arguments_held a.structures = ap (λ (h : Held N). arguments_held h.structures) e in
    let s' : length b.structures ≡ length a.structures = ap length ss in
    let t' : arguments_held b.structures ≡ arguments_held a.structures = ap arguments_held ss in
    record {
      variables = omega (arith, p.variables, q.variables, v, vs);
      structures = omega (arith, p.structures, q.structures, s, s');
      arguments = omega (arith, p.arguments, q.arguments, t, t');
      bindings = omega (arith, p.bindings, q.bindings);
    }

pub spare_most : (n m n' m' : ℕ) → n ≤ m → n ≤ most → m ≤ m' → n + room_in m n ≤ n' + room_in m' n'
spare_most n m n' m' p q r = omega arith

-- lists that leave room for what they held
pub frees_lists : {N : Type 0} (variables : ℕ) (nodes : List (Node N)) (arguments : List (Cell N)) (bindings : List (Binding N)) (room : Room)
    (variables' : ℕ) (nodes' : List (Node N)) (arguments' : List (Cell N)) (bindings' : List (Binding N)) (room' : Room) →
    IsInside variables nodes arguments bindings → IsInside variables' nodes' arguments' bindings' → variables + room.variables ≤ variables' + room'.variables →
    length nodes + room.structures ≤ length nodes' + room'.structures → length arguments + room.arguments ≤ length arguments' + room'.arguments → length bindings + room.bindings ≤ length bindings' + room'.bindings →
    FreesRoom (held_in variables nodes arguments bindings) room (held_in variables' nodes' arguments' bindings') room'
frees_lists variables nodes arguments bindings room variables' nodes' arguments' bindings' room' h h' v s x b =
    let L : ℕ → Type 0 = λ m. AreLaid 0 nodes m in
    let L' : ℕ → Type 0 = λ m. AreLaid 0 nodes' m in
    let all = arguments_held-laid 0 nodes arguments (subst L (omega arith) h.laid) in
    let all' = arguments_held-laid 0 nodes' arguments' (subst L' (omega arith) h'.laid) in
    record {
      variables = v;
      structures = omega (arith, s, length-shapes_in arguments nodes, length-shapes_in arguments' nodes');
      arguments = omega (arith, x, all, all');
      bindings = b;
    }

-- ---- room for variables, if cells and hooks have it

pub frees_kept : {N : Type 0} (old new : Stored N) (k l : Hung) → FreesRoom old.held old.room new.held new.room → old.held.variables ≤ k.covered → k.covered ≤ k.memory → l.memory ≡ k.memory → new.held.variables ≤ old.held.variables →
    FreesRoom (kept_in old k).held (kept_in old k).room (kept_in new l).held (kept_in new l).room
frees_kept old new k l f a b c d = record {
  variables = let v = f.variables in omega arith;
  structures = f.structures;
  arguments = f.arguments;
  bindings = f.bindings;
}
