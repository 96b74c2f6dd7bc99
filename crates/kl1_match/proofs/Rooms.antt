-- The room that rows take.
use Rattle.std.proofs.Common.{◌≡◌, ℕ, zero, suc, ◌+◌, ◌-◌, ◌<◌, ◌≤◌, List, [], ◌∷◌, ◌++◌, length, length-append, drop, ap, sym, ◌∙◌, subst, slice_index_or, arith}
use Rattle.std.proofs.lemmas.List.{drop_more, drop_all}
use Rattle.std.specs.Prelude.{Vec, vec_capacity}
use Rattle.std.specs.declared.alloc.Global.{Global}
use Rattle.kl1_store.specs.declared.cell.Cell.{Cell}
use Rattle.kl1_store.specs.Held.{Room}
use Rattle.kl1_store.specs.Spending.{Spends}
use Rattle.kl1_clause.specs.declared.instruction.Instruction.{Instruction}
use Rattle.kl1_clause.specs.declared.instruction.Instruction.TheVariants as instruction
use Rattle.kl1_match.specs.Matching.{arguments_after}
use Rattle.kl1_match.specs.Rooms.{structures_at, structures_in, arguments_in, HasRoomFor, UsesRoom, HasRoomForRow}
use Rattle.kl1_match.proofs.Built.{element_is}

-- nothing is spent
pub no_spending : (room : Room) → Spends room room 0 0 0 0
no_spending room = record { variables = omega arith; structures = omega arith; arguments = omega arith; bindings = omega arith }

-- the end of a row builds no more than the row
pub structures_drop : (row : List Instruction) (k : ℕ) → structures_in (drop k row) ≤ structures_in row
structures_drop row zero = omega arith
structures_drop [] (suc k) = omega arith
structures_drop (i ∷ is) (suc k) = omega (arith, structures_drop is k)

pub arguments_drop : (row : List Instruction) (k : ℕ) → arguments_in (drop k row) ≤ arguments_in row
arguments_drop row zero = omega arith
arguments_drop [] (suc k) = omega arith
arguments_drop (i ∷ is) (suc k) = omega (arith, arguments_drop is k)

-- the end of a row from one place before on
pub one_before : (row : List Instruction) (left : ℕ) (i d : Instruction) → 0 < left → left ≤ length row → i ≡ slice_index_or row (left - 1) d → drop (left - 1) row ≡ i ∷ drop left row
one_before row left i d some within at =
    let inside : left - 1 < length row = omega (arith, some, within) in
    let again : left - 1 + 1 ≡ left = omega (arith, some) in
    drop_more row (left - 1) i inside ∙ (ap (λ j. j ∷ drop (left - 1 + 1) row) (sym (at ∙ element_is row (left - 1) d i inside)) ∙ ap (λ n. i ∷ drop n row) again)

-- a cell more on a stack
pub puts_one : {N : Type 0} (structures arguments : ℕ) (room : Room) (stack after : Vec (Cell N) Global) (x : Cell N) →
    after.items ≡ stack.items ++ x ∷ [] → vec_capacity after ≡ vec_capacity stack → UsesRoom structures arguments room room stack after
puts_one structures arguments room stack after x e same = record {
  spends = record { variables = omega arith; structures = omega arith; arguments = omega arith; bindings = omega arith };
  height = omega (arith, ap length e, length-append stack.items (x ∷ []));
  capacity = same;
}

-- what is left of room if the end of a row is built
pub record RoomLeft {N : Type 0} (row : List Instruction) (left : ℕ) (old now : Room) (stack : Vec (Cell N) Global) : Type 0 where
  pub spends : Spends old now 0 (structures_in (drop left row)) (arguments_in (drop left row)) 0
  pub fits : length stack.items + left ≤ vec_capacity stack

-- all is left if nothing is built
pub all_left : {N : Type 0} (row : List Instruction) (room : Room) (stack : Vec (Cell N) Global) → stack.items ≡ [] → length row ≤ vec_capacity stack → RoomLeft row (length row) room room stack
all_left row room stack e fits =
    let rest : drop (length row) row ≡ [] = drop_all (length row) row (omega arith) in
    record {
      spends = subst (λ is. Spends room room 0 (structures_in is) (arguments_in is) 0) (sym rest) (no_spending room);
      fits = omega (arith, ap length e, fits);
    }

-- the next step has room
pub step_fits : {N : Type 0} (row : List Instruction) (left : ℕ) (i d : Instruction) (s a most : ℕ) (old mid : Room) (before : Vec (Cell N) Global) →
    0 < left → left ≤ length row → i ≡ slice_index_or row (left - 1) d → s ≡ structures_at i → a ≡ arguments_after i →
    RoomLeft row left old mid before → HasRoomForRow old most row → HasRoomFor s a mid
step_fits row left i d s a most old mid before some within at s_is a_is r h =
    let rest : drop (left - 1) row ≡ i ∷ drop left row = one_before row left i d some within at in
    let structures : structures_at i + structures_in (drop left row) ≤ structures_in row = subst (λ is. structures_in is ≤ structures_in row) rest (structures_drop row (left - 1)) in
    let arguments : arguments_after i + arguments_in (drop left row) ≤ arguments_in row = subst (λ is. arguments_in is ≤ arguments_in row) rest (arguments_drop row (left - 1)) in
    record {
      structures_fit = omega (arith, structures, s_is, r.spends.structures, h.structures_fit);
      arguments_fit = omega (arith, arguments, a_is, r.spends.arguments, h.arguments_fit);
    }

-- and leaves what those before it need
pub step_used : {N : Type 0} (row : List Instruction) (left : ℕ) (i d : Instruction) (s a : ℕ) (old mid new : Room) (before after : Vec (Cell N) Global) →
    0 < left → left ≤ length row → i ≡ slice_index_or row (left - 1) d → s ≡ structures_at i → a ≡ arguments_after i →
    RoomLeft row left old mid before → UsesRoom s a mid new before after → RoomLeft row (left - 1) old new after
step_used row left i d s a old mid new before after some within at s_is a_is r u =
    let rest : drop (left - 1) row ≡ i ∷ drop left row = one_before row left i d some within at in
    let spends : Spends old new 0 (structures_in (i ∷ drop left row)) (arguments_in (i ∷ drop left row)) 0 = record {
      variables = omega (arith, r.spends.variables, u.spends.variables);
      structures = omega (arith, s_is, r.spends.structures, u.spends.structures);
      arguments = omega (arith, a_is, r.spends.arguments, u.spends.arguments);
      bindings = omega (arith, r.spends.bindings, u.spends.bindings);
    } in
    record {
      spends = subst (λ is. Spends old new 0 (structures_in is) (arguments_in is) 0) (sym rest) spends;
      fits = omega (arith, some, r.fits, u.height, u.capacity);
    }

-- the arguments of one instruction more
pub arguments_push : (row : List Instruction) (i : Instruction) → arguments_in (row ++ i ∷ []) ≡ arguments_in row + arguments_after i
arguments_push [] i = omega arith
arguments_push (j ∷ is) i = omega (arith, arguments_push is i)

-- a row builds no more structures than it has instructions
pub few_structures : (row : List Instruction) → structures_in row ≤ length row
few_structures [] = omega arith
few_structures (i ∷ is) = omega (arith, few_structures is, at_most_one i)
  where
    at_most_one : (i : Instruction) → structures_at i ≤ 1
    at_most_one (instruction.Variable n) = omega arith
    at_most_one (instruction.Integer n) = omega arith
    at_most_one (instruction.Atom a) = omega arith
    at_most_one (instruction.Structure f n) = omega arith
