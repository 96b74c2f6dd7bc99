-- The cells of a goal that is started.
use Rattle.std.proofs.Common.{◌≡◌, ℕ, zero, suc, Option, Some, None, ◌+◌, ◌-◌, ◌<◌, ◌≤◌, ◌&&◌, max, nat_le, true, false, List, [], ◌∷◌, ◌++◌, length, map, reverse, refl, ap, sym, ◌∙◌, subst, slice_index_or, arith, append_assoc, append-nil}
use Rattle.std.proofs.lemmas.Bool.{and_parts, leb-true}
use Rattle.kl1_model.specs.declared.built_in.BuiltIn.{BuiltIn}
use Rattle.kl1_model.specs.declared.built_in.BuiltIn.TheVariants.{EmptyList}
use Rattle.kl1_model.specs.Term.{Term, Terms, variable, integer, atom, structure, none, more, substituted, each_substituted}
use Rattle.kl1_model.specs.code.TermCode.{NodeCode, nodes_of, read_nodes, reads-back}
use Rattle.kl1_model.specs.Meaning.{highest, highest_in, variables_of, variables_in, numbered_after}
use Rattle.kl1_term.proofs.VariableFacts.{highest_is}
use Rattle.kl1_store.specs.declared.cell.Cell.{Cell}
use Rattle.kl1_store.specs.declared.cell.Cell.TheVariants as cell
use Rattle.kl1_store.specs.Held.{Held, with_variable, is_bound, AreWithin, IsIn, AreIn}
use Rattle.kl1_store.specs.Meaning.{term_of}
use Rattle.kl1_store.specs.Sound.{Grown, IsFormed}
use Rattle.kl1_store.proofs.Grows.{Grown-same, Grown-trans, Grown-variable}
use Rattle.kl1_store.proofs.Terms.{term_of-unbound}
use Rattle.kl1_clause.specs.declared.instruction.Instruction.{Instruction}
use Rattle.kl1_clause.specs.Instructions.{code_in, IsRowOf}
use Rattle.kl1_store.specs.Tops.{first_or}
use Rattle.kl1_match.specs.Steps.{Agrees}
use Rattle.kl1_match.specs.Built.{AreBelow, Stacked, BuildsRow}
use Rattle.kl1_match.specs.Variables.{with_variables, fresh_cells}
use Rattle.kl1_match.specs.GoalCells.{AreNext, AreGoalVariables, IsGoalBuilt, BuildsGoal, new_in, told_cells, told_row, told_at, AreTold, AreFreeCells}
use Rattle.kl1_store.proofs.Tops.{AreWithin-reverse, first_within}
use Rattle.kl1_match.proofs.Rows.{first_term_is}
use Rattle.kl1_match.proofs.Steps.{within_at}
use Rattle.kl1_match.proofs.Built.{all_still_in}
use Rattle.kl1_match.proofs.Places.{length-fresh, at_fresh, beyond_unbound}
use Rattle.kl1_match.proofs.Bodies.{rows_below}

-- ---- the variables of a goal

-- the `k` variables from `n` on are of a store that has as many
fresh_within : (N : Type 0) (vs ss n k : ℕ) → n + k ≤ vs → AreWithin {N = N} vs ss (fresh_cells n k)
fresh_within N vs ss n zero h = tt
fresh_within N vs ss n (suc k) h = (omega (arith, h), fresh_within N vs ss (suc n) k (omega (arith, h)))

-- after a cell for none, new variables are the next
behind_filler : {N : Type 0} (filler : Cell N) (n count last v : ℕ) → n ≡ last + 1 → 1 ≤ v → v ≤ count → slice_index_or (filler ∷ fresh_cells n count) v (cell.Variable 0) ≡ cell.Variable (last + v)
behind_filler filler n count last zero e low high = absurd (omega (arith, low))
behind_filler filler n count last (suc k) e low high =
    let same : n + k ≡ last + suc k = omega (arith, e) in
    at_fresh n count k (cell.Variable 0) (omega (arith, high)) ∙ ap (λ m. cell.Variable m) same

-- the cells that are put for a goal's variables
pub variables_put : {N : Type 0} (old new : Held N) (count : ℕ) (name : N) (start first cells : List (Cell N)) →
    IsFormed old → 0 < old.variables → start ≡ [] → first ≡ start ++ cell.Atom name ∷ [] → new ≡ with_variables old count → cells ≡ first ++ fresh_cells old.variables count →
    AreGoalVariables new (old.variables - 1) count cells
variables_put {N = N} old new count name start first cells formed some start_is first_is is cells_are =
    let last = old.variables - 1 in
    let made : Held N = with_variables old count in
    let all : List (Cell N) = cell.Atom name ∷ fresh_cells old.variables count in
    let same : cells ≡ all = cells_are ∙ ap (λ xs. xs ++ fresh_cells old.variables count) (first_is ∙ ap (λ xs. xs ++ cell.Atom name ∷ []) start_is) in
    let result : AreGoalVariables made last count all = record {
      inside = (tt, fresh_within N made.variables (length made.structures) old.variables count (omega arith));
      next = record {
        length_is = omega (arith, length-fresh N old.variables count);
        are = λ v low high. behind_filler (cell.Atom name) old.variables count last v (omega (arith, some)) low high;
      };
      free = λ v low high. beyond_unbound old.variables old.structures [] old.bindings (last + v) formed.bound (omega (arith, low));
    } in
    let P : Held N → Type 0 = λ h. AreGoalVariables h last count all in
    let Q : List (Cell N) → Type 0 = λ xs. AreGoalVariables new last count xs in
    subst Q (sym same) (subst P (sym is) result)

-- ---- the cells of an answer's variables

told_length : (N : Type 0) (n : ℕ) (told : List (Option ℕ)) → length (told_cells {N = N} n told) ≡ length told
told_length N n [] = refl
told_length N n (Some v ∷ ts) = ap suc (told_length N n ts)
told_length N n (None ∷ ts) = ap suc (told_length N (suc n) ts)

told_cell : (N : Type 0) (n : ℕ) (told : List (Option ℕ)) (i : ℕ) (d : Cell N) → i < length told → slice_index_or (told_cells n told) i d ≡ cell.Variable (told_at n told i)
told_cell N n [] i d lt = absurd (omega (arith, lt))
told_cell N n (Some v ∷ ts) zero d lt = refl
told_cell N n (None ∷ ts) zero d lt = refl
told_cell N n (Some v ∷ ts) (suc i) d lt = told_cell N n ts i d (omega (arith, lt))
told_cell N n (None ∷ ts) (suc i) d lt = told_cell N (suc n) ts i d (omega (arith, lt))

told_within : (N : Type 0) (h : Held N) (vs ss n : ℕ) (told : List (Option ℕ)) → AreTold h told → h.variables ≤ vs → n + new_in told ≤ vs → AreWithin {N = N} vs ss (told_cells n told)
told_within N h vs ss n [] there le room = tt
told_within N h vs ss n (Some v ∷ ts) there le room = let w = there.0.within in (omega (arith, w, le), told_within N h vs ss n ts there.1 le room)
told_within N h vs ss n (None ∷ ts) there le room = (omega (arith, room), told_within N h vs ss (suc n) ts there le (omega (arith, room)))

told_free : {N : Type 0} (h : Held N) (n : ℕ) (told : List (Option ℕ)) (i : ℕ) → IsFormed h → AreTold h told → h.variables ≤ n → i < length told → is_bound (told_at n told i) h.bindings ≡ false
told_free h n [] i formed there le lt = absurd (omega (arith, lt))
told_free h n (Some v ∷ ts) zero formed there le lt = there.0.unbound
told_free h n (None ∷ ts) zero formed there le lt = beyond_unbound h.variables h.structures [] h.bindings n formed.bound le
told_free h n (Some v ∷ ts) (suc i) formed there le lt = told_free h n ts i formed there.1 le (omega (arith, lt))
told_free h n (None ∷ ts) (suc i) formed there le lt = told_free h (suc n) ts i formed there (omega (arith, le)) (omega (arith, lt))

behind_none : {N : Type 0} (filler : Cell N) (n : ℕ) (told : List (Option ℕ)) (v : ℕ) → 1 ≤ v → v ≤ length told → slice_index_or (filler ∷ told_cells n told) v (cell.Variable 0) ≡ cell.Variable (told_at n told (v - 1))
behind_none filler n told zero low high = absurd (omega (arith, low))
behind_none {N = N} filler n told (suc i) low high =
    let same : i ≡ suc i - 1 = omega arith in
    told_cell N n told i (cell.Variable 0) (omega (arith, high)) ∙ ap (λ k. cell.Variable (told_at n told k)) same

-- the cells that are put for an answer's variables are of the store, and free in it
pub told_inside : {N : Type 0} (built : BuiltIn → N) (old new : Held N) (told : List (Option ℕ)) (cells : List (Cell N)) → AreTold old told → new ≡ with_variables old (new_in told) → cells ≡ told_row built old.variables told → AreIn new cells
told_inside {N = N} built old new told cells there is cells_are =
    let made : Held N = with_variables old (new_in told) in
    let P : Held N → Type 0 = λ h. AreIn h (told_row built old.variables told) in
    let Q : List (Cell N) → Type 0 = λ xs. AreIn new xs in
    subst Q (sym cells_are) (subst P (sym is) (tt, told_within N old made.variables (length made.structures) old.variables told there (omega arith) (omega arith)))

pub told_variables : {N : Type 0} (built : BuiltIn → N) (old new : Held N) (told : List (Option ℕ)) (cells : List (Cell N)) → IsFormed old → AreTold old told → new.bindings ≡ old.bindings → cells ≡ told_row built old.variables told →
    AreFreeCells new (length told) (λ v. told_at old.variables told (v - 1)) cells
told_variables {N = N} built old new told cells formed there same cells_are = record {
  length_is = ap length cells_are ∙ omega (arith, told_length N old.variables told);
  are = λ v low high. ap (λ (xs : List (Cell N)). slice_index_or xs v (cell.Variable 0)) cells_are ∙ behind_none _ old.variables told v low high;
  free = λ v low high. ap (is_bound (told_at old.variables told (v - 1))) same ∙ told_free old old.variables told (v - 1) formed there (omega arith) (omega (arith, low, high));
}

-- the cells of an answer's variables so far, and those that are left
pub record ToldSoFar {N : Type 0} (built : BuiltIn → N) (old now : Held N) (told rest : List (Option ℕ)) (cells : List (Cell N)) : Type 0 where
  pub grown : Grown old now
  pub held : with_variables now (new_in rest) ≡ with_variables old (new_in told)
  pub cells_are : cells ++ told_cells now.variables rest ≡ told_row built old.variables told

pub told_begun : {N : Type 0} (built : BuiltIn → N) (h : Held N) (told : List (Option ℕ)) (start cells : List (Cell N)) → start ≡ [] → cells ≡ start ++ cell.Atom (built EmptyList) ∷ [] → ToldSoFar built h h told told cells
told_begun {N = N} built h told start cells empty put = record {
  grown = Grown-same h;
  held = refl;
  cells_are = ap (λ (xs : List (Cell N)). xs ++ told_cells h.variables told) (put ∙ ap (λ (xs : List (Cell N)). xs ++ cell.Atom (built EmptyList) ∷ []) empty);
}

-- one more that is told
pub told_kept : {N : Type 0} (built : BuiltIn → N) (old mid new : Held N) (told rest others : List (Option ℕ)) (cells after : List (Cell N)) (v number : ℕ) →
    rest ≡ Some v ∷ others → number ≡ v → new ≡ mid → after ≡ cells ++ cell.Variable number ∷ [] → ToldSoFar built old mid told rest cells → ToldSoFar built old new told others after
told_kept {N = N} built old mid new told rest others cells after v number e is same put s =
    let P : Held N → Type 0 = λ h. ToldSoFar built old h told others after in
    subst P (sym same) (record {
      grown = s.grown;
      held = ap (λ l. with_variables mid (new_in l)) (sym e) ∙ s.held;
      cells_are =
          ap (λ (xs : List (Cell N)). xs ++ told_cells mid.variables others) put
          ∙ append_assoc cells (cell.Variable number ∷ []) (told_cells mid.variables others)
          ∙ ap (λ n. cells ++ cell.Variable n ∷ told_cells mid.variables others) is
          ∙ ap (λ l. cells ++ told_cells mid.variables l) (sym e)
          ∙ s.cells_are;
    })

one_then : {N : Type 0} (h : Held N) (k : ℕ) → with_variables (with_variable h) k ≡ with_variables h (suc k)
one_then {N = N} h k = let same : (h.variables + 1) + k ≡ h.variables + suc k = omega arith in ap (λ n. record { variables = n; structures = h.structures; bindings = h.bindings }) same

-- one more that is new
pub told_fresh : {N : Type 0} (built : BuiltIn → N) (old mid new : Held N) (told rest others : List (Option ℕ)) (cells after : List (Cell N)) (number : ℕ) →
    rest ≡ None ∷ others → number ≡ mid.variables → new ≡ with_variable mid → after ≡ cells ++ cell.Variable number ∷ [] → ToldSoFar built old mid told rest cells → ToldSoFar built old new told others after
told_fresh {N = N} built old mid new told rest others cells after number e is made put s =
    let next : mid.variables + 1 ≡ suc mid.variables = omega arith in
    let P : Held N → Type 0 = λ h. ToldSoFar built old h told others after in
    subst P (sym made) (record {
      grown = Grown-trans old mid (with_variable mid) s.grown (Grown-variable mid);
      held = one_then mid (new_in others) ∙ ap (λ l. with_variables mid (new_in l)) (sym e) ∙ s.held;
      cells_are =
          ap (λ (xs : List (Cell N)). xs ++ told_cells (mid.variables + 1) others) put
          ∙ append_assoc cells (cell.Variable number ∷ []) (told_cells (mid.variables + 1) others)
          ∙ ap (λ n. cells ++ cell.Variable n ∷ told_cells (mid.variables + 1) others) is
          ∙ ap (λ n. cells ++ cell.Variable mid.variables ∷ told_cells n others) next
          ∙ ap (λ l. cells ++ told_cells mid.variables l) (sym e)
          ∙ s.cells_are;
    })

-- nothing is left
pub told_held : {N : Type 0} (built : BuiltIn → N) (old now : Held N) (told rest : List (Option ℕ)) (cells : List (Cell N)) → rest ≡ [] → ToldSoFar built old now told rest cells → now ≡ with_variables old (new_in told)
told_held {N = N} built old now told rest cells ended s =
    let same : now.variables ≡ now.variables + 0 = omega arith in
    ap (λ n. record { variables = n; structures = now.structures; bindings = now.bindings }) same ∙ ap (λ l. with_variables now (new_in l)) (sym ended) ∙ s.held

pub told_put : {N : Type 0} (built : BuiltIn → N) (old now : Held N) (told rest : List (Option ℕ)) (cells : List (Cell N)) → rest ≡ [] → ToldSoFar built old now told rest cells → cells ≡ told_row built old.variables told
told_put {N = N} built old now told rest cells ended s = sym (append-nil cells) ∙ ap (λ l. cells ++ told_cells now.variables l) (sym ended) ∙ s.cells_are

-- they still are if a store has grown and nothing was bound
pub still_variables : {N : Type 0} (old new : Held N) (last count : ℕ) (cells : List (Cell N)) → Grown old new → new.bindings ≡ old.bindings → AreGoalVariables old last count cells → AreGoalVariables new last count cells
still_variables old new last count cells grown same vs = record {
  inside = all_still_in old new cells grown vs.inside;
  next = vs.next;
  free = λ v low high. ap (λ bs. is_bound (last + v) bs) same ∙ vs.free v low high;
}

-- the row of a goal has no variable beyond its greatest
pub goal_row_below : (names : List (List ℕ)) (row : List Instruction) (goal : Term) (count : ℕ) → IsRowOf names row (nodes_of goal) → highest goal < count → AreBelow count row
goal_row_below names row goal count is h = rows_below names row count (omega (arith, h, highest_is (map (code_in names) row) goal is.nodes_are))

-- so none beyond the cells that were put for its variables
pub goal_row_has : {N : Type 0} (names : List (List ℕ)) (row : List Instruction) (goal : Term) (last : ℕ) (cells : List (Cell N)) → IsRowOf names row (nodes_of goal) → AreNext last (highest goal) cells → AreBelow (length cells) row
goal_row_has names row goal last cells is next = goal_row_below names row goal (length cells) is (omega (arith, next.length_is))

-- ---- the goal

-- variables from 1 on
abbrev pub AreFromOne : List ℕ → Type 0
AreFromOne [] = Unit {0}
AreFromOne (v ∷ vs) = (1 ≤ v) × AreFromOne vs

pub numbered_from_one : (seen : ℕ) (vs : List ℕ) → numbered_after seen vs ≡ true → AreFromOne vs
numbered_from_one seen [] h = tt
numbered_from_one seen (v ∷ vs) h =
    let p = and_parts (nat_le 1 v && nat_le v (suc seen)) (numbered_after (max seen v) vs) h in
    let q = and_parts (nat_le 1 v) (nat_le v (suc seen)) p.0 in
    (leb-true 1 v q.0, numbered_from_one (max seen v) vs p.1)

pub one_left : (us vs : List ℕ) → AreFromOne (us ++ vs) → AreFromOne us
one_left [] vs h = tt
one_left (u ∷ us) vs h = (h.0, one_left us vs h.1)

pub one_right : (us vs : List ℕ) → AreFromOne (us ++ vs) → AreFromOne vs
one_right [] vs h = h
one_right (u ∷ us) vs h = one_right us vs h.1

-- terms that are put for variables are the same if they are for those of the term
mutual
  same_term : (d e : ℕ → Term) (count : ℕ) → ((v : ℕ) → 1 ≤ v → v ≤ count → d v ≡ e v) → (t : Term) → highest t ≤ count → AreFromOne (variables_of t) → substituted d t ≡ substituted e t
  same_term d e count same (variable n) high low = same n low.0 high
  same_term d e count same (integer i) high low = refl
  same_term d e count same (atom a) high low = refl
  same_term d e count same (structure f ts) high low = ap (structure f) (same_terms d e count same ts high low)

  same_terms : (d e : ℕ → Term) (count : ℕ) → ((v : ℕ) → 1 ≤ v → v ≤ count → d v ≡ e v) → (ts : Terms) → highest_in ts ≤ count → AreFromOne (variables_in ts) → each_substituted d ts ≡ each_substituted e ts
  same_terms d e count same none high low = refl
  same_terms d e count same (more t ts) high low =
      ap (λ u. more u (each_substituted d ts)) (same_term d e count same t (omega (arith, high)) (one_left (variables_of t) (variables_in ts) low))
      ∙ ap (more (substituted e t)) (same_terms d e count same ts (omega (arith, high)) (one_right (variables_of t) (variables_in ts) low))

-- what was built of a row is what it means
pub goal_built : {N : Type 0} (built : BuiltIn → N) (names : List N) (row : List Instruction) (cells : List (Cell N)) (old new : Held N) (stack : List (Cell N)) (d x : Cell N) →
    AreIn old cells → BuildsRow built names old new cells row stack → IsIn new d → first_or d (reverse stack) ≡ x → BuildsGoal built names row cells old new x
goal_built {N = N} built names row cells old new stack d x inside b there first =
    let P : Cell N → Type 0 = λ y. IsIn new y in
    record {
      inside = subst P first (first_within new.variables (length new.structures) d (reverse stack) there (AreWithin-reverse new.variables (length new.structures) stack b.inside));
      variables = b.count;
      kept = λ f reads. (b.stacked f reads).kept;
      built_is = λ f reads goal is. goal_means f goal (b.stacked f reads) is;
    }
  where
    goal_means : (f : N → List ℕ) (goal : Term) → Stacked f old new cells (map (code_in (map f names)) row) stack → IsRowOf (map f names) row (nodes_of goal) → IsGoalBuilt f old new cells goal x
    goal_means f goal s is =
        let read : read_nodes (map (code_in (map f names)) row) [] ≡ goal ∷ [] = ap (λ (cs : List NodeCode). read_nodes cs []) is.nodes_are ∙ reads-back goal [] in
        let means : (e : ℕ → Term) → Agrees f old cells e → term_of f new x ≡ substituted e goal = λ e agrees.
        ap (term_of f new) (sym first)
        ∙ (first_term_is f new d (reverse stack) ∙ ap (first_or (term_of f new d)) (s.terms e agrees ∙ ap (λ (ts : List Term). map (substituted e) ts) read)) in
        let own : ℕ → Term = λ v. term_of f old (slice_index_or cells v (cell.Variable 0)) in
        let here : term_of f new x ≡ substituted own goal = means own (λ v below. refl) in
        let Q : Cell N → Type 0 = λ y. IsIn old y in
        record {
          means = means;
          term = λ numbered last next.
              here ∙ same_term own (λ v. term_of f new (cell.Variable (last + v))) (highest goal)
              (λ v low high.
              let within : IsIn old (cell.Variable (last + v)) = subst Q (next.are v low high) (within_at old.variables (length old.structures) cells v (cell.Variable 0) inside (omega (arith, high, next.length_is))) in
              ap (term_of f old) (next.are v low high) ∙ sym (s.kept (cell.Variable (last + v)) within))
              goal (omega arith) (numbered_from_one 0 (variables_of goal) numbered);
          next = λ numbered last next free.
              here ∙ same_term own (λ v. variable (last + v)) (highest goal)
              (λ v low high. ap (term_of f old) (next.are v low high) ∙ term_of-unbound f old (last + v) (free v low high))
              goal (omega arith) (numbered_from_one 0 (variables_of goal) numbered);
          free = λ numbered e those.
              here ∙ same_term own (λ v. variable (e v)) (highest goal)
              (λ v low high. ap (term_of f old) (those.are v low high) ∙ term_of-unbound f old (e v) (those.free v low high))
              goal (omega arith) (numbered_from_one 0 (variables_of goal) numbered);
        }
