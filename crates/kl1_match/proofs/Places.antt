-- The cells that stand for a clause's variables.
use Rattle.std.proofs.Common.{◌≡◌, ℕ, zero, suc, ◌+◌, ◌-◌, ◌<◌, ◌≤◌, ◌==◌, Bool, true, false, if◌then◌else◌, List, [], ◌∷◌, ◌++◌, length, drop, replicate, refl, ap, sym, ◌∙◌, subst, slice_index_or, arith, append_assoc, append-nil, get_or, ◌||◌, ◌⊎◌, inl, inr, ne_eqb, eq-eqb, length-append, take}
use Rattle.std.proofs.lemmas.List.{drop_all, take_all, length-replicate}
use Rattle.kl1_store.specs.declared.cell.Cell.{Cell}
use Rattle.kl1_store.specs.declared.cell.Cell.TheVariants.{Variable, Atom}
use Rattle.kl1_model.specs.Term.{Term, variable, atom}
use Rattle.std.proofs.lemmas.Bool.{le-leb, lt-leb, false≢true}
use Rattle.kl1_model.specs.declared.built_in.BuiltIn.{BuiltIn}
use Rattle.kl1_model.specs.declared.built_in.BuiltIn.TheVariants.{EmptyList}
use Rattle.kl1_model.specs.Meaning.{nil}
use Rattle.kl1_model.specs.Match.{term_at}
use Rattle.kl1_text.specs.Reading.{Reads}
use Rattle.kl1_store.specs.declared.binding.Binding.{Binding}
use Rattle.kl1_store.specs.Held.{Shape, Held, with_variable, is_bound, IsWithin, AreWithin, IsIn}
use Rattle.kl1_store.specs.Meaning.{term_of}
use Rattle.kl1_store.specs.Sound.{Grown, Bound, IsFormed}
use Rattle.kl1_store.proofs.Grows.{Grown-trans, Grown-variable}
use Rattle.kl1_match.specs.declared.place.Place.{Place}
use Rattle.kl1_match.specs.Instances.{AreThere, replacements_of}
use Rattle.kl1_store.proofs.Terms.{term_of-Atom, term_of-unbound}
use Rattle.kl1_match.specs.Steps.{Agrees}
use Rattle.kl1_match.specs.Variables.{cell_at, cells_at, AreFrom, with_variables, fresh_cells, stands_for, AreVariables}
use Rattle.kl1_match.proofs.Built.{within_more}

-- the cells so far, with the places from one on set
pub record AreSet {N : Type 0} (old now : List (Cell N)) (places : List (Place N)) (left : ℕ) : Type 0 where
  pub within : left ≤ length places
  pub same : length now ≡ length old
  pub are : (v : ℕ) (d : Cell N) → v < length old → slice_index_or now v d ≡ cell_at (drop left places) v (slice_index_or old v d)

-- none is set yet
pub none_set : {N : Type 0} (old : List (Cell N)) (places : List (Place N)) → AreSet old old places (length places)
none_set {N = N} old places = record {
  within = omega arith;
  same = refl;
  are = λ v d h. ap (λ ps. cell_at ps v (slice_index_or old v d)) (sym (drop_all (length places) places (omega arith)));
}

-- fresh variables so far
pub record AreFresh {N : Type 0} (old now : Held N) (before cells : List (Cell N)) (count left : ℕ) : Type 0 where
  pub sum : now.variables + left ≡ old.variables + count
  pub structures : now.structures ≡ old.structures
  pub bindings : now.bindings ≡ old.bindings
  pub cells_are : cells ++ fresh_cells now.variables left ≡ before ++ fresh_cells old.variables count
  pub grown : Grown old now

-- one fresh variable more
pub fresh_more : {N : Type 0} (old mid new : Held N) (before cells after : List (Cell N)) (count left number : ℕ) →
    0 < left → AreFresh old mid before cells count left → number ≡ mid.variables → new ≡ with_variable mid → after ≡ cells ++ Variable number ∷ [] →
    AreFresh old new before after count (left - 1)
fresh_more {N = N} old mid new before cells after count zero number some fresh is grown pushed = absurd (omega (arith, some))
fresh_more {N = N} old mid new before cells after count (suc k) number some fresh is grown pushed =
    let less : k ≡ suc k - 1 = omega arith in
    let next : new.variables ≡ suc mid.variables = ap (λ h. h.variables) grown ∙ omega arith in
    let P : ℕ → Type 0 = λ n. AreFresh old new before after count n in
    subst P less (record {
      sum = omega (arith, next, fresh.sum);
      structures = ap (λ h. h.structures) grown ∙ fresh.structures;
      bindings = ap (λ h. h.bindings) grown ∙ fresh.bindings;
      cells_are =
          ap (λ xs. xs ++ fresh_cells new.variables k) pushed
          ∙ (append_assoc cells (Variable number ∷ []) (fresh_cells new.variables k)
          ∙ (ap (λ n. cells ++ Variable n ∷ fresh_cells new.variables k) is
          ∙ (ap (λ n. cells ++ Variable mid.variables ∷ fresh_cells n k) next ∙ fresh.cells_are)));
      grown = let G : Held N → Type 0 = λ h. Grown old h in subst G (sym grown) (Grown-trans old mid (with_variable mid) fresh.grown (Grown-variable mid));
    })

-- `count` variables more change no term
pub kept_with : {N : Type 0} (f : N → List ℕ) (h : Held N) (count : ℕ) (x : Cell N) → term_of f (with_variables h count) x ≡ term_of f h x
unfolding term_of
kept_with f h count x = refl

split : (m n : ℕ) → (m ≤ n) ⊎ (n < m)
split zero n = inl (omega arith)
split (suc m) zero = inr (omega arith)
split (suc m) (suc n) = elim (split m n) [ inl h ↦ inl (omega (arith, h)) | inr h ↦ inr (omega (arith, h)) ]

-- cells that are all of the store
pub all_within : {N : Type 0} (vs ss : ℕ) (xs : List (Cell N)) (d : Cell N) → ((i : ℕ) → i < length xs → IsWithin vs ss (slice_index_or xs i d)) → AreWithin vs ss xs
all_within vs ss [] d h = tt
all_within vs ss (x ∷ xs) d h = (h 0 (omega arith), all_within vs ss xs d (λ i p. h (suc i) (omega (arith, p))))

within_choice : {N : Type 0} (vs ss : ℕ) (b : Bool) (x y : Cell N) → IsWithin vs ss x → IsWithin vs ss y → IsWithin vs ss (if b then x else y)
within_choice vs ss true x y p q = p
within_choice vs ss false x y p q = q

place_within : {N : Type 0} (h : Held N) (ps : List (Place N)) (v : ℕ) (x : Cell N) → AreThere h ps → IsIn h x → IsIn h (cell_at ps v x)
place_within h [] v x p q = q
place_within h (p ∷ ps) v x there q = within_choice h.variables (length h.structures) (p.variable == v) p.cell (cell_at ps v x) there.0 (place_within h ps v x there.1 q)

choice_means : {N : Type 0} (f : N → List ℕ) (h : Held N) (b : Bool) (x y : Cell N) (t : Term) → term_of f h y ≡ t → term_of f h (if b then x else y) ≡ (if b then term_of f h x else t)
choice_means f h true x y t e = refl
choice_means f h false x y t e = e

-- the cell at a variable's place means the term at its place
place_means : {N : Type 0} (f : N → List ℕ) (h : Held N) (ps : List (Place N)) (v : ℕ) (x : Cell N) → term_of f h (cell_at ps v x) ≡ term_at (replacements_of f h ps) v (term_of f h x)
place_means f h [] v x = refl
place_means f h (p ∷ ps) v x = choice_means f h (p.variable == v) p.cell (cell_at ps v x) (term_at (replacements_of f h ps) v (term_of f h x)) (place_means f h ps v x)

at_left : {A : Type 0} (xs ys : List A) (i : ℕ) (d : A) → i < length xs → slice_index_or (xs ++ ys) i d ≡ slice_index_or xs i d
at_left [] ys i d h = absurd (omega (arith, h))
at_left (x ∷ xs) ys zero d h = refl
at_left (x ∷ xs) ys (suc i) d h = at_left xs ys i d (omega (arith, h))

at_right : {A : Type 0} (xs ys : List A) (i j : ℕ) (d : A) → j ≡ length xs + i → slice_index_or (xs ++ ys) j d ≡ slice_index_or ys i d
at_right [] ys i j d e = let same : j ≡ i = omega (arith, e) in ap (λ n. slice_index_or ys n d) same
at_right (x ∷ xs) ys i zero d e = absurd (omega (arith, e))
at_right (x ∷ xs) ys i (suc j) d e = at_right xs ys i j d (omega (arith, e))

pub at_fresh : {N : Type 0} (n k i : ℕ) (d : Cell N) → i < k → slice_index_or (fresh_cells n k) i d ≡ Variable (n + i)
at_fresh n zero i d h = absurd (omega (arith, h))
at_fresh n (suc k) zero d h = let e : n ≡ n + 0 = omega arith in ap (λ m. Variable m) e
at_fresh n (suc k) (suc i) d h = let e : suc n + i ≡ n + suc i = omega arith in at_fresh (suc n) k i d (omega (arith, h)) ∙ ap (λ m. Variable m) e

pub length-fresh : (N : Type 0) (n k : ℕ) → length (fresh_cells {N = N} n k) ≡ k
length-fresh N n zero = refl
length-fresh N n (suc k) = ap suc (length-fresh N (suc n) k)

pub at_same : {A : Type 0} (n i : ℕ) (x d : A) → i < n → slice_index_or (replicate n x) i d ≡ x
at_same zero i x d h = absurd (omega (arith, h))
at_same (suc n) zero x d h = refl
at_same (suc n) (suc i) x d h = at_same n i x d (omega (arith, h))

-- a variable beyond those of the store is bound by none of its bindings
pub beyond_unbound : {N : Type 0} (vs : ℕ) (ss : List (Shape N)) (before bs : List (Binding N)) (v : ℕ) → Bound vs ss before bs → vs ≤ v → is_bound v bs ≡ false
beyond_unbound vs ss before [] v p h = refl
beyond_unbound vs ss before (b ∷ bs) v p h = or_from (b.variable == v) (is_bound v bs) (ne_eqb b.variable v (λ e. absurd (omega (arith, e, h, p.0.inside)))) (beyond_unbound vs ss (before ++ b ∷ []) bs v p.1 h)
  where
    or_from : (a b : Bool) → a ≡ false → b ≡ false → (a || b) ≡ false
    or_from true b p q = p
    or_from false b p q = q

take_none : {A : Type 0} (n : ℕ) (xs : List A) → xs ≡ [] → take n xs ≡ []
take_none zero xs e = refl
take_none (suc n) [] e = refl
take_none (suc n) (x ∷ xs) e = absurd (cc)

-- an empty list that was filled up
pub filled_up : {A : Type 0} (n len : ℕ) (old now : List A) (x : A) → now ≡ take n old ++ replicate (n - len) x → old ≡ [] → len ≡ 0 → now ≡ replicate n x
filled_up n len old now x e none zero_is =
    let more : n - len ≡ n = omega (arith, zero_is) in
    e ∙ (ap (λ xs. xs ++ replicate (n - len) x) (take_none n old none) ∙ ap (λ m. replicate m x) more)

-- cells of which each was one for none, and was set to that at its variable's place
pub all_set : {N : Type 0} (count : ℕ) (none : Cell N) (places : List (Place N)) (empty first : List (Cell N)) → empty ≡ replicate count none →
    ((v : ℕ) (d : Cell N) → v < length empty → slice_index_or first v d ≡ cell_at places v (slice_index_or empty v d)) →
    (v : ℕ) (d : Cell N) → v < count → slice_index_or first v d ≡ cell_at places v none
all_set count none places empty first is set v d h =
    let same : length empty ≡ count = ap length is ∙ length-replicate count none in
    set v d (omega (arith, h, same)) ∙ ap (cell_at places v) (ap (λ xs. slice_index_or xs v d) is ∙ at_same count v none d h)

pub choice_true : {A : Type 0} (b : Bool) (x y : A) → b ≡ true → (if b then x else y) ≡ x
choice_true true x y e = refl
choice_true false x y e = absurd (false≢true e)

pub choice_false : {A : Type 0} (b : Bool) (x y : A) → b ≡ false → (if b then x else y) ≡ y
choice_false false x y e = refl
choice_false true x y e = absurd (false≢true (sym e))

-- a variable before those of places in order has none
before_order : {N : Type 0} (n : ℕ) (ps : List (Place N)) (v : ℕ) (x : Cell N) → AreFrom n ps → v < n → cell_at ps v x ≡ x
before_order n [] v x h lt = refl
before_order n (p ∷ ps) v x h lt =
    choice_false (p.variable == v) p.cell (cell_at ps v x) (ne_eqb p.variable v (λ e. absurd (omega (arith, e, h.0, lt)))) ∙ before_order (suc n) ps v x h.1 (omega (arith, lt))

-- the place of each other is as far after the first as its variable
in_order : {N : Type 0} (n : ℕ) (ps : List (Place N)) (i v : ℕ) (x d : Cell N) → AreFrom n ps → i < length ps → v ≡ n + i → slice_index_or (cells_at ps) i d ≡ cell_at ps v x
in_order n [] i v x d h lt e = absurd (omega (arith, lt))
in_order n (p ∷ ps) zero v x d h lt e =
    let same : p.variable ≡ v = omega (arith, h.0, e) in
    sym (choice_true (p.variable == v) p.cell (cell_at ps v x) (eq-eqb p.variable v same))
in_order n (p ∷ ps) (suc i) v x d h lt e =
    in_order (suc n) ps i v x d h.1 (omega (arith, lt)) (omega (arith, e))
    ∙ sym (choice_false (p.variable == v) p.cell (cell_at ps v x) (ne_eqb p.variable v (λ q. absurd (omega (arith, q, h.0, e)))))

-- cells at places that are in order
pub all_in_order : {N : Type 0} (count : ℕ) (none : Cell N) (places : List (Place N)) (cells : List (Cell N)) → cells ≡ none ∷ cells_at places → AreFrom 1 places → length places + 1 ≡ count →
    (v : ℕ) (d : Cell N) → v < count → slice_index_or cells v d ≡ cell_at places v none
all_in_order count none places cells is order all zero d h = ap (λ xs. slice_index_or xs 0 d) is ∙ sym (before_order 1 places 0 none order (omega arith))
all_in_order count none places cells is order all (suc i) d h = ap (λ xs. slice_index_or xs (suc i) d) is ∙ in_order 1 places i (suc i) none d order (omega (arith, h, all)) (omega arith)

-- the cells with those at the places that are left are all, and if the places that are left are in order, then all are
pub record InOrder {N : Type 0} (start cells : List (Cell N)) (places rest : List (Place N)) : Type 0 where
  pub are : cells ++ cells_at rest ≡ start ++ cells_at places
  pub order : AreFrom (length cells) rest → AreFrom (length start) places

-- one place more that is in order
order_step : {N : Type 0} (start cells after : List (Cell N)) (places more : List (Place N)) (p : Place N) → p.variable ≡ length cells → after ≡ cells ++ p.cell ∷ [] →
    InOrder start cells places (p ∷ more) → InOrder start after places more
order_step start cells after places more p numbered pushed o =
    let longer : length after ≡ suc (length cells) = omega (arith, ap length pushed, length-append cells (p.cell ∷ [])) in
    record {
      are = ap (λ xs. xs ++ cells_at more) pushed ∙ (append_assoc cells (p.cell ∷ []) (cells_at more) ∙ o.are);
      order = λ h. o.order (numbered, subst (λ m. AreFrom m more) longer h);
    }

pub order_step_at : {N : Type 0} (start cells after : List (Cell N)) (places rest : List (Place N)) (p : Place N) → 1 ≤ length rest → p ≡ get_or rest 0 p → p.variable ≡ length cells → after ≡ cells ++ p.cell ∷ [] →
    InOrder start cells places rest → InOrder start after places (take (length rest - 1) (drop 1 rest))
order_step_at start cells after places [] p le e numbered pushed o = absurd (omega arith)
order_step_at {N = N} start cells after places (q ∷ more) p le e numbered pushed o =
    let P : List (Place N) → Type 0 = λ l. InOrder start after places l in
    let Q : Place N → Type 0 = λ k. InOrder start cells places (k ∷ more) in
    subst P (sym (take_all (length (q ∷ more) - 1) more (omega arith))) (order_step start cells after places more p numbered pushed (subst Q (sym e) o))

-- no place is left
pub order_end_at : {N : Type 0} (start cells : List (Cell N)) (places rest : List (Place N)) → length rest < 1 → InOrder start cells places rest → AreFrom (length start) places × (cells ≡ start ++ cells_at places)
order_end_at start cells places [] le o = (o.order tt, sym (append-nil cells) ∙ o.are)
order_end_at start cells places (p ∷ ps) le o = absurd (omega arith)

-- there are as many cells as places
pub length-cells_at : {N : Type 0} (ps : List (Place N)) → length (cells_at ps) ≡ length ps
length-cells_at [] = refl
length-cells_at (p ∷ ps) = ap suc (length-cells_at ps)

-- the cells of the head's variables with the new variables after them are cells for all variables
pub are_variables : {N : Type 0} (built : BuiltIn → N) (head fresh : ℕ) (places : List (Place N)) (old new : Held N) (none : Cell N) (empty first cells : List (Cell N)) →
    IsFormed old → 0 < old.variables → AreThere old places → none ≡ Atom (built EmptyList) → empty ≡ replicate (head + 1) none → length first ≡ length empty →
    ((v : ℕ) (d : Cell N) → v < length empty → slice_index_or first v d ≡ cell_at places v (slice_index_or empty v d)) →
    new ≡ with_variables old fresh → cells ≡ first ++ fresh_cells old.variables fresh → AreVariables built head fresh places old new cells
are_variables {N = N} built head fresh places old new none empty first cells formed some there none_is empty_is length_is set is cells_are =
    let d : Cell N = Variable 0 in
    let made : Held N = with_variables old fresh in
    let all : List (Cell N) = first ++ fresh_cells old.variables fresh in
    let first_length : length first ≡ head + 1 = length_is ∙ (ap length empty_is ∙ length-replicate (head + 1) none) in
    let all_length : length all ≡ head + 1 + fresh = omega (arith, length-append first (fresh_cells old.variables fresh), first_length, length-fresh N old.variables fresh) in
    let low : (v : ℕ) → v ≤ head → slice_index_or all v d ≡ cell_at places v none = λ v h.
    at_left first (fresh_cells old.variables fresh) v d (omega (arith, h, first_length))
    ∙ (set v d (omega (arith, h, first_length, length_is)) ∙ ap (cell_at places v) (ap (λ xs. slice_index_or xs v d) empty_is ∙ at_same (head + 1) v none d (omega (arith, h)))) in
    let high : (v : ℕ) → head < v → v < length all → slice_index_or all v d ≡ Variable (old.variables + (v - (head + 1))) = λ v h k.
    at_right first (fresh_cells old.variables fresh) (v - (head + 1)) v d (omega (arith, h, first_length))
    ∙ at_fresh old.variables fresh (v - (head + 1)) d (omega (arith, h, k, all_length)) in
    let none_in : IsIn old none = let P : Cell N → Type 0 = λ x. IsIn old x in subst P (sym none_is) tt in
    let within : (v : ℕ) → v < length all → IsIn made (slice_index_or all v d) = λ v k.
    let P : Cell N → Type 0 = λ x. IsIn made x in
    elim (split v head) [
      | inl h ↦ subst P (sym (low v h)) (within_more old.variables (length old.structures) made.variables (length made.structures) (cell_at places v none) (omega arith) (omega arith) (place_within old places v none there none_in))
      | inr h ↦ subst P (sym (high v h k)) (omega (arith, h, k, all_length))
    ] in
    let mean : (f : N → List ℕ) → Reads built f → Agrees f made all (stands_for head (replacements_of f old places) (old.variables - 1)) = λ f reads v k.
    let none_means : term_of f old none ≡ nil = ap (term_of f old) none_is ∙ (term_of-Atom f old (built EmptyList) ∙ ap atom (reads.texts EmptyList)) in
    let rs = replacements_of f old places in
    let last = old.variables - 1 in
    elim (split v head) [
      | inl h ↦
          ap (term_of f made) (low v h)
          ∙ (kept_with f old fresh (cell_at places v none)
          ∙ (place_means f old places v none
          ∙ (ap (term_at rs v) none_means ∙ ap (λ b. if b then term_at rs v nil else variable (last + (v - head))) (sym (le-leb v head h)))))
      | inr h ↦
          let e : old.variables + (v - (head + 1)) ≡ last + (v - head) = omega (arith, h, some) in
          let u = beyond_unbound old.variables old.structures [] old.bindings (old.variables + (v - (head + 1))) formed.bound (omega arith) in
          ap (term_of f made) (high v h k)
          ∙ (term_of-unbound f made (old.variables + (v - (head + 1))) u
          ∙ (ap variable e ∙ ap (λ b. if b then term_at rs v nil else variable (last + (v - head))) (sym (lt-leb v head h))))
    ] in
    let result : AreVariables built head fresh places old made all = record { held = refl; length_is = all_length; inside = all_within made.variables (length made.structures) all d within; mean = mean } in
    let P : Held N → Type 0 = λ h. AreVariables built head fresh places old h all in
    let Q : List (Cell N) → Type 0 = λ xs. AreVariables built head fresh places old new xs in
    subst Q (sym cells_are) (subst P (sym is) result)

-- cells for all variables, by what is known to stand at each variable
pub variables_are : {N : Type 0} (built : BuiltIn → N) (head fresh : ℕ) (places : List (Place N)) (old new : Held N) (none : Cell N) (first cells : List (Cell N)) →
    IsFormed old → 0 < old.variables → AreThere old places → none ≡ Atom (built EmptyList) → length first ≡ head + 1 →
    ((v : ℕ) (d : Cell N) → v < head + 1 → slice_index_or first v d ≡ cell_at places v none) →
    new ≡ with_variables old fresh → cells ≡ first ++ fresh_cells old.variables fresh → AreVariables built head fresh places old new cells
variables_are {N = N} built head fresh places old new none first cells formed some there none_is length_is set is cells_are =
    let many = length-replicate (head + 1) none in
    are_variables built head fresh places old new none (replicate (head + 1) none) first cells formed some there none_is refl (length_is ∙ sym many)
    (λ v d h. let low : v < head + 1 = omega (arith, h, many) in set v d low ∙ ap (cell_at places v) (sym (at_same (head + 1) v none d low)))
    is cells_are
