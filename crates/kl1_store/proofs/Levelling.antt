-- What levels say of terms, and how growth keeps them.
use Rattle.std.proofs.Common.{◌≡◌, ℕ, zero, suc, ◌<◌, ◌≤◌, ◌==◌, Bool, true, false, ◌||◌, List, [], ◌∷◌, ◌++◌, length, take, if◌then◌else◌, refl, sym, ap, ◌∙◌, ◌⊎◌, inl, inr, arith, subst, length-append, length-take}
use Rattle.std.specs.Prelude.{Some, Result, Ok, Err, IfOk, OnOk, OnErr, slice_get, leb}
use Rattle.std.proofs.lemmas.Bool.{cases_eq, ne_eqb, false≢true, leb-true, leb-false}
use Rattle.std.proofs.lemmas.List.{get_or-take, get_or_past}
use Rattle.kl1_model.specs.Term.{Term, variable, integer, atom, structure, occurs, occurs_in, size, sizes}
use Rattle.kl1_store.specs.declared.cell.Cell.{Cell}
use Rattle.kl1_store.specs.declared.cell.Cell.TheVariants.{Variable, Integer, Atom, Structure}
use Rattle.kl1_store.specs.declared.levels.Levels.{Levels}
use Rattle.kl1_store.specs.declared.binding.Binding.{Binding}
use Rattle.kl1_store.specs.Held.{Shape, Held, nothing_held, shape_arguments, IsWithin, with_variable, with_structure, with_binding, is_bound, found, IsIn, AreIn, IsLower, IsWalked, arguments_of}
use Rattle.kl1_store.specs.Meaning.{term_of, terms_of}
use Rattle.kl1_store.specs.Sound.{IsFormed, IsBoundTo, Grown}
use Rattle.kl1_store.specs.Levels.{level_at, LiesAt, IsLevel, AreLevels}
use Rattle.kl1_store.proofs.Terms.{term_of-Structure, term_of-unbound, term_of-Integer, term_of-Atom, arguments_in, within_at, found_in}
use Rattle.kl1_store.proofs.Meetings.{named}
use Rattle.kl1_store.proofs.Walking.{found_itself, bound_at}
use Rattle.kl1_store.proofs.Lists.{found_unbound, found-push_same, found-push_other}

pub lies_lower : {N : Type 0} (vs ss : ℕ → ℕ) (m n : ℕ) (x : Cell N) → m ≤ n → LiesAt vs ss n x → LiesAt vs ss m x
lies_lower vs ss m n (Variable v) le l = omega arith
lies_lower vs ss m n (Integer i) le l = tt
lies_lower vs ss m n (Atom a) le l = tt
lies_lower vs ss m n (Structure s) le l = omega arith

-- a cell that stands for another, and lies where that does
pub record StandsAt {N : Type 0} (h : Held N) (vs ss : ℕ → ℕ) (n : ℕ) (x : Cell N) : Type 0 where
  pub cell : Cell N
  pub inside : IsIn h cell
  pub walked : IsWalked h cell
  pub means : (f : N → List ℕ) → term_of f h cell ≡ term_of f h x
  pub lies : LiesAt vs ss n cell

-- a cell that a variable was bound to, if lower variables stand for something
onwards : {N : Type 0} (h : Held N) (vs ss : ℕ → ℕ) (n w : ℕ) (x y : Cell N) → IsIn h y → IsLower w y → ((f : N → List ℕ) → term_of f h y ≡ term_of f h x) → LiesAt vs ss n y →
    ((u : ℕ) → u < w → suc u ≤ h.variables → n ≤ vs u → StandsAt h vs ss n (Variable u)) → StandsAt h vs ss n x
onwards h vs ss n w x (Variable u) inside lower means lies rest =
    let r = rest u lower inside lies in
    record { cell = r.cell; inside = r.inside; walked = r.walked; means = λ f. r.means f ∙ means f; lies = r.lies }
onwards h vs ss n w x (Integer i) inside lower means lies rest = record { cell = Integer i; inside = inside; walked = tt; means = means; lies = lies }
onwards h vs ss n w x (Atom a) inside lower means lies rest = record { cell = Atom a; inside = inside; walked = tt; means = means; lies = lies }
onwards h vs ss n w x (Structure s) inside lower means lies rest = record { cell = Structure s; inside = inside; walked = tt; means = means; lies = lies }

pub either : (b : Bool) → (b ≡ false) ⊎ (b ≡ true)
either true = inr refl
either false = inl refl

stands_by : {N : Type 0} (h : Held N) (vs ss : ℕ → ℕ) (n w : ℕ) → IsFormed h → IsLevel h vs ss → suc w ≤ h.variables → n ≤ vs w →
    ((u : ℕ) → u < w → suc u ≤ h.variables → n ≤ vs u → StandsAt h vs ss n (Variable u)) → (is_bound w h.bindings ≡ false) ⊎ (is_bound w h.bindings ≡ true) → StandsAt h vs ss n (Variable w)
stands_by h vs ss n w p level inside le rest (inl u) = record { cell = Variable w; inside = inside; walked = u; means = λ f. refl; lies = le }
stands_by h vs ss n w p level inside le rest (inr b) =
    let to : IsBoundTo h w (found w h.bindings) = bound_at h w (found w h.bindings) p inside refl (λ e. absurd (false≢true (sym (found_itself h w p e) ∙ b))) in
    onwards h vs ss n w (Variable w) (found w h.bindings) to.inside to.lower to.means (lies_lower vs ss n (vs w) (found w h.bindings) le (level.values w)) rest

stands_variable : {N : Type 0} (h : Held N) (vs ss : ℕ → ℕ) (n m w : ℕ) → IsFormed h → IsLevel h vs ss → w < m → suc w ≤ h.variables → n ≤ vs w → StandsAt h vs ss n (Variable w)
stands_variable h vs ss n zero w p level lt inside le = absurd (omega arith)
stands_variable h vs ss n (suc m) w p level lt inside le =
    stands_by h vs ss n w p level inside le (λ u less there below. stands_variable h vs ss n m u p level (omega arith) there below) (either (is_bound w h.bindings))

pub stands : {N : Type 0} (h : Held N) (vs ss : ℕ → ℕ) (n : ℕ) (x : Cell N) → IsFormed h → IsLevel h vs ss → IsIn h x → LiesAt vs ss n x → StandsAt h vs ss n x
stands h vs ss n (Variable w) p level inside lies = stands_variable h vs ss n (suc w) w p level (omega arith) inside lies
stands h vs ss n (Integer i) p level inside lies = record { cell = Integer i; inside = inside; walked = tt; means = λ f. refl; lies = lies }
stands h vs ss n (Atom a) p level inside lies = record { cell = Atom a; inside = inside; walked = tt; means = λ f. refl; lies = lies }
stands h vs ss n (Structure s) p level inside lies = record { cell = Structure s; inside = inside; walked = tt; means = λ f. refl; lies = lies }

-- ---- a variable is in no term that lies above it

pub size-positive : (t : Term) → 0 < size t
size-positive (variable n) = omega arith
size-positive (integer i) = omega arith
size-positive (atom a) = omega arith
size-positive (structure a ts) = omega arith

pub or-both : (a b : Bool) → a ≡ false → b ≡ false → (a || b) ≡ false
or-both true b p q = p
or-both false b p q = q

free_each : {N : Type 0} (f : N → List ℕ) (h : Held N) (vs ss : ℕ → ℕ) (v n k : ℕ) (xs : List (Cell N)) → AreIn h xs → sizes (terms_of f h xs) ≤ k →
    ((i : ℕ) (x : Cell N) → slice_get xs i ≡ Some x → LiesAt vs ss n x) →
    ((x : Cell N) → IsIn h x → size (term_of f h x) ≤ k → LiesAt vs ss n x → occurs v (term_of f h x) ≡ false) → occurs_in v (terms_of f h xs) ≡ false
unfolding terms_of
free_each f h vs ss v n k [] inside small lies each = refl
free_each f h vs ss v n k (x ∷ xs) inside small lies each =
    or-both (occurs v (term_of f h x)) (occurs_in v (terms_of f h xs)) (each x inside.0 (omega arith) (lies 0 x refl))
    (free_each f h vs ss v n k xs inside.1 (omega arith) (λ i y e. lies (suc i) y e) each)

free_walked : {N : Type 0} (f : N → List ℕ) (h : Held N) (vs ss : ℕ → ℕ) (v n k : ℕ) (y : Cell N) → IsFormed h → IsLevel h vs ss → vs v < n → IsIn h y → IsWalked h y → size (term_of f h y) ≤ suc k → LiesAt vs ss n y →
    ((x : Cell N) → IsIn h x → size (term_of f h x) ≤ k → LiesAt vs ss n x → occurs v (term_of f h x) ≡ false) → occurs v (term_of f h y) ≡ false
free_walked f h vs ss v n k (Variable w) p level above inside walked small lies each =
    ap (occurs v) (term_of-unbound f h w walked) ∙ ne_eqb v w (λ e. absurd (omega (arith, ap vs e)))
free_walked f h vs ss v n k (Integer i) p level above inside walked small lies each = ap (occurs v) (term_of-Integer f h i)
free_walked f h vs ss v n k (Atom a) p level above inside walked small lies each = ap (occurs v) (term_of-Atom f h a)
free_walked f h vs ss v n k (Structure s) p level above inside walked small lies each =
    let r = named h s inside in
    let e = term_of-Structure f h s r.0 p r.1 in
    let big = ap size e in
    ap (occurs v) e ∙ free_each f h vs ss v n k (arguments_of h s) (arguments_in h s p) (omega (arith, big)) (λ i x got. lies_lower vs ss n (ss s) x lies (level.arguments s i x got)) each

free_within : {N : Type 0} (f : N → List ℕ) (h : Held N) (vs ss : ℕ → ℕ) (v n k : ℕ) (x : Cell N) → IsFormed h → IsLevel h vs ss → vs v < n → IsIn h x → size (term_of f h x) ≤ k → LiesAt vs ss n x → occurs v (term_of f h x) ≡ false
free_within f h vs ss v n zero x p level above inside small lies = absurd (omega (arith, size-positive (term_of f h x)))
free_within f h vs ss v n (suc k) x p level above inside small lies =
    let s = stands h vs ss n x p level inside lies in
    ap (occurs v) (sym (s.means f))
    ∙ free_walked f h vs ss v n k s.cell p level above s.inside s.walked (omega (arith, ap size (s.means f))) s.lies
    (λ y there less at. free_within f h vs ss v n k y p level above there less at)

pub free_above : {N : Type 0} (f : N → List ℕ) (h : Held N) (vs ss : ℕ → ℕ) (v n : ℕ) (x : Cell N) → IsFormed h → IsLevel h vs ss → vs v < n → IsIn h x → LiesAt vs ss n x → occurs v (term_of f h x) ≡ false
free_above f h vs ss v n x p level above inside lies = free_within f h vs ss v n (size (term_of f h x)) x p level above inside (omega arith) lies

-- ---- growth keeps levels

le_or : (a b : ℕ) → (b ≤ a) ⊎ (a < b)
le_or a b = by_test (leb b a) refl
  where
    by_test : (t : Bool) → leb b a ≡ t → (b ≤ a) ⊎ (a < b)
    by_test true e = inl (leb-true b a e)
    by_test false e = inr (leb-false b a e)

pub lies_at_0 : {N : Type 0} (vs ss : ℕ → ℕ) (n : ℕ) (x : Cell N) → n ≡ 0 → LiesAt vs ss n x
lies_at_0 vs ss n (Variable v) e = omega arith
lies_at_0 vs ss n (Integer i) e = tt
lies_at_0 vs ss n (Atom a) e = tt
lies_at_0 vs ss n (Structure s) e = omega arith

pub levels_cleared : {N : Type 0} (h : Held N) (ls : Levels) → ls.variables.items ≡ [] → ls.structures.items ≡ [] → AreLevels h ls
levels_cleared h ls e1 e2 = record {
  level = record {
    arguments = λ s i x got. lies_at_0 _ _ _ x (ap (λ l. level_at l s) e2);
    values = λ v. lies_at_0 _ _ _ (found v h.bindings) (ap (λ l. level_at l v) e1);
  };
  fit = omega (arith, ap length e2);
}

pub levels-variable : {N : Type 0} (h : Held N) (ls : Levels) → AreLevels h ls → AreLevels (with_variable h) ls
levels-variable h ls a = record { level = record { arguments = a.level.arguments; values = a.level.values }; fit = a.fit }

pub levels_fresh : {N X E : Type 0} (old new : Held N) (P : X → Type 0) (r : Result X E) (ls : Levels) → IfOk r (λ (v : X). P v × (new ≡ with_variable old)) → OnErr r (new ≡ old) → AreLevels old ls → AreLevels new ls
levels_fresh {N = N} old new P (Ok v) ls ok err a = let Q : Held N → Type 0 = λ h. AreLevels h ls in subst Q (sym ok.1) (levels-variable old ls a)
levels_fresh {N = N} old new P (Err e) ls ok err a = let Q : Held N → Type 0 = λ h. AreLevels h ls in subst Q (sym err) a

slice_get-push : {X : Type 0} (xs : List X) (x : X) (i : ℕ) → i < length xs → slice_get (xs ++ x ∷ []) i ≡ slice_get xs i
slice_get-push [] x i lt = absurd (omega arith)
slice_get-push (y ∷ xs) x zero lt = refl
slice_get-push (y ∷ xs) x (suc i) lt = slice_get-push xs x i (omega arith)

pub levels-structure : {N : Type 0} (h : Held N) (name : N) (arguments : List (Cell N)) (ls : Levels) → AreLevels h ls → AreLevels (with_structure h name arguments) ls
levels-structure {N = N} h name arguments ls a = record {
  level = record { arguments = λ s i x got. at s i x (le_or s (length ls.structures.items)) got; values = a.level.values };
  fit = omega (arith, a.fit, length-append h.structures (shape ∷ []));
}
  where
    shape : Shape N
    shape = record { name = name; arguments = arguments }

    at : (s i : ℕ) (x : Cell N) → (length ls.structures.items ≤ s) ⊎ (s < length ls.structures.items) → slice_get (arguments_of (with_structure h name arguments) s) i ≡ Some x →
        LiesAt (level_at ls.variables.items) (level_at ls.structures.items) (level_at ls.structures.items s) x
    at s i x (inl past) got = lies_at_0 _ _ _ x (get_or_past ls.structures.items s 0 past)
    at s i x (inr lt) got =
        let P : List (Cell N) → Type 0 = λ l. slice_get l i ≡ Some x in
        a.level.arguments s i x (subst P (ap shape_arguments (slice_get-push h.structures shape s (omega (arith, a.fit)))) got)

pub levels_build : {N X E : Type 0} (old new : Held N) (name : N) (arguments : List (Cell N)) (P : X → Type 0) (r : Result X E) (ls : Levels) → IfOk r (λ (v : X). P v × (new ≡ with_structure old name arguments)) → OnErr r (new ≡ old) →
    AreLevels old ls → AreLevels new ls
levels_build {N = N} old new name arguments P (Ok v) ls ok err a = let Q : Held N → Type 0 = λ h. AreLevels h ls in subst Q (sym ok.1) (levels-structure old name arguments ls a)
levels_build {N = N} old new name arguments P (Err e) ls ok err a = let Q : Held N → Type 0 = λ h. AreLevels h ls in subst Q (sym err) a

pub levels-binding : {N : Type 0} (h : Held N) (v : ℕ) (x : Cell N) (ls : Levels) → is_bound v h.bindings ≡ false → AreLevels h ls →
    LiesAt (level_at ls.variables.items) (level_at ls.structures.items) (level_at ls.variables.items v) x → AreLevels (with_binding h v x) ls
levels-binding {N = N} h v x ls unbound a lies = record { level = record { arguments = a.level.arguments; values = λ w. at w (cases_eq v w) }; fit = a.fit }
  where
    at : (w : ℕ) → (v ≡ w) ⊎ (v ≡ w → ⊥) → LiesAt (level_at ls.variables.items) (level_at ls.structures.items) (level_at ls.variables.items w) (found w (with_binding h v x).bindings)
    at w (inl e) =
        let L : Cell N → ℕ → Type 0 = λ y n. LiesAt (level_at ls.variables.items) (level_at ls.structures.items) (level_at ls.variables.items n) y in
        let P : ℕ → Type 0 = λ n. L (found n (with_binding h v x).bindings) n in
        let Q : Cell N → Type 0 = λ y. L y v in
        subst P e (subst Q (sym (found-push_same v h.bindings (record { variable = v; value = x }) unbound refl)) lies)
    at w (inr ne) =
        let Q : Cell N → Type 0 = λ y. LiesAt (level_at ls.variables.items) (level_at ls.structures.items) (level_at ls.variables.items w) y in
        subst Q (sym (found-push_other w h.bindings (record { variable = v; value = x }) ne)) (a.level.values w)

pub levels_bind : {N X E : Type 0} (old new : Held N) (v : ℕ) (x : Cell N) (r : Result X E) (ls : Levels) → is_bound v old.bindings ≡ false → AreLevels old ls →
    LiesAt (level_at ls.variables.items) (level_at ls.structures.items) (level_at ls.variables.items v) x → OnOk r (new ≡ with_binding old v x) → OnErr r (new ≡ old) → AreLevels new ls
levels_bind {N = N} old new v x (Ok u) ls unbound a lies ok err = let Q : Held N → Type 0 = λ h. AreLevels h ls in subst Q (sym ok) (levels-binding old v x ls unbound a lies)
levels_bind {N = N} old new v x (Err e) ls unbound a lies ok err = let Q : Held N → Type 0 = λ h. AreLevels h ls in subst Q (sym err) a

-- ---- and so does taking back

pub slice_get-taken : {X : Type 0} (xs ys : List X) (i : ℕ) → take (length xs) ys ≡ xs → i < length xs → slice_get ys i ≡ slice_get xs i
slice_get-taken [] ys i e lt = absurd (omega arith)
slice_get-taken (x ∷ xs) [] i e lt = absurd (cc)
slice_get-taken {X = X} (x ∷ xs) (y ∷ ys) zero e lt = let q : y ≡ x = cc in ap (λ (z : X). Some z) q
slice_get-taken (x ∷ xs) (y ∷ ys) (suc i) e lt = let q : take (length xs) ys ≡ xs = cc in slice_get-taken xs ys i q (omega arith)

found-taken : {N : Type 0} (v : ℕ) (bs cs : List (Binding N)) → take (length bs) cs ≡ bs → is_bound v bs ≡ true → found v cs ≡ found v bs
found-taken v [] cs e b = absurd (false≢true b)
found-taken v (x ∷ bs) [] e b = absurd (cc)
found-taken {N = N} v (x ∷ bs) (y ∷ cs) e b =
    let q : y ≡ x = cc in
    let r : take (length bs) cs ≡ bs = cc in
    ap (λ (z : Binding N). found v (z ∷ cs)) q ∙ first (x.variable == v) x.value (found v cs) (found v bs) (is_bound v bs) b (found-taken v bs cs r)
  where
    first : (p : Bool) (c d g : Cell N) (q : Bool) → (p || q) ≡ true → (q ≡ true → d ≡ g) → (if p then c else d) ≡ (if p then c else g)
    first true c d g q h k = refl
    first false c d g q h k = k h

lies_kept : {N : Type 0} (n m k : ℕ) (vs ss : List ℕ) (x : Cell N) → IsWithin n m x → LiesAt (level_at vs) (level_at ss) k x → LiesAt (level_at (take n vs)) (level_at (take m ss)) k x
lies_kept n m k vs ss (Variable v) inside lies = omega (arith, get_or-take n vs v 0 inside)
lies_kept n m k vs ss (Integer i) inside lies = tt
lies_kept n m k vs ss (Atom a) inside lies = tt
lies_kept n m k vs ss (Structure s) inside lies = omega (arith, get_or-take m ss s 0 inside)

past_kept : (n : ℕ) (vs : List ℕ) (v : ℕ) → n ≤ v → level_at (take n vs) v ≡ 0
past_kept n vs v le = get_or_past (take n vs) v 0 (omega (arith, length-take n vs))

-- the levels of what was there, if the first of the lists are kept
pub levels-taken : {N : Type 0} (h now : Held N) (ls kept : Levels) → IsFormed h → Grown h now → AreLevels now ls →
    kept.variables.items ≡ take h.variables ls.variables.items → kept.structures.items ≡ take (length h.structures) ls.structures.items → AreLevels h kept
levels-taken {N = N} h now ls kept p grown a e1 e2 = record {
  level = record {
    arguments = λ s i x got. lists (λ vs ss. LiesAt (level_at vs) (level_at ss) (level_at ss s) x) (argument s i x got (le_or s (length h.structures)));
    values = λ v. lists (λ vs ss. LiesAt (level_at vs) (level_at ss) (level_at vs v) (found v h.bindings)) (value v (le_or v h.variables) (either (is_bound v h.bindings)));
  };
  fit = omega (arith, ap length e2, length-take (length h.structures) ls.structures.items);
}
  where
    lists : (P : List ℕ → List ℕ → Type 0) → P (take h.variables ls.variables.items) (take (length h.structures) ls.structures.items) → P kept.variables.items kept.structures.items
    lists P q =
        let A : List ℕ → Type 0 = λ l. P l (take (length h.structures) ls.structures.items) in
        let B : List ℕ → Type 0 = λ l. P kept.variables.items l in
        subst B (sym e2) (subst A (sym e1) q)

    argument : (s i : ℕ) (x : Cell N) → slice_get (arguments_of h s) i ≡ Some x → (length h.structures ≤ s) ⊎ (s < length h.structures) →
        LiesAt (level_at (take h.variables ls.variables.items)) (level_at (take (length h.structures) ls.structures.items)) (level_at (take (length h.structures) ls.structures.items) s) x
    argument s i x got (inl past) = lies_at_0 _ _ _ x (past_kept (length h.structures) ls.structures.items s past)
    argument s i x got (inr lt) =
        let P : List (Cell N) → Type 0 = λ l. slice_get l i ≡ Some x in
        let Q : ℕ → Type 0 = λ n. LiesAt (level_at (take h.variables ls.variables.items)) (level_at (take (length h.structures) ls.structures.items)) n x in
        let there = a.level.arguments s i x (subst P (sym (ap shape_arguments (slice_get-taken h.structures now.structures s grown.structures lt))) got) in
        subst Q (sym (get_or-take (length h.structures) ls.structures.items s 0 lt))
        (lies_kept h.variables (length h.structures) (level_at ls.structures.items s) ls.variables.items ls.structures.items x (within_at h (arguments_of h s) i x (arguments_in h s p) got) there)

    value : (v : ℕ) → (h.variables ≤ v) ⊎ (v < h.variables) → (is_bound v h.bindings ≡ false) ⊎ (is_bound v h.bindings ≡ true) →
        LiesAt (level_at (take h.variables ls.variables.items)) (level_at (take (length h.structures) ls.structures.items)) (level_at (take h.variables ls.variables.items) v) (found v h.bindings)
    value v (inl past) b = lies_at_0 _ _ _ (found v h.bindings) (past_kept h.variables ls.variables.items v past)
    value v (inr lt) (inl u) =
        let P : Cell N → Type 0 = λ y. LiesAt (level_at (take h.variables ls.variables.items)) (level_at (take (length h.structures) ls.structures.items)) (level_at (take h.variables ls.variables.items) v) y in
        subst P (sym (found_unbound v h.bindings u)) (omega arith)
    value v (inr lt) (inr b) =
        let P : Cell N → Type 0 = λ y. LiesAt (level_at ls.variables.items) (level_at ls.structures.items) (level_at ls.variables.items v) y in
        let Q : ℕ → Type 0 = λ n. LiesAt (level_at (take h.variables ls.variables.items)) (level_at (take (length h.structures) ls.structures.items)) n (found v h.bindings) in
        subst Q (sym (get_or-take h.variables ls.variables.items v 0 lt))
        (lies_kept h.variables (length h.structures) (level_at ls.variables.items v) ls.variables.items ls.structures.items (found v h.bindings) (found_in h v p lt)
        (subst P (found-taken v h.bindings now.bindings grown.bindings b) (a.level.values v)))

-- a store that holds nothing
pub levels_new : {N : Type 0} (h : Held N) (ls : Levels) → h ≡ nothing_held → length ls.structures.items ≡ 0 → AreLevels h ls
levels_new {N = N} h ls e n =
    let P : Held N → Type 0 = λ k. AreLevels k ls in
    subst P (sym e) (record { level = record { arguments = λ s i x q. absurd (cc); values = λ v. omega arith }; fit = omega arith })

-- a structure is no variable
pub same_variables : {N X E : Type 0} (old new : Held N) (name : N) (arguments : List (Cell N)) (P : X → Type 0) (r : Result X E) → IfOk r (λ (v : X). P v × (new ≡ with_structure old name arguments)) → OnErr r (new ≡ old) → new.variables ≡ old.variables
same_variables {N = N} old new name arguments P (Ok v) ok err = ap (λ (h : Held N). h.variables) ok.1
same_variables {N = N} old new name arguments P (Err e) ok err = ap (λ (h : Held N). h.variables) err
