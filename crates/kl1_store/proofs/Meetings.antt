-- What the front equation leads to, for each two kinds of cells.
use Rattle.std.proofs.Common.{◌≡◌, ℕ, zero, suc, ◌<◌, ◌≤◌, ◌==◌, false, ◌&&◌, if◌then◌else◌, List, [], ◌∷◌, length, refl, sym, ap, ◌∙◌, inl, inr, arith, subst, ℤ}
use Rattle.std.specs.Prelude.{Option, Some, slice_get, bytes_eq, nat_lt}
use Rattle.std.specs.Ordering.{int_eq}
use Rattle.std.proofs.lemmas.Slice.Eq.{bytes_eq-Decides}
use Rattle.std.proofs.lemmas.Bool.{ne_eqb, eq-eqb, lt-ltb, le-ltb, cond-true, cond-false, false_from_ne_true, and_left, and_right, and_from}
use Rattle.std.proofs.lemmas.Bool.Decides.{Decides-int_eq}
use Rattle.kl1_model.specs.declared.built_in.BuiltIn.{BuiltIn}
use Rattle.kl1_model.specs.Term.{Term, variable, integer, atom, structure, count_of}
use Rattle.kl1_model.specs.Unify.{Equation, remains, conflicts, eliminates, transformed, argument_equations}
use Rattle.kl1_model.specs.code.Unifying.{bound_to}
use Rattle.kl1_text.specs.Reading.{Reads}
use Rattle.kl1_store.specs.declared.cell.Cell.{Cell}
use Rattle.kl1_store.specs.declared.cell.Cell.TheVariants.{Variable, Integer, Atom, Structure}
use Rattle.kl1_store.specs.declared.meeting.Meeting.TheVariants.{Clash}
use Rattle.kl1_store.specs.Held.{Shape, Held, is_bound, IsIn, IsLower, IsWalked, arguments_of, shape_arguments}
use Rattle.kl1_store.specs.Meaning.{term_of, terms_of}
use Rattle.kl1_store.specs.Sound.{IsFormed}
use Rattle.kl1_store.specs.Value.{IsNoVariable}
use Rattle.kl1_store.specs.Meets.{MeetsAs, Takes, Opens}
use Rattle.kl1_store.proofs.Terms.{term_of-Integer, term_of-Atom, term_of-Structure, term_of-unbound}

-- the kinds of cells and of terms
abbrev pub kind : {N : Type 0} → Cell N → ℕ
kind (Variable v) = 0
kind (Integer i) = 1
kind (Atom a) = 2
kind (Structure s) = 3

abbrev pub term_kind : Term → ℕ
term_kind (variable v) = 0
term_kind (integer i) = 1
term_kind (atom a) = 2
term_kind (structure a ts) = 3

some_shape : {N : Type 0} (ss : List (Shape N)) (s : ℕ) → s < length ss → (shape : Shape N) × (slice_get ss s ≡ Some shape)
some_shape [] s h = absurd (omega arith)
some_shape (x ∷ ss) zero h = (x, refl)
some_shape (x ∷ ss) (suc s) h = some_shape ss s (omega arith)

-- each structure that is there has a name
pub named : {N : Type 0} (h : Held N) (s : ℕ) → s < length h.structures → (name : N) × (slice_get h.structures s ≡ Some (record { name = name; arguments = arguments_of h s }))
named {N = N} h s lt =
    let r = some_shape h.structures s lt in
    let shape : List (Cell N) → Option (Shape N) = λ l. Some (record { name = r.0.name; arguments = l }) in
    (r.0.name, r.1 ∙ ap shape (sym (ap shape_arguments r.1)))

pub kind_kept : {N : Type 0} (f : N → List ℕ) (h : Held N) (x : Cell N) → IsFormed h → IsIn h x → IsNoVariable x → term_kind (term_of f h x) ≡ kind x
kind_kept f h (Variable v) p inside value = absurd value
kind_kept f h (Integer i) p inside value = ap term_kind (term_of-Integer f h i)
kind_kept f h (Atom a) p inside value = ap term_kind (term_of-Atom f h a)
kind_kept f h (Structure s) p inside value = let r = named h s inside in ap term_kind (term_of-Structure f h s r.0 p r.1)

pub no_variable : {N : Type 0} (x : Cell N) → IsNoVariable x → 0 < kind x
no_variable (Variable v) value = absurd value
no_variable (Integer i) value = omega arith
no_variable (Atom a) value = omega arith
no_variable (Structure s) value = omega arith

front-kinds : (t u : Term) (es : List Equation) → 0 < term_kind t → 0 < term_kind u → (term_kind t ≡ term_kind u → ⊥) → transformed t u es ≡ conflicts
front-kinds (variable v) u es p q ne = absurd (omega arith)
front-kinds (integer i) (variable v) es p q ne = absurd (omega arith)
front-kinds (integer i) (integer j) es p q ne = absurd (ne refl)
front-kinds (integer i) (atom a) es p q ne = refl
front-kinds (integer i) (structure a ts) es p q ne = refl
front-kinds (atom b) (variable v) es p q ne = absurd (omega arith)
front-kinds (atom b) (integer j) es p q ne = refl
front-kinds (atom b) (atom a) es p q ne = absurd (ne refl)
front-kinds (atom b) (structure a ts) es p q ne = refl
front-kinds (structure b us) (variable v) es p q ne = absurd (omega arith)
front-kinds (structure b us) (integer j) es p q ne = refl
front-kinds (structure b us) (atom a) es p q ne = refl
front-kinds (structure b us) (structure a ts) es p q ne = absurd (ne refl)

front-left : (v : ℕ) (t : Term) (es : List Equation) → 0 < term_kind t → transformed (variable v) t es ≡ bound_to v t es
front-left v (variable w) es p = absurd (omega arith)
front-left v (integer i) es p = refl
front-left v (atom a) es p = refl
front-left v (structure a ts) es p = refl

front-right : (v : ℕ) (t : Term) (es : List Equation) → 0 < term_kind t → transformed t (variable v) es ≡ bound_to v t es
front-right v (variable w) es p = absurd (omega arith)
front-right v (integer i) es p = refl
front-right v (atom a) es p = refl
front-right v (structure a ts) es p = refl

pub kinds_clash : {N : Type 0} (built : BuiltIn → N) (h : Held N) (l r : Cell N) → IsFormed h → IsIn h l → IsIn h r → IsNoVariable l → IsNoVariable r →
    (kind l ≡ kind r → ⊥) → MeetsAs built h l r Clash
kinds_clash built h l r p il ir vl vr ne = λ f reads es.
    let kl = kind_kept f h l p il vl in
    let kr = kind_kept f h r p ir vr in
    front-kinds (term_of f h l) (term_of f h r) es (omega (arith, no_variable l vl)) (omega (arith, no_variable r vr)) (λ e. ne (sym kl ∙ e ∙ kr))

pub not_integer : {N : Type 0} (i : ℤ) (x : Cell N) → ((j : ℤ) → x ≡ Integer j → ⊥) → kind {N = N} (Integer i) ≡ kind x → ⊥
not_integer i (Variable w) other e = omega (arith, e)
not_integer i (Integer j) other e = other j refl
not_integer i (Atom a) other e = omega (arith, e)
not_integer i (Structure s) other e = omega (arith, e)

pub not_atom : {N : Type 0} (a : N) (x : Cell N) → ((b : N) → x ≡ Atom b → ⊥) → kind (Atom a) ≡ kind x → ⊥
not_atom a (Variable w) other e = omega (arith, e)
not_atom a (Integer j) other e = omega (arith, e)
not_atom a (Atom b) other e = other b refl
not_atom a (Structure s) other e = omega (arith, e)

pub not_structure : {N : Type 0} (n : ℕ) (x : Cell N) → ((s : ℕ) → x ≡ Structure s → ⊥) → kind {N = N} (Structure n) ≡ kind x → ⊥
not_structure n (Variable w) other e = omega (arith, e)
not_structure n (Integer j) other e = omega (arith, e)
not_structure n (Atom a) other e = omega (arith, e)
not_structure n (Structure s) other e = other s refl

lower_than : {N : Type 0} (v : ℕ) (x : Cell N) → IsNoVariable x → IsLower v x
lower_than v (Variable w) value = absurd value
lower_than v (Integer i) value = tt
lower_than v (Atom a) value = tt
lower_than v (Structure s) value = tt

walked_value : {N : Type 0} (h : Held N) (x : Cell N) → IsNoVariable x → IsWalked h x
walked_value h (Variable w) value = absurd value
walked_value h (Integer i) value = tt
walked_value h (Atom a) value = tt
walked_value h (Structure s) value = tt

pub takes_left : {N : Type 0} (h : Held N) (v : ℕ) (r : Cell N) → IsFormed h → suc v ≤ h.variables → is_bound v h.bindings ≡ false → IsIn h r → IsNoVariable r → Takes h (Variable v) r v r
takes_left h v r p inside unbound known value = record {
  can = record { inside = inside; unbound = unbound; known = known; walked = walked_value h r value; lower = lower_than v r value };
  one = λ p q. p;
  sides = inl (refl, refl);
  leads = λ f es.
      ap (λ t. transformed t (term_of f h r) es) (term_of-unbound f h v unbound)
      ∙ front-left v (term_of f h r) es (let k = kind_kept f h r p known value in omega (arith, no_variable r value));
}

pub takes_right : {N : Type 0} (h : Held N) (v : ℕ) (l : Cell N) → IsFormed h → suc v ≤ h.variables → is_bound v h.bindings ≡ false → IsIn h l → IsNoVariable l → Takes h l (Variable v) v l
takes_right h v l p inside unbound known value = record {
  can = record { inside = inside; unbound = unbound; known = known; walked = walked_value h l value; lower = lower_than v l value };
  one = λ p q. q;
  sides = inr (refl, refl);
  leads = λ f es.
      ap (λ t. transformed (term_of f h l) t es) (term_of-unbound f h v unbound)
      ∙ front-right v (term_of f h l) es (let k = kind_kept f h l p known value in omega (arith, no_variable l value));
}

-- of two variables the higher takes the lower
front-lower : (v w : ℕ) (es : List Equation) → v < w → transformed (variable v) (variable w) es ≡ bound_to w (variable v) es
front-lower v w es lt =
    cond-false (v == w) (remains es) (if nat_lt v w then eliminates w (variable v) es else eliminates v (variable w) es) (ne_eqb v w (λ e. omega arith))
    ∙ cond-true (nat_lt v w) (eliminates w (variable v) es) (eliminates v (variable w) es) (lt-ltb v w lt)
    ∙ sym (cond-false (w == v) conflicts (eliminates w (variable v) es) (ne_eqb w v (λ e. omega arith)))

front-higher : (v w : ℕ) (es : List Equation) → w < v → transformed (variable v) (variable w) es ≡ bound_to v (variable w) es
front-higher v w es lt =
    cond-false (v == w) (remains es) (if nat_lt v w then eliminates w (variable v) es else eliminates v (variable w) es) (ne_eqb v w (λ e. omega arith))
    ∙ cond-false (nat_lt v w) (eliminates w (variable v) es) (eliminates v (variable w) es) (le-ltb v w (omega arith))
    ∙ sym (cond-false (v == w) conflicts (eliminates v (variable w) es) (ne_eqb v w (λ e. omega arith)))

both_unbound : {N : Type 0} (f : N → List ℕ) (h : Held N) (v w : ℕ) (es : List Equation) → is_bound v h.bindings ≡ false → is_bound w h.bindings ≡ false →
    transformed (term_of f h (Variable v)) (term_of f h (Variable w)) es ≡ transformed (variable v) (variable w) es
both_unbound f h v w es p q = ap (λ t. transformed t (term_of f h (Variable w)) es) (term_of-unbound f h v p) ∙ ap (λ t. transformed (variable v) t es) (term_of-unbound f h w q)

pub takes_lower : {N : Type 0} (h : Held N) (v w : ℕ) → suc w ≤ h.variables → is_bound v h.bindings ≡ false → is_bound w h.bindings ≡ false → v < w → Takes h (Variable v) (Variable w) w (Variable v)
takes_lower h v w inside p q lt = record {
  can = record { inside = inside; unbound = q; known = omega arith; walked = p; lower = lt };
  one = λ p q. p;
  sides = inr (refl, refl);
  leads = λ f es. both_unbound f h v w es p q ∙ front-lower v w es lt ∙ ap (λ t. bound_to w t es) (sym (term_of-unbound f h v p));
}

pub takes_higher : {N : Type 0} (h : Held N) (v w : ℕ) → suc v ≤ h.variables → is_bound v h.bindings ≡ false → is_bound w h.bindings ≡ false → w < v → Takes h (Variable v) (Variable w) v (Variable w)
takes_higher h v w inside p q lt = record {
  can = record { inside = inside; unbound = p; known = omega arith; walked = q; lower = lt };
  one = λ p q. p;
  sides = inl (refl, refl);
  leads = λ f es. both_unbound f h v w es p q ∙ front-higher v w es lt ∙ ap (λ t. bound_to v t es) (sym (term_of-unbound f h w q));
}

pub integers_clash : {N : Type 0} (built : BuiltIn → N) (h : Held N) (i j : ℤ) → (i ≡ j → ⊥) → MeetsAs built h (Integer i) (Integer j) Clash
integers_clash built h i j ne = λ f reads es.
    ap (λ t. transformed t (term_of f h (Integer j)) es) (term_of-Integer f h i) ∙ ap (λ t. transformed (integer i) t es) (term_of-Integer f h j)
    ∙ cond-false (int_eq i j) (remains es) conflicts (false_from_ne_true (int_eq i j) (λ e. ne ((Decides-int_eq i j).0 e)))

names_differ : {N : Type 0} (built : BuiltIn → N) (f : N → List ℕ) (a b : N) → Reads built f → (a ≡ b → ⊥) → bytes_eq (f a) (f b) ≡ false
names_differ built f a b reads ne = false_from_ne_true (bytes_eq (f a) (f b)) (λ e. ne (reads.once a b ((bytes_eq-Decides (f a) (f b)).0 e)))

pub atoms_clash : {N : Type 0} (built : BuiltIn → N) (h : Held N) (a b : N) → (a ≡ b → ⊥) → MeetsAs built h (Atom a) (Atom b) Clash
atoms_clash built h a b ne = λ f reads es.
    ap (λ t. transformed t (term_of f h (Atom b)) es) (term_of-Atom f h a) ∙ ap (λ t. transformed (atom (f a)) t es) (term_of-Atom f h b)
    ∙ cond-false (bytes_eq (f a) (f b)) (remains es) conflicts (names_differ built f a b reads ne)

pub count_of-terms_of : {N : Type 0} (f : N → List ℕ) (h : Held N) (xs : List (Cell N)) → count_of (terms_of f h xs) ≡ length xs
unfolding terms_of
count_of-terms_of f h [] = refl
count_of-terms_of f h (x ∷ xs) = ap suc (count_of-terms_of f h xs)

-- what is read of two structures
pub record AreRead {N : Type 0} (h : Held N) (s t : ℕ) (a b : N) : Type 0 where
  pub left : slice_get h.structures s ≡ Some (record { name = a; arguments = arguments_of h s })
  pub right : slice_get h.structures t ≡ Some (record { name = b; arguments = arguments_of h t })

front-structures : {N : Type 0} (f : N → List ℕ) (h : Held N) (s t : ℕ) (a b : N) (es : List Equation) → IsFormed h → AreRead h s t a b →
    transformed (term_of f h (Structure s)) (term_of f h (Structure t)) es
    ≡ (if bytes_eq (f a) (f b) && count_of (terms_of f h (arguments_of h s)) == count_of (terms_of f h (arguments_of h t))
    then remains (argument_equations (terms_of f h (arguments_of h s)) (terms_of f h (arguments_of h t)) es) else conflicts)
front-structures f h s t a b es p read =
    ap (λ x. transformed x (term_of f h (Structure t)) es) (term_of-Structure f h s a p read.left)
    ∙ ap (λ x. transformed (structure (f a) (terms_of f h (arguments_of h s))) x es) (term_of-Structure f h t b p read.right)

pub counts_clash : {N : Type 0} (built : BuiltIn → N) (h : Held N) (s t : ℕ) (a b : N) → IsFormed h → AreRead h s t a b →
    (length (arguments_of h s) ≡ length (arguments_of h t) → ⊥) → MeetsAs built h (Structure s) (Structure t) Clash
counts_clash built h s t a b p read ne = λ f reads es.
    front-structures f h s t a b es p read
    ∙ cond-false (bytes_eq (f a) (f b) && count_of (terms_of f h (arguments_of h s)) == count_of (terms_of f h (arguments_of h t)))
    (remains (argument_equations (terms_of f h (arguments_of h s)) (terms_of f h (arguments_of h t)) es)) conflicts
    (and_right (bytes_eq (f a) (f b)) _ (ne_eqb _ _ (λ e. ne (sym (count_of-terms_of f h (arguments_of h s)) ∙ e ∙ count_of-terms_of f h (arguments_of h t)))))

pub names_clash : {N : Type 0} (built : BuiltIn → N) (h : Held N) (s t : ℕ) (a b : N) → IsFormed h → AreRead h s t a b →
    (a ≡ b → ⊥) → MeetsAs built h (Structure s) (Structure t) Clash
names_clash built h s t a b p read ne = λ f reads es.
    front-structures f h s t a b es p read
    ∙ cond-false (bytes_eq (f a) (f b) && count_of (terms_of f h (arguments_of h s)) == count_of (terms_of f h (arguments_of h t)))
    (remains (argument_equations (terms_of f h (arguments_of h s)) (terms_of f h (arguments_of h t)) es)) conflicts
    (and_left _ (count_of (terms_of f h (arguments_of h s)) == count_of (terms_of f h (arguments_of h t))) (names_differ built f a b reads ne))

pub structures_open : {N : Type 0} (h : Held N) (s t n : ℕ) (a b : N) → IsFormed h → AreRead h s t a b → s < length h.structures → t < length h.structures →
    n ≡ length (arguments_of h s) → n ≡ length (arguments_of h t) → a ≡ b → Opens h (Structure s) (Structure t) (record { left = s; right = t; next = 0; count = n })
structures_open {N = N} h s t n a b p read ls lt es et e =
    let P : N → Type 0 = λ m. slice_get h.structures s ≡ Some (record { name = m; arguments = arguments_of h s }) in
    record {
      left = refl;
      right = refl;
      start = refl;
      is = record {
        left = ls;
        right = lt;
        left_count = sym es;
        right_count = sym et;
        next = omega arith;
        name = b;
        left_shape = subst P e read.left;
        right_shape = read.right;
      };
      leads = λ f rest.
          front-structures f h s t a b rest p read
          ∙ cond-true (bytes_eq (f a) (f b) && count_of (terms_of f h (arguments_of h s)) == count_of (terms_of f h (arguments_of h t)))
          (remains (argument_equations (terms_of f h (arguments_of h s)) (terms_of f h (arguments_of h t)) rest)) conflicts
          (and_from (bytes_eq (f a) (f b)) _ ((bytes_eq-Decides (f a) (f b)).1 (ap f e))
          (eq-eqb _ _ (count_of-terms_of f h (arguments_of h s) ∙ sym es ∙ et ∙ sym (count_of-terms_of f h (arguments_of h t)))));
    }

pub takes_left_at : {N : Type 0} (h : Held N) (l r : Cell N) (v : ℕ) → l ≡ Variable v → IsFormed h → IsIn h l → IsWalked h l → IsIn h r → IsNoVariable r → Takes h l r v r
takes_left_at {N = N} h l r v e p inside walked known value =
    let P : Cell N → Type 0 = λ x. Takes h x r v r in
    let I : Cell N → Type 0 = λ x. IsIn h x in
    let W : Cell N → Type 0 = λ x. IsWalked h x in
    subst P (sym e) (takes_left h v r p (subst I e inside) (subst W e walked) known value)

pub takes_right_at : {N : Type 0} (h : Held N) (l r : Cell N) (v : ℕ) → r ≡ Variable v → IsFormed h → IsIn h r → IsWalked h r → IsIn h l → IsNoVariable l → Takes h l r v l
takes_right_at {N = N} h l r v e p inside walked known value =
    let P : Cell N → Type 0 = λ x. Takes h l x v l in
    let I : Cell N → Type 0 = λ x. IsIn h x in
    let W : Cell N → Type 0 = λ x. IsWalked h x in
    subst P (sym e) (takes_right h v l p (subst I e inside) (subst W e walked) known value)
