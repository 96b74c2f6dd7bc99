-- Readings of numbers as names, when a name comes that is new.
use Rattle.kl1_user_effects.proofs.Words.{◌≡◌, ℕ, zero, suc, ◌+◌, ◌<◌, Bool, true, false, if◌then◌else◌, ◌||◌, List, [], ◌∷◌, ◌++◌, length, map, is_some, bytes_eq, refl, sym, ap, ◌∙◌, subst, inl, inr, arith, length-append, unwrap_or, list_any, cases_Bool, false≢true, bytes_eq-Decides, variable, integer, atom, is_built_in, Reads, built_in_of, place_of, CellName, Known, number_in, number_by, option_cases, is_of_language, found_in_language, missed_in_language, Cell, Variable, Integer, Atom, Structure, Held, IsIn, IsLower, is_bound, found, term_of, IsFormed, term_of-Integer, term_of-Atom, term_of-unbound, term_of-Structure, Numbered, IsRead, AreRead, Reading, Fits, built, meaning, false_from_ne_true, named}
use Rattle.std.proofs.Common.{Option, Some, None}
use Rattle.kl1_user_effects.proofs.Swapping.{swap, text_test, swap_first, retold, retold_fits}
use Rattle.kl1_user_effects.proofs.LateFree.{bound_to, in_lower, lower_still}

-- ---- cells that are atoms

-- a cell that a reading reads as an atom of this text is a number, for each reading
pub record IsAtomAt (h : Held CellName) (x : Cell CellName) (f : Reading) (t : List ℕ) : Type 0 where
  pub number : CellName
  pub read : f number ≡ t
  pub means : (g : Reading) → term_of g h x ≡ atom (g number)

pub same_text : (s t : List ℕ) → atom s ≡ atom t → s ≡ t
same_text s t e = cc

no_variable : (v : ℕ) (t : List ℕ) → variable v ≡ atom t → ⊥
no_variable v t e = cc

atom_below : (n : ℕ) (f : Reading) (h : Held CellName) (x : Cell CellName) (t : List ℕ) → IsFormed h → IsIn h x → IsLower n x → term_of f h x ≡ atom t → IsAtomAt h x f t
atom_below zero f h (Variable v) t formed inside low e = absurd (omega (arith, low))
atom_below (suc n) f h (Variable v) t formed inside low e = elim (cases_Bool (is_bound v h.bindings)) [
  | inl bound ↦
      let y = found v h.bindings in
      let b = bound_to h v formed inside bound in
      let is = atom_below n f h y t formed b.inside (lower_still v n y (omega (arith, low)) b.lower) (b.means f ∙ e) in
      record { number = is.number; read = is.read; means = λ g. sym (b.means g) ∙ is.means g }
  | inr free ↦ absurd (no_variable v t (sym (term_of-unbound f h v free) ∙ e))
]
atom_below n f h (Integer i) t formed inside low e = let a : integer i ≡ atom t = sym (term_of-Integer f h i) ∙ e in absurd (cc)
atom_below n f h (Atom k) t formed inside low e = record { number = k; read = same_text (f k) t (sym (term_of-Atom f h k) ∙ e); means = λ g. term_of-Atom g h k }
atom_below n f h (Structure s) t formed inside low e =
    let there = named h s inside in
    let a = sym (term_of-Structure f h s there.0 formed there.1) ∙ e in
    absurd (cc)

-- a cell of a store that is read as an atom is a number
pub atom_at : (f : Reading) (h : Held CellName) (x : Cell CellName) (t : List ℕ) → IsFormed h → IsIn h x → meaning f h x ≡ atom t → IsAtomAt h x f t
atom_at f h x t formed inside e = atom_below h.variables f h x t formed inside (in_lower h x inside) e

-- ---- a text that no name has

-- the texts of names, one after another
abbrev long : List Known → List ℕ
long [] = []
long (k ∷ ks) = k.text ++ long ks

unknown_in : (ks : List Known) (w : List ℕ) → length (long ks) < length w → number_in ks w ≡ None
unknown_in [] w lt = refl
unknown_in (k ∷ ks) w lt =
    let sum : length (k.text ++ long ks) ≡ length k.text + length (long ks) = length-append k.text (long ks) in
    let ne : bytes_eq k.text w ≡ false = false_from_ne_true (bytes_eq k.text w) (λ e. let n : length k.text ≡ length w = ap length ((bytes_eq-Decides k.text w).0 e) in omega (arith, sum, n, lt)) in
    ap (λ b. if b then Some k.number.number else number_in ks w) ne ∙ unknown_in ks w (omega (arith, sum, lt))

-- a text that is longer than each of names, and than another text
abbrev unknown : List Known → List ℕ → List ℕ
unknown ks s = 0 ∷ (s ++ long ks)

unknown_new : (ks : List Known) (s : List ℕ) → number_by ks (unknown ks s) ≡ None
unknown_new ks s = unknown_in ks (unknown ks s) (let n : length (s ++ long ks) ≡ length s + length (long ks) = length-append s (long ks) in omega (arith, n))

unknown_other : (ks : List Known) (s : List ℕ) → unknown ks s ≡ s → ⊥
unknown_other ks s e = let n : length (s ++ long ks) ≡ length s + length (long ks) = length-append s (long ks) in let m : length (unknown ks s) ≡ length s = ap length e in omega (arith, n, m)

-- a reading that reads as another text what a reading reads as this text
abbrev pub otherwise : List Known → List ℕ → Reading → Reading
otherwise ks s f = retold s (unknown ks s) f

-- if the text isn't known, it reads names as well
pub otherwise_fits : (ks : List Known) (s : List ℕ) (f : Reading) → number_by ks s ≡ None → Fits ks f → Fits ks (otherwise ks s f)
otherwise_fits ks s f none fits = retold_fits ks s (unknown ks s) f none (unknown_new ks s) fits

-- and it reads no number as the text that the other reads as it
pub otherwise_other : (ks : List Known) (s : List ℕ) (f : Reading) (c : CellName) → f c ≡ s → otherwise ks s f c ≡ s → ⊥
otherwise_other ks s f c is e = unknown_other ks s (sym (swap_first bytes_eq text_test s (unknown ks s)) ∙ ap (swap bytes_eq s (unknown ks s)) (sym is) ∙ e)

-- ---- names as modules without clauses

pub both_read : (f : Reading) (xs ys : List Numbered) → AreRead f xs → AreRead f ys → AreRead f (xs ++ ys)
both_read f [] ys a b = b
both_read f (x ∷ xs) ys a b = (a.0, both_read f xs ys a.1 b)

pub second_read : (f : Reading) (xs ys : List Numbered) → AreRead f (xs ++ ys) → AreRead f ys
second_read f [] ys a = a
second_read f (x ∷ xs) ys a = second_read f xs ys a.1

-- the number that is first among names for a text
abbrev first_for : List Known → List ℕ → CellName
first_for all t = record { number = unwrap_or (number_in all t) 0 }

-- a module of this name, which has no clauses, with the number of its name
abbrev named_alone : List Known → Known → Numbered
named_alone all k = record {
  content = record { name = k.text; source = []; clauses = [] };
  row = if is_built_in k.text || list_any (bytes_eq k.text) [] then [] else first_for all k.text ∷ [];
  place = (0, 0);
}

-- names as modules
abbrev pub as_modules : List Known → List Numbered
as_modules ks = map (named_alone ks) ks

alone_read : (f : Reading) (all : List Known) (k : Known) → (is_built_in k.text ≡ false → f (first_for all k.text) ≡ k.text) → IsRead f (named_alone all k)
alone_read f all k same = elim (cases_Bool (is_built_in k.text)) [ inl old ↦ simp old | inr new ↦ simp new (ap (λ (t : List ℕ). t ∷ []) (same new)) ]

read_alone : (f : Reading) (all : List Known) (k : Known) → is_built_in k.text ≡ false → IsRead f (named_alone all k) → f (first_for all k.text) ≡ k.text
read_alone f all k new is = let one : f (first_for all k.text) ∷ [] ≡ k.text ∷ [] = simp new at is in cc

number_there : (all : List Known) (t : List ℕ) → is_built_in t ≡ false → is_some (number_in all t) ≡ true → number_by all t ≡ Some (unwrap_or (number_in all t) 0)
unfolding is_of_language
number_there all t new there = elim (option_cases (built_in_of t)) [
  | inl none ↦ rw none (is (number_in all t) there)
  | inr some ↦ absurd (false≢true (sym new ∙ (found_in_language t some.0 some.1).1))
]
  where
    is : (o : Option ℕ) → is_some o ≡ true → o ≡ Some (unwrap_or o 0)
    is None e = absurd (cc)
    is (Some n) e = refl

modules_read : (f : Reading) (all ks : List Known) → Fits all f → ((t : List ℕ) → is_some (number_in ks t) ≡ true → is_some (number_in all t) ≡ true) → AreRead f (map (named_alone all) ks)
modules_read f all [] fits there = tt
modules_read f all (k ∷ ks) fits there =
    let here : is_some (number_in (k ∷ ks) k.text) ≡ true = ap (λ b. is_some (if b then Some k.number.number else number_in ks k.text)) ((bytes_eq-Decides k.text k.text).1 refl) in (
      alone_read f all k (λ new. fits.texts k.text (unwrap_or (number_in all k.text) 0) (number_there all k.text new (there k.text here))),
      modules_read f all ks fits (λ t e. there t (later (bytes_eq k.text t) (number_in ks t) e)),
    )
  where
    later : (b : Bool) (o : Option ℕ) → is_some o ≡ true → is_some (if b then Some k.number.number else o) ≡ true
    later true o e = refl
    later false o e = e

-- a reading that reads names reads them as modules
pub fits_modules : (f : Reading) (ks : List Known) → Fits ks f → AreRead f (as_modules ks)
fits_modules f ks fits = modules_read f ks ks fits (λ t e. e)

read_modules : (f : Reading) (all ks : List Known) (t : List ℕ) → AreRead f (map (named_alone all) ks) → is_built_in t ≡ false → is_some (number_in ks t) ≡ true → f (first_for all t) ≡ t
read_modules f all [] t are new there = absurd (cc)
read_modules f all (k ∷ ks) t are new there = elim (cases_Bool (bytes_eq k.text t)) [
  | inl is ↦
      let same : k.text ≡ t = (bytes_eq-Decides k.text t).0 is in
      subst (λ x. f (first_for all x) ≡ x) same (read_alone f all k (ap is_built_in same ∙ new) are.0)
  | inr is ↦ read_modules f all ks t are.1 new (sym (ap (λ b. is_some (if b then Some k.number.number else number_in ks t)) is) ∙ there)
]

-- a reading that reads names as modules reads them
pub modules_fit : (f : Reading) (ks : List Known) → Reads built f → AreRead f (as_modules ks) → Fits ks f
unfolding is_of_language
modules_fit f ks reads are = record {
  reads = reads;
  texts = λ t n e. elim (option_cases (built_in_of t)) [
    | inl none ↦
        let there : number_in ks t ≡ Some n = rw none at e in
        let c : ℕ → CellName = λ m. record { number = m } in
        ap (λ o. f (c (unwrap_or o 0))) (sym there) ∙ read_modules f ks ks t are (missed_in_language t none) (ap (λ (o : Option ℕ). is_some o) there)
    | inr some ↦
        let place : Some (place_of some.0) ≡ Some n = rw some.1 at e in
        let c : ℕ → CellName = λ m. record { number = m } in
        ap (λ m. f (c m)) (let same : n ≡ place_of some.0 = cc in same) ∙ reads.texts some.0 ∙ (found_in_language t some.0 some.1).0
  ];
}
