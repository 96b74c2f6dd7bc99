-- What stands at the top of a term, by the cell that it is.
use Rattle.std.proofs.Common.{◌≡◌, ℕ, List, [], ◌∷◌, length, sym, ap, ◌∙◌, subst, arith, ℤ}
use Rattle.std.specs.Prelude.{Some, slice_get}
use Rattle.kl1_model.specs.Term.{variable, integer, atom, structure, none, more}
use Rattle.kl1_store.specs.declared.cell.Cell.{Cell}
use Rattle.kl1_store.specs.declared.cell.Cell.TheVariants.{Variable, Integer, Atom, Structure}
use Rattle.kl1_store.specs.Held.{Held, IsIn, IsWalked, arguments_of}
use Rattle.kl1_store.specs.Meaning.{term_of, terms_of}
use Rattle.kl1_store.specs.Sound.{IsFormed}
use Rattle.kl1_store.proofs.Terms.{term_of-unbound, term_of-Integer, term_of-Atom, term_of-Structure, arguments_in, within_at}
use Rattle.kl1_store.proofs.Meetings.{count_of-terms_of}
use Rattle.kl1_stream.specs.Tops.{IsOther}

pub argument_in : {N : Type 0} (h : Held N) (s i : ℕ) (x : Cell N) → IsFormed h → slice_get (arguments_of h s) i ≡ Some x → IsIn h x
argument_in h s i x p e = within_at h (arguments_of h s) i x (arguments_in h s p) e

-- a cell that was walked to a structure
pub record IsAt {N : Type 0} (h : Held N) (cell : Cell N) (s : ℕ) (name : N) : Type 0 where
  pub formed : IsFormed h
  pub named : slice_get h.structures s ≡ Some (record { name = name; arguments = arguments_of h s })
  pub means : (f : N → List ℕ) → term_of f h (Structure s) ≡ term_of f h cell

pub at_structure : {N : Type 0} (f : N → List ℕ) (h : Held N) (cell : Cell N) (s : ℕ) (name : N) → IsAt h cell s name → term_of f h cell ≡ structure (f name) (terms_of f h (arguments_of h s))
at_structure f h cell s name at = sym (at.means f) ∙ term_of-Structure f h s name at.formed at.named

one_cell : {N : Type 0} (f : N → List ℕ) (h : Held N) (xs : List (Cell N)) (x : Cell N) → length xs ≡ 1 → slice_get xs 0 ≡ Some x → terms_of f h xs ≡ more (term_of f h x) none
unfolding terms_of
one_cell f h [] x e l = absurd (omega arith)
one_cell f h (y ∷ []) x e l =
    let same : y ≡ x = cc in
    ap (λ c. more (term_of f h c) none) same
one_cell f h (y ∷ z ∷ xs) x e l = absurd (omega arith)

two_cells : {N : Type 0} (f : N → List ℕ) (h : Held N) (xs : List (Cell N)) (left right : Cell N) → length xs ≡ 2 → slice_get xs 0 ≡ Some left → slice_get xs 1 ≡ Some right →
    terms_of f h xs ≡ more (term_of f h left) (more (term_of f h right) none)
unfolding terms_of
two_cells f h [] left right e l r = absurd (omega arith)
two_cells f h (x ∷ []) left right e l r = absurd (omega arith)
two_cells f h (x ∷ y ∷ []) left right e l r =
    let first : x ≡ left = cc in
    let second : y ≡ right = cc in
    ap (λ c. more (term_of f h c) (more (term_of f h y) none)) first ∙ ap (λ c. more (term_of f h left) (more (term_of f h c) none)) second
two_cells f h (x ∷ y ∷ z ∷ xs) left right e l r = absurd (omega arith)

three_cells : {N : Type 0} (f : N → List ℕ) (h : Held N) (xs : List (Cell N)) (first second third : Cell N) → length xs ≡ 3 → slice_get xs 0 ≡ Some first → slice_get xs 1 ≡ Some second → slice_get xs 2 ≡ Some third →
    terms_of f h xs ≡ more (term_of f h first) (more (term_of f h second) (more (term_of f h third) none))
unfolding terms_of
three_cells f h [] first second third e l m r = absurd (omega arith)
three_cells f h (x ∷ []) first second third e l m r = absurd (omega arith)
three_cells f h (x ∷ y ∷ []) first second third e l m r = absurd (omega arith)
three_cells f h (x ∷ y ∷ z ∷ []) first second third e l m r =
    let one : x ≡ first = cc in
    let two : y ≡ second = cc in
    let three : z ≡ third = cc in
    ap (λ c. more (term_of f h c) (more (term_of f h y) (more (term_of f h z) none))) one
    ∙ ap (λ c. more (term_of f h first) (more (term_of f h c) (more (term_of f h z) none))) two
    ∙ ap (λ c. more (term_of f h first) (more (term_of f h second) (more (term_of f h c) none))) three
three_cells f h (x ∷ y ∷ z ∷ u ∷ xs) first second third e l m r = absurd (omega arith)

pub has_three : {N : Type 0} (f : N → List ℕ) (h : Held N) (cell x y z : Cell N) (s : ℕ) (name : N) → IsAt h cell s name → length (arguments_of h s) ≡ 3 → slice_get (arguments_of h s) 0 ≡ Some x → slice_get (arguments_of h s) 1 ≡ Some y → slice_get (arguments_of h s) 2 ≡ Some z →
    term_of f h cell ≡ structure (f name) (more (term_of f h x) (more (term_of f h y) (more (term_of f h z) none)))
has_three f h cell x y z s name at n a b c = at_structure f h cell s name at ∙ ap (structure (f name)) (three_cells f h (arguments_of h s) x y z n a b c)

pub has_one : {N : Type 0} (f : N → List ℕ) (h : Held N) (cell x : Cell N) (s : ℕ) (name : N) → IsAt h cell s name → length (arguments_of h s) ≡ 1 → slice_get (arguments_of h s) 0 ≡ Some x →
    term_of f h cell ≡ structure (f name) (more (term_of f h x) none)
has_one f h cell x s name at n e = at_structure f h cell s name at ∙ ap (structure (f name)) (one_cell f h (arguments_of h s) x n e)

pub has_two : {N : Type 0} (f : N → List ℕ) (h : Held N) (cell x y : Cell N) (s : ℕ) (name : N) → IsAt h cell s name → length (arguments_of h s) ≡ 2 → slice_get (arguments_of h s) 0 ≡ Some x → slice_get (arguments_of h s) 1 ≡ Some y →
    term_of f h cell ≡ structure (f name) (more (term_of f h x) (more (term_of f h y) none))
has_two f h cell x y s name at n d e = at_structure f h cell s name at ∙ ap (structure (f name)) (two_cells f h (arguments_of h s) x y n d e)

pub has_other : {N : Type 0} (f : N → List ℕ) (h : Held N) (cell : Cell N) (s : ℕ) (name : N) → IsAt h cell s name → (length (arguments_of h s) ≡ 1 → ⊥) → (length (arguments_of h s) ≡ 2 → ⊥) → IsOther (term_of f h cell)
has_other f h cell s name at one two = record {
  name = f name;
  arguments = terms_of f h (arguments_of h s);
  is = at_structure f h cell s name at;
  not_one = λ c. one (sym (count_of-terms_of f h (arguments_of h s)) ∙ c);
  not_two = λ c. two (sym (count_of-terms_of f h (arguments_of h s)) ∙ c);
}

pub has_variable : {N : Type 0} (f : N → List ℕ) (h : Held N) (cell x : Cell N) (v : ℕ) → x ≡ Variable v → IsWalked h x → term_of f h x ≡ term_of f h cell → term_of f h cell ≡ variable v
has_variable {N = N} f h cell x v e walked means = let W : Cell N → Type 0 = λ c. IsWalked h c in sym means ∙ ap (term_of f h) e ∙ term_of-unbound f h v (subst W e walked)

pub has_integer : {N : Type 0} (f : N → List ℕ) (h : Held N) (cell x : Cell N) (i : ℤ) → x ≡ Integer i → term_of f h x ≡ term_of f h cell → term_of f h cell ≡ integer i
has_integer f h cell x i e means = sym means ∙ ap (term_of f h) e ∙ term_of-Integer f h i

pub has_atom : {N : Type 0} (f : N → List ℕ) (h : Held N) (cell x : Cell N) (a : N) → x ≡ Atom a → term_of f h x ≡ term_of f h cell → term_of f h cell ≡ atom (f a)
has_atom f h cell x a e means = sym means ∙ ap (term_of f h) e ∙ term_of-Atom f h a
