-- What stands at the top of terms, by the cells that they are.
use Rattle.std.proofs.Common.{◌≡◌, ℕ, true, List, [], ◌∷◌, length, refl, sym, ap, ◌∙◌, subst, arith}
use Rattle.std.specs.Prelude.{Some, slice_get}
use Rattle.kl1_model.specs.Term.{Term, variable, integer, atom, structure, Terms, none, more, count_of}
use Rattle.kl1_store.specs.declared.cell.Cell.{Cell}
use Rattle.kl1_store.specs.declared.cell.Cell.TheVariants.{Variable, Integer, Atom, Structure}
use Rattle.kl1_store.specs.Held.{Held, IsIn, IsWalked, arguments_of}
use Rattle.kl1_store.specs.Meaning.{term_of, terms_of}
use Rattle.kl1_store.specs.Sound.{IsFormed}
use Rattle.kl1_store.proofs.Terms.{term_of-Structure, arguments_in, within_at}
use Rattle.kl1_store.proofs.Meetings.{count_of-terms_of}
use Rattle.kl1_match.specs.Waiting.{IsUnbound}
use Rattle.kl1_match.proofs.Cells.{at_variable, at_integer, at_atom, at_structure}
use Rattle.kl1_goals_moves.specs.Tops.{is_structure, HasTop}
use Rattle.kl1_goals_moves.specs.Shapes.{two_terms, IsNoGoal, is_other}

pub unbound : {N : Type 0} (h : Held N) (x : Cell N) (v : ℕ) → x ≡ Variable v → IsIn h x → IsWalked h x → IsUnbound h v
unbound {N = N} h x v e inside walked =
    let I : Cell N → Type 0 = λ c. IsIn h c in
    let W : Cell N → Type 0 = λ c. IsWalked h c in
    let below = subst I e inside in
    record { within = omega arith; unbound = subst W e walked }

-- a structure of another number of arguments than two
other_count : (f : List ℕ) (ts : Terms) → (count_of ts ≡ 2 → ⊥) → IsNoGoal (structure f ts) []
other_count f none ne = record { call = refl; built_in = λ rules. refl; awaits = refl; waits_no_more = λ rules. refl }
other_count f (more (variable n) none) ne = record { call = refl; built_in = λ rules. refl; awaits = refl; waits_no_more = λ rules. refl }
other_count f (more (integer i) none) ne = record { call = refl; built_in = λ rules. refl; awaits = refl; waits_no_more = λ rules. refl }
other_count f (more (atom a) none) ne = record { call = refl; built_in = λ rules. refl; awaits = refl; waits_no_more = λ rules. refl }
other_count f (more (structure g us) none) ne = record { call = refl; built_in = λ rules. refl; awaits = refl; waits_no_more = λ rules. refl }
other_count f (more t (more u none)) ne = absurd (ne refl)
other_count f (more (variable n) (more (variable m) (more v ts))) ne = record { call = refl; built_in = λ rules. refl; awaits = refl; waits_no_more = λ rules. refl }
other_count f (more (variable n) (more (integer m) (more v ts))) ne = record { call = refl; built_in = λ rules. refl; awaits = refl; waits_no_more = λ rules. refl }
other_count f (more (variable n) (more (atom m) (more v ts))) ne = record { call = refl; built_in = λ rules. refl; awaits = refl; waits_no_more = λ rules. refl }
other_count f (more (variable n) (more (structure m us) (more v ts))) ne = record { call = refl; built_in = λ rules. refl; awaits = refl; waits_no_more = λ rules. refl }
other_count f (more (integer n) (more (variable m) (more v ts))) ne = record { call = refl; built_in = λ rules. refl; awaits = refl; waits_no_more = λ rules. refl }
other_count f (more (integer n) (more (integer m) (more v ts))) ne = record { call = refl; built_in = λ rules. refl; awaits = refl; waits_no_more = λ rules. refl }
other_count f (more (integer n) (more (atom m) (more v ts))) ne = record { call = refl; built_in = λ rules. refl; awaits = refl; waits_no_more = λ rules. refl }
other_count f (more (integer n) (more (structure m us) (more v ts))) ne = record { call = refl; built_in = λ rules. refl; awaits = refl; waits_no_more = λ rules. refl }
other_count f (more (atom n) (more (variable m) (more v ts))) ne = record { call = refl; built_in = λ rules. refl; awaits = refl; waits_no_more = λ rules. refl }
other_count f (more (atom n) (more (integer m) (more v ts))) ne = record { call = refl; built_in = λ rules. refl; awaits = refl; waits_no_more = λ rules. refl }
other_count f (more (atom n) (more (atom m) (more v ts))) ne = record { call = refl; built_in = λ rules. refl; awaits = refl; waits_no_more = λ rules. refl }
other_count f (more (atom n) (more (structure m us) (more v ts))) ne = record { call = refl; built_in = λ rules. refl; awaits = refl; waits_no_more = λ rules. refl }
other_count f (more (structure n ws) (more (variable m) (more v ts))) ne = record { call = refl; built_in = λ rules. refl; awaits = refl; waits_no_more = λ rules. refl }
other_count f (more (structure n ws) (more (integer m) (more v ts))) ne = record { call = refl; built_in = λ rules. refl; awaits = refl; waits_no_more = λ rules. refl }
other_count f (more (structure n ws) (more (atom m) (more v ts))) ne = record { call = refl; built_in = λ rules. refl; awaits = refl; waits_no_more = λ rules. refl }
other_count f (more (structure n ws) (more (structure m us) (more v ts))) ne = record { call = refl; built_in = λ rules. refl; awaits = refl; waits_no_more = λ rules. refl }

other_arguments : (f : List ℕ) (ts : Terms) → (count_of ts ≡ 2 → ⊥) → is_other (structure f ts) ≡ true
other_arguments f none ne = refl
other_arguments f (more t none) ne = refl
other_arguments f (more t (more u none)) ne = absurd (ne refl)
other_arguments f (more t (more u (more v ts))) ne = refl

-- what is an integer or a structure of another number of arguments than two is no goal
pub other_goal : (t : Term) → is_other t ≡ true → IsNoGoal t []
other_goal (variable v) e = absurd (cc)
other_goal (integer i) e = record { call = refl; built_in = λ rules. refl; awaits = refl; waits_no_more = λ rules. refl }
other_goal (atom a) e = absurd (cc)
other_goal (structure f none) e = other_count f none (λ k. absurd (cc))
other_goal (structure f (more t none)) e = other_count f (more t none) (λ k. absurd (omega (arith, k)))
other_goal (structure f (more t (more u none))) e = absurd (cc)
other_goal (structure f (more t (more u (more v ts)))) e = other_count f (more t (more u (more v ts))) (λ k. absurd (omega (arith, k)))

pub other_structure : {N : Type 0} (f : N → List ℕ) (h : Held N) (goal x : Cell N) (s : ℕ) (name : N) → IsFormed h → x ≡ Structure s → slice_get h.structures s ≡ Some (record { name = name; arguments = arguments_of h s }) →
    term_of f h x ≡ term_of f h goal → (length (arguments_of h s) ≡ 2 → ⊥) → is_other (term_of f h goal) ≡ true
other_structure f h goal x s name p e at means ne =
    let ts = terms_of f h (arguments_of h s) in
    ap is_other (sym means ∙ ap (term_of f h) e ∙ term_of-Structure f h s name p at)
    ∙ other_arguments (f name) ts (λ c. ne (sym (count_of-terms_of f h (arguments_of h s)) ∙ c))

two_cells : {N : Type 0} (f : N → List ℕ) (h : Held N) (xs : List (Cell N)) (left right : Cell N) → length xs ≡ 2 → slice_get xs 0 ≡ Some left → slice_get xs 1 ≡ Some right →
    terms_of f h xs ≡ more (term_of f h left) (more (term_of f h right) none)
unfolding terms_of
two_cells f h [] left right e l r = absurd (omega arith)
two_cells f h (x ∷ []) left right e l r = absurd (omega arith)
two_cells f h (x ∷ y ∷ []) left right e l r =
    let first : x ≡ left = cc in
    let second : y ≡ right = cc in
    ap (λ c. more (term_of f h c) (more (term_of f h y) none)) first ∙ ap (λ c. more (term_of f h left) (more (term_of f h c) none)) second
two_cells f h (x ∷ y ∷ z ∷ xs) left right e l r = absurd (omega arith)

pub two_arguments : {N : Type 0} (f : N → List ℕ) (h : Held N) (goal x left right : Cell N) (s : ℕ) (name : N) → IsFormed h → x ≡ Structure s → slice_get h.structures s ≡ Some (record { name = name; arguments = arguments_of h s }) →
    term_of f h x ≡ term_of f h goal → length (arguments_of h s) ≡ 2 → slice_get (arguments_of h s) 0 ≡ Some left → slice_get (arguments_of h s) 1 ≡ Some right → term_of f h goal ≡ two_terms f h name left right
two_arguments f h goal x left right s name p e at means two l r =
    sym means ∙ ap (term_of f h) e ∙ term_of-Structure f h s name p at ∙ ap (structure (f name)) (two_cells f h (arguments_of h s) left right two l r)

pub argument_in : {N : Type 0} (h : Held N) (s i : ℕ) (x : Cell N) → IsFormed h → slice_get (arguments_of h s) i ≡ Some x → IsIn h x
argument_in h s i x p e = within_at h (arguments_of h s) i x (arguments_in h s p) e

-- a walked cell stands for what is at the top of its term
pub walked_top : {N : Type 0} (f : N → List ℕ) (h : Held N) (x y : Cell N) → IsFormed h → IsIn h x → IsWalked h x → term_of f h x ≡ term_of f h y → HasTop f (term_of f h y) x
walked_top f h (Variable v) y p inside walked means = sym means ∙ at_variable f h (Variable v) v refl walked
walked_top f h (Integer i) y p inside walked means = sym means ∙ at_integer f h (Integer i) i refl
walked_top f h (Atom a) y p inside walked means = sym means ∙ at_atom f h (Atom a) a refl
walked_top f h (Structure s) y p inside walked means = ap is_structure (sym means ∙ (at_structure f h (Structure s) s p refl inside).is)
