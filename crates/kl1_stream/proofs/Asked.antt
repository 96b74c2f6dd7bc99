-- What a report says of the exception that a substitute waits by.
use Rattle.std.proofs.Common.{◌≡◌, ℕ, ◌<◌, zero, suc, false, true, Bool, if◌then◌else◌, List, [], ◌∷◌, length, drop, ℤ, refl, sym, ap, ◌∙◌, subst, arith}
use Rattle.std.specs.Prelude.{bytes_eq, codes, Option, Some, None, slice_get, MatchOption, option_and_then, option_map}
use Rattle.kl1_model.specs.Term.{Term, variable, integer, atom, structure, Terms, none, more, count_of}
use Rattle.kl1_model.specs.Meaning as meaning
use Rattle.kl1_model.specs.Asking.{elements_of}
use Rattle.kl1_model.specs.Answering.{asked}
use Rattle.kl1_model.specs.Telling.{Asked}
use Rattle.kl1_store.specs.declared.cell.Cell.{Cell}
use Rattle.kl1_store.specs.declared.cell.Cell.TheVariants.{Variable, Integer, Atom, Structure}
use Rattle.kl1_store.specs.Held.{Shape, Held, IsIn, IsWalked, arguments_of, shape_arguments}
use Rattle.kl1_store.specs.Meaning.{term_of, terms_of}
use Rattle.kl1_store.specs.Sound.{IsFormed}
use Rattle.kl1_store.specs.Value.{IsNoVariable}
use Rattle.kl1_store.proofs.Terms.{term_of-unbound, term_of-Integer, term_of-Atom, term_of-Structure}
use Rattle.kl1_store.proofs.Meetings.{count_of-terms_of}
use Rattle.kl1_stream.specs.Askings.{asked_in, IsAskingIn}
use Rattle.kl1_stream.proofs.Shapes.{IsAt, at_structure, argument_in}

pub without_three : (f : List ℕ) (ts : Terms) → (count_of ts ≡ 3 → ⊥) → asked (structure f ts) ≡ None
without_three f none h = refl
without_three f (more a none) h = refl
without_three f (more a (more b none)) h = refl
without_three f (more a (more b (more c none))) h = absurd (h refl)
without_three f (more a (more b (more (variable v) (more d ts)))) h = refl
without_three f (more a (more b (more (integer i) (more d ts)))) h = refl
without_three f (more a (more b (more (atom n) (more d ts)))) h = refl
without_three f (more a (more b (more (structure n us) (more d ts)))) h = refl

if_known : (c b : Bool) (a : Asked) → c ≡ b → (if c then Some a else None) ≡ (if b then Some a else None)
if_known c b a e = ap (λ x. if x then Some a else None) e

-- the exception of a goal and a variable
abbrev pub asking : Term → ℕ → Asked
asking goal v = record { goal = goal; new = v }

-- a report of another name
pub other_name : (f : List ℕ) (a b c : Term) → bytes_eq f (codes "exception") ≡ false → asked (structure f (more a (more b (more c none)))) ≡ None
other_name f a b (variable v) e = if_known (bytes_eq f (codes "exception")) false (asking b v) e
other_name f a b (integer i) e = refl
other_name f a b (atom n) e = refl
other_name f a b (structure n ts) e = refl

-- an exception with a variable
pub with_variable : (f : List ℕ) (a b : Term) (v : ℕ) → bytes_eq f (codes "exception") ≡ true → asked (structure f (more a (more b (more (variable v) none)))) ≡ Some (asking b v)
with_variable f a b v e = if_known (bytes_eq f (codes "exception")) true (asking b v) e

-- an exception with something else
pub with_integer : (f : List ℕ) (a b : Term) (i : ℤ) → asked (structure f (more a (more b (more (integer i) none)))) ≡ None
with_integer f a b i = refl

pub with_atom : (f : List ℕ) (a b : Term) (n : List ℕ) → asked (structure f (more a (more b (more (atom n) none)))) ≡ None
with_atom f a b n = refl

pub with_structure : (f : List ℕ) (a b : Term) (n : List ℕ) (ts : Terms) → asked (structure f (more a (more b (more (structure n ts) none)))) ≡ None
with_structure f a b n ts = refl

-- an element by its number is the first of what is left
pub first_left : (xs : List Term) (k : ℕ) → slice_get (drop k xs) 0 ≡ slice_get xs k
first_left [] zero = refl
first_left [] (suc k) = refl
first_left (x ∷ xs) zero = refl
first_left (x ∷ xs) (suc k) = first_left xs k

-- a structure of another name
other_named : (f : List ℕ) (ts : Terms) → bytes_eq f (codes "exception") ≡ false → asked (structure f ts) ≡ None
other_named f none e = refl
other_named f (more a none) e = refl
other_named f (more a (more b none)) e = refl
other_named f (more a (more b (more c none))) e = other_name f a b c e
other_named f (more a (more b (more (variable v) (more d ts)))) e = refl
other_named f (more a (more b (more (integer i) (more d ts)))) e = refl
other_named f (more a (more b (more (atom n) (more d ts)))) e = refl
other_named f (more a (more b (more (structure n us) (more d ts)))) e = refl

-- ---- by cells

-- a cell that doesn't stand for a structure
pub no_structure : {N : Type 0} (f : N → List ℕ) (h : Held N) (cell x : Cell N) → IsWalked h x → term_of f h x ≡ term_of f h cell → ((s : ℕ) → x ≡ Structure s → ⊥) → asked (term_of f h cell) ≡ None
no_structure f h cell (Variable v) walked means other = ap asked (sym means ∙ term_of-unbound f h v walked)
no_structure f h cell (Integer i) walked means other = ap asked (sym means ∙ term_of-Integer f h i)
no_structure f h cell (Atom a) walked means other = ap asked (sym means ∙ term_of-Atom f h a)
no_structure f h cell (Structure s) walked means other = absurd (other s refl)

-- a cell that stands for a structure of fewer or more arguments
pub no_three : {N : Type 0} (f : N → List ℕ) (h : Held N) (cell : Cell N) (s : ℕ) (name : N) → IsAt h cell s name → (length (arguments_of h s) ≡ 3 → ⊥) → asked (term_of f h cell) ≡ None
no_three f h cell s name at ne =
    ap asked (at_structure f h cell s name at) ∙ without_three (f name) (terms_of f h (arguments_of h s)) (λ e. ne (sym (count_of-terms_of f h (arguments_of h s)) ∙ e))

-- a cell that stands for a structure of another name
pub no_exception : {N : Type 0} (f : N → List ℕ) (h : Held N) (cell : Cell N) (s : ℕ) (name : N) → IsAt h cell s name → bytes_eq (f name) (codes "exception") ≡ false → asked (term_of f h cell) ≡ None
no_exception f h cell s name at e = ap asked (at_structure f h cell s name at) ∙ other_named (f name) (terms_of f h (arguments_of h s)) e

-- an element that is there
record IsThere {A : Type 0} (xs : List A) (i : ℕ) : Type 0 where
  value : A
  at : slice_get xs i ≡ Some value

there : {A : Type 0} (xs : List A) (i : ℕ) → i < length xs → IsThere xs i
there [] i lt = absurd (omega arith)
there (x ∷ xs) zero lt = record { value = x; at = refl }
there (x ∷ xs) (suc i) lt = let r = there xs i (omega arith) in record { value = r.value; at = r.at }

means_structure : {N : Type 0} (f : N → List ℕ) (h : Held N) (s : ℕ) (shape : Shape N) → IsFormed h → slice_get h.structures s ≡ Some shape → term_of f h (Structure s) ≡ structure (f shape.name) (terms_of f h (arguments_of h s))
means_structure {N = N} f h s shape p at =
    let arguments : arguments_of h s ≡ shape.arguments = ap shape_arguments at in
    let found : slice_get h.structures s ≡ Some (record { name = shape.name; arguments = arguments_of h s }) =
    at ∙ ap (λ (xs : List (Cell N)). let x : Shape N = record { name = shape.name; arguments = xs } in Some x) (sym arguments) in
    term_of-Structure f h s shape.name p found

-- an exception whose third argument stands for this cell
with_cell : {N : Type 0} (f : N → List ℕ) (h : Held N) (g : List ℕ) (a b : Term) (x : Cell N) (found : Option ℕ) → IsFormed h → IsIn h x → IsWalked h x → MatchOption found (IsNoVariable x) (λ v. x ≡ Variable v) → bytes_eq g (codes "exception") ≡ true →
    asked (structure g (more a (more b (more (term_of f h x) none)))) ≡ option_map (asking b) found
with_cell f h g a b (Variable v) None p i w m e = absurd m
with_cell f h g a b (Variable v) (Some u) p i w m e =
    let same : v ≡ u = cc in
    ap (λ t. asked (structure g (more a (more b (more t none))))) (term_of-unbound f h v w) ∙ with_variable g a b v e ∙ ap (λ (n : ℕ). Some (asking b n)) same
with_cell f h g a b (Integer n) None p i w m e = ap (λ t. asked (structure g (more a (more b (more t none))))) (term_of-Integer f h n)
with_cell f h g a b (Integer n) (Some u) p i w m e = absurd (cc)
with_cell f h g a b (Atom n) None p i w m e = ap (λ t. asked (structure g (more a (more b (more t none))))) (term_of-Atom f h n)
with_cell f h g a b (Atom n) (Some u) p i w m e = absurd (cc)
with_cell f h g a b (Structure s) None p i w m e =
    let r = there h.structures s (omega arith) in
    ap (λ t. asked (structure g (more a (more b (more t none))))) (means_structure f h s r.value p r.at)
with_cell f h g a b (Structure s) (Some u) p i w m e = absurd (cc)

-- an exception with these arguments
with_cells : {N : Type 0} (f : N → List ℕ) (h : Held N) (g : List ℕ) (xs : List (Cell N)) (second third x : Cell N) (found : Option ℕ) → length xs ≡ 3 → slice_get xs 1 ≡ Some second → slice_get xs 2 ≡ Some third → term_of f h x ≡ term_of f h third →
    IsFormed h → IsIn h x → IsWalked h x → MatchOption found (IsNoVariable x) (λ v. x ≡ Variable v) → bytes_eq g (codes "exception") ≡ true → asked (structure g (terms_of f h xs)) ≡ option_map (asking (term_of f h second)) found
unfolding terms_of
with_cells f h g [] second third x found n mid at means p i w m e = absurd (omega arith)
with_cells f h g (a ∷ []) second third x found n mid at means p i w m e = absurd (omega arith)
with_cells f h g (a ∷ b ∷ []) second third x found n mid at means p i w m e = absurd (omega arith)
with_cells f h g (a ∷ b ∷ c ∷ []) second third x found n mid at means p i w m e =
    let goal : b ≡ second = cc in
    let same : c ≡ third = cc in
    ap (λ t. asked (structure g (more (term_of f h a) (more (term_of f h b) (more t none))))) (ap (term_of f h) same ∙ sym means)
    ∙ with_cell f h g (term_of f h a) (term_of f h b) x found p i w m e
    ∙ ap (λ y. option_map (asking (term_of f h y)) found) goal
with_cells f h g (a ∷ b ∷ c ∷ d ∷ xs) second third x found n mid at means p i w m e = absurd (omega arith)

-- the goal of an exception, and what its third argument was walked to
pub record IsThird {N : Type 0} (h : Held N) (s : ℕ) (second x : Cell N) (found : Option ℕ) : Type 0 where
  pub mid : slice_get (arguments_of h s) 1 ≡ Some second
  pub third : Cell N
  pub at : slice_get (arguments_of h s) 2 ≡ Some third
  pub means : (f : N → List ℕ) → term_of f h x ≡ term_of f h third
  pub inside : IsIn h x
  pub walked : IsWalked h x
  pub found_is : MatchOption found (IsNoVariable x) (λ v. x ≡ Variable v)

-- a cell that stands for an exception of three arguments
pub with_third : {N : Type 0} (f : N → List ℕ) (h : Held N) (cell second x : Cell N) (s : ℕ) (name : N) (found : Option ℕ) → IsAt h cell s name → length (arguments_of h s) ≡ 3 → IsThird h s second x found → bytes_eq (f name) (codes "exception") ≡ true →
    asked (term_of f h cell) ≡ option_map (asking (term_of f h second)) found
with_third f h cell second x s name found at n t e =
    ap asked (at_structure f h cell s name at) ∙ with_cells f h (f name) (arguments_of h s) second t.third x found n t.mid t.at (t.means f) at.formed t.inside t.walked t.found_is e

-- an argument that is there, for one whose cell isn't read
pub some_second : {N : Type 0} (h : Held N) (s : ℕ) → length (arguments_of h s) ≡ 3 → (y : Cell N) × (slice_get (arguments_of h s) 1 ≡ Some y)
some_second h s n = let r = there (arguments_of h s) 1 (omega arith) in (r.value, r.at)

-- the goal of such an exception is of the store, and its variable is unbound there
pub asking_in : {N : Type 0} (h : Held N) (s : ℕ) (second x : Cell N) (v : ℕ) → IsFormed h → slice_get (arguments_of h s) 1 ≡ Some second → IsIn h x → IsWalked h x → x ≡ Variable v → IsAskingIn h (record { goal = second; new = v })
asking_in {N = N} h s second x v p at inside walked is = record {
  goal = argument_in h s 1 second p at;
  new = record { within = subst (λ (y : Cell N). IsIn h y) is inside; unbound = subst (λ (y : Cell N). IsWalked h y) is walked };
}

-- ---- on a stream

-- a stream that ends before a report
pub none_there : (t rest : Term) (place : ℕ) → elements_of rest ≡ drop place (elements_of t) → elements_of rest ≡ [] → asked_in t place ≡ None
none_there t rest place left ends = ap (option_and_then asked) (sym (first_left (elements_of t) place) ∙ ap (λ xs. slice_get xs 0) (sym left ∙ ends))

-- a stream that has a report
pub one_there : (t rest element after : Term) (place : ℕ) (found : Option Asked) → elements_of rest ≡ drop place (elements_of t) → rest ≡ meaning.cell element after → asked element ≡ found → asked_in t place ≡ found
one_there t rest element after place found left is own =
    ap (option_and_then asked) (sym (first_left (elements_of t) place) ∙ ap (λ xs. slice_get xs 0) (sym left ∙ ap elements_of is)) ∙ own
