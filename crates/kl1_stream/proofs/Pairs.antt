-- Structures of two and of three arguments that are built.
use Rattle.std.proofs.Common.{◌≡◌, ℕ, List, [], ◌∷◌, ◌++◌, length, length-append, refl, ap, sym, ◌∙◌, arith, subst}
use Rattle.std.specs.Prelude.{Some, slice_get}
use Rattle.kl1_model.specs.declared.built_in.BuiltIn.{BuiltIn}
use Rattle.kl1_model.specs.declared.built_in.BuiltIn.TheVariants.{Exception}
use Rattle.kl1_model.specs.Text.{text_of}
use Rattle.kl1_model.specs.Term.{atom, structure, none, more}
use Rattle.kl1_store.specs.declared.cell.Cell.{Cell}
use Rattle.kl1_store.specs.declared.cell.Cell.TheVariants.{Atom, Structure}
use Rattle.kl1_store.specs.Held.{Shape, Held, IsIn, AreIn, with_structure, arguments_of, shape_arguments}
use Rattle.kl1_store.specs.Meaning.{term_of, terms_of}
use Rattle.kl1_store.specs.Sound.{IsFormed}
use Rattle.kl1_store.proofs.Growing.{IsFormed-structure}
use Rattle.kl1_store.proofs.Terms.{term_of-structure, term_of-Structure, term_of-Atom}
use Rattle.kl1_stream.specs.Exceptions.{IsException, IsExceptionWith}

pub get_after : {A : Type 0} (xs : List A) (x : A) → slice_get (xs ++ x ∷ []) (length xs) ≡ Some x
get_after [] x = refl
get_after (y ∷ xs) x = get_after xs x

-- a store with one structure of two arguments more
abbrev pub with_pair : {N : Type 0} → Held N → N → Cell N → Cell N → Held N
with_pair h name a b = with_structure h name (a ∷ b ∷ [])

-- what the new structure means
pub pair_means : {N : Type 0} (f : N → List ℕ) (h : Held N) (name : N) (a b : Cell N) → IsFormed h → AreIn h (a ∷ b ∷ []) →
    term_of f (with_pair h name a b) (Structure (length h.structures)) ≡ structure (f name) (more (term_of f h a) (more (term_of f h b) none))
unfolding terms_of
pair_means {N = N} f h name a b p i =
    let full = with_pair h name a b in
    let parts : List (Cell N) = a ∷ b ∷ [] in
    let shape : Shape N = record { name = name; arguments = parts } in
    let formed : IsFormed full = IsFormed-structure h name parts p i in
    let at : slice_get full.structures (length h.structures) ≡ Some shape = get_after h.structures shape in
    let arguments : arguments_of full (length h.structures) ≡ parts = ap shape_arguments at in
    let found : slice_get full.structures (length h.structures) ≡ Some (record { name = name; arguments = arguments_of full (length h.structures) }) =
    at ∙ ap (λ (xs : List (Cell N)). let s : Shape N = record { name = name; arguments = xs } in Some s) (sym arguments) in
    term_of-Structure f full (length h.structures) name formed found
    ∙ ap (λ (xs : List (Cell N)). structure (f name) (terms_of f full xs)) arguments
    ∙ ap (λ t. structure (f name) (more t (more (term_of f full b) none))) (term_of-structure f h name parts a p i.0)
    ∙ ap (λ t. structure (f name) (more (term_of f h a) (more t none))) (term_of-structure f h name parts b p i.1.0)

-- an exception that was built
pub is_exception : {N : Type 0} (built : BuiltIn → N) (h new : Held N) (kind : BuiltIn) (goal : Cell N) (s : ℕ) (name kind_name : N) → IsFormed h → IsIn h goal → name ≡ built Exception → kind_name ≡ built kind →
    (s ≡ length h.structures) × (new ≡ with_pair h name (Atom kind_name) goal) → IsException built h new kind goal (Structure s)
is_exception {N = N} built h new kind goal s name kind_name p i e k b =
    let Q : Held N → ℕ → Type 0 = λ x n. IsException built h x kind goal (Structure n) in
    let full = with_pair h name (Atom kind_name) goal in
    let shape : Shape N = record { name = name; arguments = Atom kind_name ∷ goal ∷ [] } in
    let there : IsException built h full kind goal (Structure (length h.structures)) = record {
      inside = omega (arith, length-append h.structures (shape ∷ []));
      variables = refl;
      bindings = refl;
      means = λ f reads.
          pair_means f h name (Atom kind_name) goal p (tt, (i, tt))
          ∙ ap (λ t. structure (f name) (more t (more (term_of f h goal) none))) (term_of-Atom f h kind_name ∙ ap (λ n. atom (f n)) k ∙ ap atom (reads.texts kind))
          ∙ ap (λ n. structure n (more (atom (text_of kind)) (more (term_of f h goal) none))) (ap f e ∙ reads.texts Exception);
      others = λ f y j. term_of-structure f h name (Atom kind_name ∷ goal ∷ []) y p j;
    } in
    let one = subst (λ (x : Held N). Q x (length h.structures)) (sym b.1) there in
    subst (λ n. Q new n) (sym b.0) one

-- a store with one structure of three arguments more
abbrev pub with_triple : {N : Type 0} → Held N → N → Cell N → Cell N → Cell N → Held N
with_triple h name a b c = with_structure h name (a ∷ b ∷ c ∷ [])

-- what the new structure means
pub triple_means : {N : Type 0} (f : N → List ℕ) (h : Held N) (name : N) (a b c : Cell N) → IsFormed h → AreIn h (a ∷ b ∷ c ∷ []) →
    term_of f (with_triple h name a b c) (Structure (length h.structures)) ≡ structure (f name) (more (term_of f h a) (more (term_of f h b) (more (term_of f h c) none)))
unfolding terms_of
triple_means {N = N} f h name a b c p i =
    let full = with_triple h name a b c in
    let parts : List (Cell N) = a ∷ b ∷ c ∷ [] in
    let shape : Shape N = record { name = name; arguments = parts } in
    let formed : IsFormed full = IsFormed-structure h name parts p i in
    let at : slice_get full.structures (length h.structures) ≡ Some shape = get_after h.structures shape in
    let arguments : arguments_of full (length h.structures) ≡ parts = ap shape_arguments at in
    let found : slice_get full.structures (length h.structures) ≡ Some (record { name = name; arguments = arguments_of full (length h.structures) }) =
    at ∙ ap (λ (xs : List (Cell N)). let s : Shape N = record { name = name; arguments = xs } in Some s) (sym arguments) in
    term_of-Structure f full (length h.structures) name formed found
    ∙ ap (λ (xs : List (Cell N)). structure (f name) (terms_of f full xs)) arguments
    ∙ ap (λ t. structure (f name) (more t (more (term_of f full b) (more (term_of f full c) none)))) (term_of-structure f h name parts a p i.0)
    ∙ ap (λ t. structure (f name) (more (term_of f h a) (more t (more (term_of f full c) none)))) (term_of-structure f h name parts b p i.1.0)
    ∙ ap (λ t. structure (f name) (more (term_of f h a) (more (term_of f h b) (more t none)))) (term_of-structure f h name parts c p i.1.1.0)

-- an exception with what a substitute waits for that was built
pub is_exception_with : {N : Type 0} (built : BuiltIn → N) (h new : Held N) (kind : BuiltIn) (goal awaited : Cell N) (s : ℕ) (name kind_name : N) → IsFormed h → IsIn h goal → IsIn h awaited → name ≡ built Exception → kind_name ≡ built kind →
    (s ≡ length h.structures) × (new ≡ with_triple h name (Atom kind_name) goal awaited) → IsExceptionWith built h new kind goal awaited (Structure s)
is_exception_with {N = N} built h new kind goal awaited s name kind_name p i j e k b =
    let Q : Held N → ℕ → Type 0 = λ x n. IsExceptionWith built h x kind goal awaited (Structure n) in
    let full = with_triple h name (Atom kind_name) goal awaited in
    let shape : Shape N = record { name = name; arguments = Atom kind_name ∷ goal ∷ awaited ∷ [] } in
    let there : IsExceptionWith built h full kind goal awaited (Structure (length h.structures)) = record {
      inside = omega (arith, length-append h.structures (shape ∷ []));
      variables = refl;
      bindings = refl;
      means = λ f reads.
          triple_means f h name (Atom kind_name) goal awaited p (tt, (i, (j, tt)))
          ∙ ap (λ t. structure (f name) (more t (more (term_of f h goal) (more (term_of f h awaited) none)))) (term_of-Atom f h kind_name ∙ ap (λ n. atom (f n)) k ∙ ap atom (reads.texts kind))
          ∙ ap (λ n. structure n (more (atom (text_of kind)) (more (term_of f h goal) (more (term_of f h awaited) none)))) (ap f e ∙ reads.texts Exception);
      others = λ f y l. term_of-structure f h name (Atom kind_name ∷ goal ∷ awaited ∷ []) y p l;
    } in
    let one = subst (λ (x : Held N). Q x (length h.structures)) (sym b.1) there in
    subst (λ n. Q new n) (sym b.0) one
