-- Messages as cells, and at the end of control streams.
use Rattle.std.proofs.Common.{◌≡◌, ℕ, suc, ◌≤◌, true, false, List, [], ◌∷◌, length, take, length-append, refl, sym, ap, ◌∙◌, arith, subst, ℤ}
use Rattle.std.specs.Prelude.{Option, Some, None, pos, slice_get}
use Rattle.std.proofs.lemmas.Bool.{false≢true}
use Rattle.kl1_model.specs.declared.built_in.BuiltIn.{BuiltIn}
use Rattle.kl1_model.specs.declared.built_in.BuiltIn.TheVariants as built_in
use Rattle.kl1_model.specs.declared.message.Message.{Message}
use Rattle.kl1_model.specs.declared.message.Message.TheVariants.{Stop, Start, Abort, Allow}
use Rattle.kl1_model.specs.Text.{text_of}
use Rattle.kl1_model.specs.Term.{variable, integer, atom, structure, none, more, occurs, replace}
use Rattle.kl1_model.specs.Meaning.{cell}
use Rattle.kl1_model.specs.Control.{message_term}
use Rattle.kl1_text.specs.Reading.{Reads}
use Rattle.kl1_store.specs.declared.cell.Cell.{Cell}
use Rattle.kl1_store.specs.declared.cell.Cell.TheVariants.{Variable, Integer, Atom, Structure}
use Rattle.kl1_store.specs.Held.{Shape, Held, IsIn, IsWalked, with_structure, arguments_of, shape_arguments}
use Rattle.kl1_store.specs.Meaning.{term_of, terms_of}
use Rattle.kl1_store.specs.Sound.{IsFormed, Grown}
use Rattle.kl1_store.proofs.Growing.{IsFormed-structure}
use Rattle.kl1_store.proofs.Terms.{term_of-structure, term_of-Structure, term_of-Atom, term_of-Integer, term_of-unbound}
use Rattle.kl1_stream.specs.Sendings.{IsSent, SentAs}
use Rattle.kl1_stream.specs.Messages.{IsMessage, IsPut, IsNoVariable, PutAs}
use Rattle.kl1_stream.proofs.Pairs.{get_after}
use Rattle.kl1_stream.proofs.Tails.{BreaksOff, off_is}

-- a message that is an atom
pub atom_message : {N : Type 0} (built : BuiltIn → N) (h : Held N) (m : Message) (b : BuiltIn) (a : N) → a ≡ built b → message_term m ≡ atom (text_of b) → IsMessage built h h m (Atom a)
atom_message built h m b a e is = record {
  inside = tt;
  variables = refl;
  bindings = refl;
  means = λ f reads. term_of-Atom f h a ∙ ap (λ n. atom (f n)) e ∙ ap atom (reads.texts b) ∙ sym is;
  others = λ f y i. refl;
}

-- what a new structure of one argument means
one_means : {N : Type 0} (f : N → List ℕ) (h : Held N) (name : N) (a : Cell N) → IsFormed h → IsIn h a →
    term_of f (with_structure h name (a ∷ [])) (Structure (length h.structures)) ≡ structure (f name) (more (term_of f h a) none)
unfolding terms_of
one_means {N = N} f h name a p i =
    let parts : List (Cell N) = a ∷ [] in
    let full = with_structure h name parts in
    let shape : Shape N = record { name = name; arguments = parts } in
    let formed : IsFormed full = IsFormed-structure h name parts p (i, tt) in
    let at : slice_get full.structures (length h.structures) ≡ Some shape = get_after h.structures shape in
    let arguments : arguments_of full (length h.structures) ≡ parts = ap shape_arguments at in
    let found : slice_get full.structures (length h.structures) ≡ Some (record { name = name; arguments = arguments_of full (length h.structures) }) =
    at ∙ ap (λ (xs : List (Cell N)). let s : Shape N = record { name = name; arguments = xs } in Some s) (sym arguments) in
    term_of-Structure f full (length h.structures) name formed found
    ∙ ap (λ (xs : List (Cell N)). structure (f name) (terms_of f full xs)) arguments
    ∙ ap (λ t. structure (f name) (more t none)) (term_of-structure f h name parts a p i)

-- a message that adds to an allowance
pub allow_message : {N : Type 0} (built : BuiltIn → N) (h new : Held N) (m : Message) (k s : ℕ) (i : ℤ) (name : N) → IsFormed h → m ≡ Allow k → i ≡ pos k → name ≡ built built_in.Allow →
    (s ≡ length h.structures) × (new ≡ with_structure h name (Integer i ∷ [])) → IsMessage built h new m (Structure s)
allow_message {N = N} built h new m k s i name p is number e b =
    let Q : Held N → ℕ → Type 0 = λ x n. IsMessage built h x m (Structure n) in
    let full = with_structure h name (Integer i ∷ []) in
    let shape : Shape N = record { name = name; arguments = Integer i ∷ [] } in
    let there : IsMessage built h full m (Structure (length h.structures)) = record {
      inside = omega (arith, length-append h.structures (shape ∷ []));
      variables = refl;
      bindings = refl;
      means = λ f reads.
          one_means f h name (Integer i) p tt
          ∙ ap (λ t. structure (f name) (more t none)) (term_of-Integer f h i ∙ ap integer number)
          ∙ ap (λ n. structure n (more (integer (pos k)) none)) (ap f e ∙ reads.texts built_in.Allow)
          ∙ ap message_term (sym is);
      others = λ f y j. term_of-structure f h name (Integer i ∷ []) y p j;
    } in
    let one = subst (λ (x : Held N). Q x (length h.structures)) (sym b.1) there in
    subst (λ n. Q new n) (sym b.0) one

-- a message has no variables
never_in : (v : ℕ) (m : Message) → occurs v (message_term m) ≡ false
never_in v Stop = refl
never_in v Start = refl
never_in v Abort = refl
never_in v (Allow k) = refl

longer : {A : Type 0} (xs ys : List A) → take (length xs) ys ≡ xs → length xs ≤ length ys
longer [] ys e = omega arith
longer (x ∷ xs) [] e = absurd (cc)
longer (x ∷ xs) (y ∷ ys) e = let q : take (length xs) ys ≡ xs = cc in let l = longer xs ys q in omega arith

still_in : {N : Type 0} (h k : Held N) (x : Cell N) → Grown h k → IsIn h x → IsIn k x
still_in h k (Variable v) g i = let l = g.variables in omega arith
still_in h k (Integer n) g i = tt
still_in h k (Atom a) g i = tt
still_in h k (Structure s) g i = let l = longer h.structures k.structures g.structures in omega arith

-- for one reading, a cell of a message that was put there
is_put : {N : Type 0} (f : N → List ℕ) (h mid new : Held N) (v : ℕ) (m : Message) (x : Cell N) (next : ℕ) → Grown h mid → term_of f mid x ≡ message_term m → ((y : Cell N) → IsIn h y → term_of f mid y ≡ term_of f h y) → IsSent f mid new v x next →
    IsPut f h new v m next
is_put f h mid new v m x next g means others s = record {
  tail = s.tail;
  means = λ y i.
      s.means y (still_in h mid y g i)
      ∙ ap (λ t. replace v (cell t (variable next)) (term_of f mid y)) means
      ∙ ap (replace v (cell (message_term m) (variable next))) (others y i);
}

-- a cell that means a message was put where a variable stood
pub put_as : {N : Type 0} (built : BuiltIn → N) (h mid new : Held N) (tail : Cell N) (v : ℕ) (m : Message) (x : Cell N) (o : Option ℕ) → IsWalked h (Variable v) → ((f : N → List ℕ) → term_of f h (Variable v) ≡ term_of f h tail) → Grown h mid →
    IsMessage built h mid m x → SentAs built mid new v x o → PutAs built h new tail m o
put_as built h mid new tail v m x None u e g c s = λ f reads.
    let is : false ≡ true = sym (never_in v m) ∙ ap (occurs v) (sym (c.means f reads)) ∙ s.1 f reads in
    absurd (false≢true is)
put_as built h mid new tail v m x (Some next) u e g c s = record {
  number = v;
  tail_is = λ f. sym (e f) ∙ term_of-unbound f h v u;
  next_is = s.next_is ∙ c.variables;
  variables = s.variables ∙ ap suc c.variables;
  each = λ f reads. is_put f h mid new v m x next g (c.means f reads) (c.others f) (s.each f reads);
}

pub has_no_variable : {N : Type 0} (built : BuiltIn → N) (h : Held N) (tail x : Cell N) → IsFormed h → IsIn h x → BreaksOff x → ((f : N → List ℕ) → term_of f h x ≡ term_of f h tail) →
    (f : N → List ℕ) → Reads built f → (h ≡ h) × IsNoVariable (term_of f h tail)
has_no_variable built h tail x p i b e = λ f reads. (refl, off_is f (λ t. IsNoVariable t) h tail x p i b (e f) (λ n. tt) (λ a. tt) (λ a ts. tt))
