-- The tails of report streams.
use Rattle.std.proofs.Common.{◌≡◌, ℕ, zero, suc, ◌<◌, Bool, true, false, ◌||◌, List, [], ◌∷◌, length, refl, sym, ap, ◌∙◌, arith, subst, ℤ}
use Rattle.std.specs.Prelude.{Some, None, slice_get}
use Rattle.kl1_model.specs.declared.built_in.BuiltIn.{BuiltIn}
use Rattle.kl1_model.specs.Term.{Term, variable, integer, atom, structure, occurs}
use Rattle.kl1_store.specs.declared.cell.Cell.{Cell}
use Rattle.kl1_store.specs.declared.cell.Cell.TheVariants.{Variable, Integer, Atom, Structure}
use Rattle.kl1_store.specs.Held.{Shape, Held, IsIn, IsWalked, arguments_of, shape_arguments}
use Rattle.kl1_store.specs.Meaning.{term_of, terms_of}
use Rattle.kl1_store.specs.Sound.{IsFormed}
use Rattle.kl1_store.proofs.Terms.{term_of-unbound, term_of-Structure, term_of-Integer, term_of-Atom}
use Rattle.kl1_stream.specs.Sendings.{AreSent, SentAs, IsEnded}
use Rattle.kl1_stream.specs.Reports.{Breaks, HasBroken, HasSent, EndsAt, ClosedAs}

shape_at : {N : Type 0} (ss : List (Shape N)) (i : ℕ) → i < length ss → (s : Shape N) × (slice_get ss i ≡ Some s)
shape_at [] i lt = absurd (omega arith)
shape_at (s ∷ ss) zero lt = (s, refl)
shape_at (s ∷ ss) (suc i) lt = shape_at ss i (omega arith)

-- a structure means a structure
structure_is : {N : Type 0} (f : N → List ℕ) (h : Held N) (s : ℕ) → IsFormed h → s < length h.structures → (x : Shape N) × (term_of f h (Structure s) ≡ structure (f x.name) (terms_of f h (arguments_of h s)))
structure_is {N = N} f h s p lt =
    let x = shape_at h.structures s lt in
    let e : x.0.arguments ≡ arguments_of h s = sym (ap shape_arguments x.1) in
    (x.0, term_of-Structure f h s x.0.name p (x.1 ∙ ap (λ (xs : List (Cell N)). let z : Shape N = record { name = x.0.name; arguments = xs } in Some z) e))

-- a walked cell that is no variable breaks a stream
abbrev pub BreaksOff : {N : Type 0} → Cell N → Type 0
BreaksOff (Variable v) = ⊥
BreaksOff (Integer i) = Unit {0}
BreaksOff (Atom a) = Unit {0}
BreaksOff (Structure s) = Unit {0}

-- what is true of all terms but variables is true of what such a cell means
pub off_is : {N : Type 0} (f : N → List ℕ) (P : Term → Type 0) (h : Held N) (tail x : Cell N) → IsFormed h → IsIn h x → BreaksOff x → term_of f h x ≡ term_of f h tail →
    ((i : ℤ) → P (integer i)) → ((a : List ℕ) → P (atom a)) → ((a : List ℕ) (ts : _) → P (structure a ts)) → P (term_of f h tail)
off_is f P h tail (Variable v) p i b e ni na ns = absurd b
off_is f P h tail (Integer n) p i b e ni na ns = subst P (sym (term_of-Integer f h n) ∙ e) (ni n)
off_is f P h tail (Atom a) p i b e ni na ns = subst P (sym (term_of-Atom f h a) ∙ e) (na (f a))
off_is f P h tail (Structure s) p i b e ni na ns =
    let x = structure_is f h s p (omega arith) in
    subst P (sym x.1 ∙ e) (ns (f x.0.name) (terms_of f h (arguments_of h s)))

pub has_broken : {N : Type 0} (built : BuiltIn → N) (h : Held N) (tail x m : Cell N) (is_broken is_last : Bool) → is_broken ≡ false → IsFormed h → IsIn h x → BreaksOff x → ((f : N → List ℕ) → term_of f h x ≡ term_of f h tail) → HasBroken built h h tail is_broken is_last m
has_broken built h tail x m is_broken is_last w p i b e = record {
  whole = w;
  same = refl;
  breaks = λ f reads. off_is f (λ t. Breaks is_last t (term_of f h m)) h tail x p i b (e f) (λ n. tt) (λ a. tt) (λ a ts. tt);
}

pub has_cycle : {N : Type 0} (built : BuiltIn → N) (h k : Held N) (tail : Cell N) (v : ℕ) (m : Cell N) (is_broken is_last : Bool) → is_broken ≡ false → IsWalked h (Variable v) → ((f : N → List ℕ) → term_of f h (Variable v) ≡ term_of f h tail) → SentAs built h k v m None →
    HasBroken built h k tail is_broken is_last m
has_cycle built h k tail v m is_broken is_last w u e s = record {
  whole = w;
  same = s.0;
  breaks = λ f reads. let P : Term → Type 0 = λ t. Breaks is_last t (term_of f h m) in subst P (sym (term_of-unbound f h v u) ∙ e f) (ap (λ b. b || is_last) (s.1 f reads));
}

-- if the last report was made, any message breaks a stream
breaks_last : (t m : Term) → Breaks true t m
breaks_last (variable v) m = or_true (occurs v m)
  where
    or_true : (b : Bool) → (b || true) ≡ true
    or_true true = refl
    or_true false = refl
breaks_last (integer i) m = tt
breaks_last (atom a) m = tt
breaks_last (structure f ts) m = tt

pub has_last : {N : Type 0} (built : BuiltIn → N) (h : Held N) (tail m : Cell N) (is_broken is_last : Bool) → is_broken ≡ false → is_last ≡ true → HasBroken built h h tail is_broken is_last m
has_last built h tail m is_broken is_last w last = record {
  whole = w;
  same = refl;
  breaks = λ f reads. let P : Bool → Type 0 = λ b. Breaks b (term_of f h tail) (term_of f h m) in subst P (sym last) (breaks_last (term_of f h tail) (term_of f h m));
}

pub has_sent : {N : Type 0} (built : BuiltIn → N) (h k : Held N) (tail : Cell N) (v next : ℕ) (m : Cell N) (is_broken is_last : Bool) → is_broken ≡ false → is_last ≡ false → IsWalked h (Variable v) → ((f : N → List ℕ) → term_of f h (Variable v) ≡ term_of f h tail) → AreSent built h k v m next →
    HasSent built h k tail is_broken is_last m next
has_sent built h k tail v next m is_broken is_last w more u e s = record { whole = w; more = more; number = v; tail_is = λ f. sym (e f) ∙ term_of-unbound f h v u; sent = s }

pub broken_ends : {N : Type 0} (built : BuiltIn → N) (h : Held N) (tail : Cell N) (is_broken : Bool) → is_broken ≡ true → ClosedAs built h h tail is_broken
broken_ends built h tail is_broken b = record { variables = refl; broken = λ e. refl; whole = λ e. absurd (cc) }

pub has_ended : {N : Type 0} (built : BuiltIn → N) (h k : Held N) (tail : Cell N) (v : ℕ) (is_broken : Bool) → is_broken ≡ false → IsWalked h (Variable v) → ((f : N → List ℕ) → term_of f h (Variable v) ≡ term_of f h tail) → IsEnded built h k v → ClosedAs built h k tail is_broken
has_ended built h k tail v is_broken w u e d = record {
  variables = d.variables;
  broken = λ b. absurd (cc);
  whole = λ w f reads. let P : Term → Type 0 = λ t. EndsAt f h k t in subst P (sym (term_of-unbound f h v u) ∙ e f) (d.each f reads);
}

pub stays_ended : {N : Type 0} (built : BuiltIn → N) (h : Held N) (tail x : Cell N) (is_broken : Bool) → is_broken ≡ false → IsFormed h → IsIn h x → BreaksOff x → ((f : N → List ℕ) → term_of f h x ≡ term_of f h tail) → ClosedAs built h h tail is_broken
stays_ended built h tail x is_broken w p i b e = record {
  variables = refl;
  broken = λ e. refl;
  whole = λ w f reads. off_is f (λ t. EndsAt f h h t) h tail x p i b (e f) (λ n. refl) (λ a. refl) (λ a ts. refl);
}
