-- Patterns of each kind beside a cell, by the cell that it stands for.
use Rattle.std.proofs.Common.{◌≡◌, ℕ, List, [], ◌∷◌, ◌++◌, map, refl, sym, ap, ◌∙◌, subst, ℤ, inl, inr}
use Rattle.kl1_model.specs.declared.built_in.BuiltIn.{BuiltIn}
use Rattle.kl1_model.specs.Term.{Term, integer, atom, structure}
use Rattle.kl1_model.specs.Answer.{Answer, no, wait}
use Rattle.kl1_model.specs.Match.{with_answer, match_pattern}
use Rattle.kl1_text.specs.Reading.{Reads}
use Rattle.kl1_store.specs.declared.cell.Cell.{Cell}
use Rattle.kl1_store.specs.Held.{Held, IsIn, IsWalked}
use Rattle.kl1_store.specs.Meaning.{term_of}
use Rattle.kl1_clause.specs.declared.name.Name.{Name}
use Rattle.kl1_clause.specs.declared.instruction.Instruction.TheVariants.{Variable, Integer, Atom, Structure}
use Rattle.kl1_clause.specs.Instructions.{text_in}
use Rattle.kl1_match.specs.declared.place.Place.{Place}
use Rattle.kl1_match.specs.declared.met.Met.{Met}
use Rattle.kl1_match.specs.declared.met.Met.TheVariants.{Agrees, Waits, Clashes}
use Rattle.kl1_match.specs.Instances.{AreThere}
use Rattle.kl1_match.specs.Matching.{WaitsAt, MetUnbound, IntegerMeets, AtomMeets, StructureMeets, MeetsAs, Decides, Stays, Begins, IsOpened}
use Rattle.kl1_match.proofs.Cells.{takes_place, is_integer, is_atom, agrees_alone, agrees_inside, stays_outside, AreThere-push}

pub variable_meets : {N : Type 0} (built : BuiltIn → N) (h : Held N) (names : List N) (v : ℕ) (x : Cell N) (cells : List (Cell N)) (places longer : List (Place N)) → IsIn h x → AreThere h places →
    longer ≡ places ++ record { variable = v; cell = x } ∷ [] → MeetsAs built h names (Variable v) x cells cells places longer Agrees
variable_meets {N = N} built h names v x cells places longer inside pi e =
    let P : List (Place N) → Type 0 = λ l. AreThere h l in
    record {
      places_in = subst P (sym e) (AreThere-push h places (record { variable = v; cell = x }) pi inside);
      goes_into = λ f reads p b. takes_place f h v x p cells places longer b e;
    }

pub integer_meets : {N : Type 0} (built : BuiltIn → N) (h : Held N) (names : List N) (i : ℤ) (x y : Cell N) (cells : List (Cell N)) (places : List (Place N)) (met : Met) → AreThere h places →
    ((f : N → List ℕ) → term_of f h y ≡ term_of f h x) → IntegerMeets built h i y met → MeetsAs built h names (Integer i) x cells cells places places met
integer_meets built h names i x y cells places Agrees pi means m = record {
  places_in = pi;
  goes_into = λ f reads p b. agrees_alone f h (inl (inr i)) p (integer i) (term_of f h x) cells places (is_integer i p b) refl (ap (match_pattern (integer i)) (sym (means f)) ∙ m f);
}
integer_meets built h names i x y cells places (Waits v) pi means m = record {
  cells_are = refl;
  places_are = refl;
  matched = λ f reads p b. ap (λ q. match_pattern q (term_of f h x)) (is_integer i p b) ∙ ap (match_pattern (integer i)) (sym (means f)) ∙ m f;
}
integer_meets built h names i x y cells places Clashes pi means m = record {
  cells_are = refl;
  places_are = refl;
  matched = λ f reads p b. ap (λ q. match_pattern q (term_of f h x)) (is_integer i p b) ∙ ap (match_pattern (integer i)) (sym (means f)) ∙ m f;
}

-- what an atom of a row comes to, by the account's name for it
atom_matched : {N : Type 0} (f : N → List ℕ) (h : Held N) (text : List ℕ) (name : N) (x y : Cell N) (p : Term) (outcome : Answer) → f name ≡ text → Begins (inr (inl text)) p →
    term_of f h y ≡ term_of f h x → match_pattern (atom (f name)) (term_of f h y) ≡ with_answer outcome → match_pattern p (term_of f h x) ≡ with_answer outcome
atom_matched f h text name x y p outcome named b means m =
    ap (λ q. match_pattern q (term_of f h x)) (is_atom text p b ∙ ap (λ l. atom l) (sym named)) ∙ ap (match_pattern (atom (f name))) (sym means) ∙ m

pub atom_meets : {N : Type 0} (built : BuiltIn → N) (h : Held N) (names : List N) (a : Name) (name : N) (x y : Cell N) (cells : List (Cell N)) (places : List (Place N)) (met : Met) → AreThere h places →
    ((f : N → List ℕ) → Reads built f → f name ≡ text_in (map f names) a) → ((f : N → List ℕ) → term_of f h y ≡ term_of f h x) → AtomMeets built h name y met → MeetsAs built h names (Atom a) x cells cells places places met
atom_meets built h names a name x y cells places Agrees pi named means m = record {
  places_in = pi;
  goes_into = λ f reads p b.
      let text = text_in (map f names) a in
      agrees_alone f h (inr (inl text)) p (atom text) (term_of f h x) cells places (is_atom text p b) refl
      (ap (λ l. match_pattern (atom l) (term_of f h x)) (sym (named f reads)) ∙ ap (match_pattern (atom (f name))) (sym (means f)) ∙ m f reads);
}
atom_meets built h names a name x y cells places (Waits v) pi named means m = record {
  cells_are = refl;
  places_are = refl;
  matched = λ f reads p b. atom_matched f h (text_in (map f names) a) name x y p (wait (v ∷ [])) (named f reads) b (means f) (m f reads);
}
atom_meets built h names a name x y cells places Clashes pi named means m = record {
  cells_are = refl;
  places_are = refl;
  matched = λ f reads p b. atom_matched f h (text_in (map f names) a) name x y p no (named f reads) b (means f) (m f reads);
}

opened_at : {N : Type 0} (f : N → List ℕ) (h : Held N) (name : N) (n : ℕ) (t u : Term) (cells now : List (Cell N)) → t ≡ u → IsOpened f h name n t cells now → IsOpened f h name n u cells now
opened_at {N = N} f h name n t u cells now e o = let P : Term → Type 0 = λ k. IsOpened f h name n k cells now in subst P e o

outside_at : {N : Type 0} (built : BuiltIn → N) (h : Held N) (names : List N) (a : Name) (n : ℕ) (name : N) (x y : Cell N) (cells now : List (Cell N)) (places : List (Place N)) (outcome : Answer) →
    ((f : N → List ℕ) → Reads built f → f name ≡ text_in (map f names) a) → ((f : N → List ℕ) → term_of f h y ≡ term_of f h x) → Stays built h name n y cells now outcome →
    Decides built h names (Structure a n) x cells now places places outcome
outside_at built h names a n name x y cells now places outcome named means s = record {
  cells_are = s.cells_are;
  places_are = refl;
  matched = λ f reads p b. stays_outside f name (text_in (map f names) a) n p (term_of f h x) outcome (named f reads) b
      (λ ps counted. ap (match_pattern (structure (f name) ps)) (sym (means f)) ∙ s.matched f reads ps counted);
}

pub structure_meets : {N : Type 0} (built : BuiltIn → N) (h : Held N) (names : List N) (a : Name) (n : ℕ) (name : N) (x y : Cell N) (cells now : List (Cell N)) (places : List (Place N)) (met : Met) → AreThere h places →
    ((f : N → List ℕ) → Reads built f → f name ≡ text_in (map f names) a) → ((f : N → List ℕ) → term_of f h y ≡ term_of f h x) → StructureMeets built h name n y cells now met → MeetsAs built h names (Structure a n) x cells now places places met
structure_meets built h names a n name x y cells now places Agrees pi named means o = record {
  places_in = pi;
  goes_into = λ f reads p b. agrees_inside f h name (text_in (map f names) a) n p (term_of f h x) cells now places (named f reads) b (opened_at f h name n (term_of f h y) (term_of f h x) cells now (means f) (o.opened f reads));
}
structure_meets built h names a n name x y cells now places (Waits v) pi named means s = outside_at built h names a n name x y cells now places (wait (v ∷ [])) named means s
structure_meets built h names a n name x y cells now places Clashes pi named means s = outside_at built h names a n name x y cells now places no named means s

-- who waits does so for an unbound variable
pub met_unbound : {N : Type 0} (h : Held N) (x : Cell N) (met : Met) → IsIn h x → IsWalked h x → WaitsAt x met → MetUnbound h met
met_unbound h x Agrees inside walked e = tt
met_unbound {N = N} h x (Waits v) inside walked e =
    let I : Cell N → Type 0 = λ c. IsIn h c in
    let W : Cell N → Type 0 = λ c. IsWalked h c in
    record { within = subst I e inside; unbound = subst W e walked }
met_unbound h x Clashes inside walked e = tt
