-- What comparing a list of cells promises, by the definition of passive equality.
use Rattle.std.specs.Prelude.{◌≡◌, ℕ, Bool, true, false, List, [], ◌∷◌, ◌⊎◌, ◌↔◌}
use Rattle.kl1_model.specs.declared.built_in.BuiltIn.{BuiltIn}
use Rattle.kl1_model.specs.Term.{Term}
use Rattle.kl1_model.specs.code.Comparing.{clashes_with_some, some_clash, awaited_with, awaited_by}
use Rattle.kl1_text.specs.Reading.{Reads}
use Rattle.kl1_store.specs.declared.cell.Cell.{Cell}
use Rattle.kl1_store.specs.Held.{Held}
use Rattle.kl1_store.specs.Meaning.{term_of}
use Rattle.kl1_store.specs.Done.{IsOf}

-- the terms of cells, as a list
abbrev pub term_list : {N : Type 0} → (N → List ℕ) → Held N → List (Cell N) → List Term
term_list f h [] = []
term_list f h (x ∷ xs) = term_of f h x ∷ term_list f h xs

-- a cell was compared with all of these
pub record ComparedWith {N : Type 0} (f : N → List ℕ) (h : Held N) (x : Cell N) (ys : List (Cell N)) (waits longer : List ℕ) : Type 0 where
  pub clash : clashes_with_some (term_of f h x) (term_list f h ys) ≡ false
  pub awaited : (v : ℕ) → IsOf v longer ↔ (IsOf v waits ⊎ IsOf v (awaited_with (term_of f h x) (term_list f h ys)))

-- a cell was compared with all of these, or it clashes with one of them, if the answer is no
abbrev pub ComparedWithAs : {N : Type 0} → (BuiltIn → N) → Held N → Cell N → List (Cell N) → List ℕ → List ℕ → Bool → Type 0
ComparedWithAs built h x ys waits longer true = (f : _) → Reads built f → ComparedWith f h x ys waits longer
ComparedWithAs built h x ys waits longer false = (f : _) → Reads built f → clashes_with_some (term_of f h x) (term_list f h ys) ≡ true

-- each two of these were compared
pub record ComparedEach {N : Type 0} (f : N → List ℕ) (h : Held N) (xs : List (Cell N)) (waits longer : List ℕ) : Type 0 where
  pub clash : some_clash (term_list f h xs) ≡ false
  pub awaited : (v : ℕ) → IsOf v longer ↔ (IsOf v waits ⊎ IsOf v (awaited_by (term_list f h xs)))

-- each two of these were compared, or two of them clash, if the answer is no
abbrev pub ComparedEachAs : {N : Type 0} → (BuiltIn → N) → Held N → List (Cell N) → List ℕ → List ℕ → Bool → Type 0
ComparedEachAs built h xs waits longer true = (f : _) → Reads built f → ComparedEach f h xs waits longer
ComparedEachAs built h xs waits longer false = (f : _) → Reads built f → some_clash (term_list f h xs) ≡ true
