-- The number of a module's own name.
use Rattle.std.proofs.Common.{◌≡◌, ℕ, Bool, true, false, ◌||◌, if◌then◌else◌, List, [], ◌∷◌, ◌++◌, map, refl, ap, ◌∙◌, bytes_eq}
use Rattle.std.specs.Prelude.{Option, Some, None}
use Rattle.std.specs.List.{list_any}
use Rattle.kl1_model.specs.declared.built_in.BuiltIn.{BuiltIn}
use Rattle.kl1_model.specs.Text.{is_built_in}
use Rattle.kl1_model.specs.State.{with_name, with_names, names_of_clauses}
use Rattle.kl1_text.specs.Reading.{Reads}
use Rattle.kl1_text.specs.BuiltIns.{built_in_of}
use Rattle.kl1_text.specs.declared.cell_name.CellName.{CellName}
use Rattle.kl1_clause.specs.NameList.{with_text}
use Rattle.kl1_clause.proofs.NameLists.{no_names, is_new, is_language}
use Rattle.kl1_codes.specs.Numbered.{Numbered, IsRead, built, first_number, number_by, number_of, own_names}

-- names that begin with this one
record Begin (a : List ℕ) (names : List (List ℕ)) : Type 0 where
  behind : List (List ℕ)
  are : names ≡ a ∷ behind

one_begins : (a : List ℕ) (names : List (List ℕ)) (b : List ℕ) → Begin a names → Begin a (with_name names b)
one_begins a names b p = by (is_built_in b || list_any (bytes_eq b) names)
  where
    by : (t : Bool) → Begin a (if t then names else names ++ b ∷ [])
    by true = p
    by false = record { behind = p.behind ++ b ∷ []; are = ap (λ l. l ++ b ∷ []) p.are }

begins : (a : List ℕ) (names others : List (List ℕ)) → Begin a names → Begin a (with_names names others)
begins a names [] p = p
begins a names (b ∷ others) p = begins a (with_name names b) others (one_begins a names b p)

new_begins : (a : List ℕ) → built_in_of a ≡ None → Begin a (with_name [] a)
unfolding with_text
new_begins a e = record { behind = []; are = (is_new [] a e refl no_names).added }

first_is : (f : CellName → List ℕ) (row : List CellName) (a : List ℕ) (names : List (List ℕ)) → map f row ≡ names → Begin a names → f (first_number row) ≡ a
first_is f [] a names e p = let never : [] ≡ a ∷ p.behind = e ∙ p.are in absurd (cc)
first_is f (n ∷ row) a names e p = let same : f n ∷ map f row ≡ a ∷ p.behind = e ∙ p.are in cc

-- it is read as the name
pub number_reads : (f : CellName → List ℕ) → Reads built f → (l : Numbered) → IsRead f l → f (number_of l) ≡ l.content.name
number_reads f r l e = by (built_in_of l.content.name) refl
  where
    by : (o : Option BuiltIn) → built_in_of l.content.name ≡ o → f (number_by l.row o) ≡ l.content.name
    by None n = first_is f l.row l.content.name (own_names l.content) e (begins l.content.name (with_name [] l.content.name) (names_of_clauses l.content.clauses) (new_begins l.content.name n))
    by (Some b) n = r.texts b ∙ (is_language [] l.content.name b n).1
