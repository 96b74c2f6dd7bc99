-- Names that an account may have used are a list of names.
use Rattle.std.proofs.Common.{◌≡◌, ℕ, ◌<◌, Bool, true, false, not, ◌&&◌, List, [], ◌∷◌, ◌++◌, bytes_eq, length, get_or, refl, sym, ◌∙◌, subst, inl, inr}
use Rattle.std.specs.List.{list_any}
use Rattle.std.proofs.lemmas.Bool.{and_parts}
use Rattle.std.proofs.lemmas.List.{append_assoc, append-nil}
use Rattle.std.proofs.lemmas.List.Folds.{list_any_at}
use Rattle.std.proofs.lemmas.Slice.Eq.{bytes_eq-Decides}
use Rattle.kl1_model.specs.declared.rules.Rules.{Rules}
use Rattle.kl1_model.specs.Text.{is_text, is_built_in}
use Rattle.kl1_model_server.specs.JournalText.{is_new_name}
use Rattle.kl1_model_server.specs.laws.TextLaws.{are_new_names, AreNames}
use Rattle.kl1_clause.specs.NameList.{is_of_language, IsNameList}
use Rattle.kl1_clause.proofs.NameLists.{no_names, at_place}

from_not : (v : Bool) → not v ≡ true → v ≡ false
from_not true e = cc
from_not false e = refl

-- a text that is none of a list stands nowhere in it
stands_nowhere : (names : List (List ℕ)) (text : List ℕ) (i : ℕ) → list_any (bytes_eq text) names ≡ false → i < length names → get_or names i [] ≡ text → ⊥
stands_nowhere names text i none within e =
    let there : list_any (bytes_eq text) names ≡ true = list_any_at (bytes_eq text) names i [] within ((bytes_eq-Decides text (get_or names i [])).1 (sym e)) in
    let never : true ≡ false = sym there ∙ none in cc

-- a name that may follow others, after them
names_more : (names : List (List ℕ)) (t : List ℕ) → IsNameList names → is_new_name names t ≡ true → IsNameList (names ++ t ∷ [])
unfolding is_of_language
names_more names t old new =
    let p = and_parts (not (is_built_in t)) (not (list_any (bytes_eq t) names)) new in
    let foreign = from_not (is_built_in t) p.0 in
    let none = from_not (list_any (bytes_eq t) names) p.1 in
    record {
      once = λ i j p q e. elim (at_place names t i p) [
        | inl x ↦ elim (at_place names t j q) [
          | inl y ↦ old.once i j x.0 y.0 (sym x.1 ∙ (e ∙ y.1))
          | inr y ↦ absurd (stands_nowhere names t i none x.0 (sym x.1 ∙ (e ∙ y.1)))
        ]
        | inr x ↦ elim (at_place names t j q) [
          | inl y ↦ absurd (stands_nowhere names t j none y.0 (sym y.1 ∙ (sym e ∙ x.1)))
          | inr y ↦ x.0 ∙ sym y.0
        ]
      ];
      others = λ i p. elim (at_place names t i p) [
        | inl x ↦ rw (x.1) (old.others i x.0)
        | inr x ↦ rw (x.1) foreign
      ];
    }

-- names that may follow others, after them
all_more : (before names : List (List ℕ)) → IsNameList before → are_new_names before names ≡ true → IsNameList (before ++ names)
all_more before [] old new = subst IsNameList (sym (append-nil before)) old
all_more before (t ∷ ts) old new =
    let p = and_parts (is_text t && is_new_name before t) (are_new_names (before ++ t ∷ []) ts) new in
    let q = and_parts (is_text t) (is_new_name before t) p.0 in
    subst IsNameList (append_assoc before (t ∷ []) ts) (all_more (before ++ t ∷ []) ts (names_more before t old q.1) p.1)

-- names that an account may have used differ, and none is of the language
pub list_of_names : (rules : Rules) (names : List (List ℕ)) → AreNames rules names → IsNameList names
list_of_names rules names may = all_more [] names no_names may.new
