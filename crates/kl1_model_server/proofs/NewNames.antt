-- Names that are used stay names that may have been used, whichever texts come to them.
use Rattle.std.specs.Prelude.{◌≡◌, ℕ, ◌≤◌, nat_le, not, ◌&&◌, ◌||◌, Bool, true, false, if◌then◌else◌, List, [], ◌∷◌, ◌++◌, bytes_eq}
use Rattle.std.specs.List.{list_all, list_any}
use Rattle.std.proofs.Common.{refl, sym, ap, ◌∙◌, arith}
use Rattle.std.proofs.lemmas.Bool.{and_parts, and_from, or_parts, leb-true, not_from_false}
use Rattle.std.proofs.lemmas.List.{append_assoc, append-nil}
use Rattle.std.proofs.lemmas.List.Folds.{list_all-append}
use Rattle.kl1_model.specs.declared.limits.TheConstants.{MOST_ARGUMENTS}
use Rattle.kl1_model.specs.declared.rules.Rules.{Rules}
use Rattle.kl1_model.specs.Text.{is_text, is_built_in}
use Rattle.kl1_model.specs.Term.{Term, variable, integer, atom, structure, Terms, none, more, count_of}
use Rattle.kl1_model.specs.Meaning.{is_narrow, are_narrow}
use Rattle.kl1_model.specs.State.{limits_of, names_of, names_in, with_name, with_names}
use Rattle.kl1_model_server.specs.JournalText.{is_new_name}
use Rattle.kl1_model_server.specs.laws.TextLaws.{are_new_names, AreNames}

-- one more name at the end
name_added : (before names : List (List ℕ)) (a : List ℕ) → are_new_names before names ≡ true → is_text a ≡ true → is_new_name (before ++ names) a ≡ true → are_new_names before (names ++ a ∷ []) ≡ true
name_added before [] a all text new =
    and_from (is_text a && is_new_name before a) true (and_from (is_text a) (is_new_name before a) text (ap (λ x. is_new_name x a) (sym (append-nil before)) ∙ new)) refl
name_added before (t ∷ ts) a all text new =
    let both = and_parts (is_text t && is_new_name before t) (are_new_names (before ++ t ∷ []) ts) all in
    and_from (is_text t && is_new_name before t) (are_new_names (before ++ t ∷ []) (ts ++ a ∷ [])) both.0
    (name_added (before ++ t ∷ []) ts a both.1 text (ap (λ x. is_new_name x a) (append_assoc before (t ∷ []) ts) ∙ new))

name_by : (x : Bool) (names : List (List ℕ)) (a : List ℕ) → is_built_in a || list_any (bytes_eq a) names ≡ x → are_new_names [] names ≡ true → is_text a ≡ true → are_new_names [] (if x then names else names ++ a ∷ []) ≡ true
name_by true names a is all text = all
name_by false names a is all text =
    let both = or_parts (is_built_in a) (list_any (bytes_eq a) names) is in
    name_added [] names a all text (and_from (not (is_built_in a)) (not (list_any (bytes_eq a) names)) (not_from_false (is_built_in a) both.0) (not_from_false (list_any (bytes_eq a) names) both.1))

-- with one name more, if it is new
pub with_name_new : (names : List (List ℕ)) (a : List ℕ) → are_new_names [] names ≡ true → is_text a ≡ true → are_new_names [] (with_name names a) ≡ true
with_name_new names a all text = name_by (is_built_in a || list_any (bytes_eq a) names) names a refl all text

-- with those that are new of these
pub with_names_new : (names others : List (List ℕ)) → are_new_names [] names ≡ true → list_all is_text others ≡ true → are_new_names [] (with_names names others) ≡ true
with_names_new names [] all texts = all
with_names_new names (a ∷ others) all texts =
    let both = and_parts (is_text a) (list_all is_text others) texts in
    with_names_new (with_name names a) others (with_name_new names a all both.0) both.1

-- no names have been used
pub no_names : (rules : Rules) → AreNames rules []
no_names rules = let few : 0 ≤ (limits_of rules).names = omega arith in record { few = few; new = refl }

-- the names of a term that a text can write are texts
mutual
  pub names_are_texts : (t : Term) → is_narrow t ≡ true → list_all is_text (names_of t) ≡ true
  names_are_texts (variable n) h = refl
  names_are_texts (integer i) h = refl
  names_are_texts (atom a) h = and_from (is_text a) true h refl
  names_are_texts (structure f ts) h =
      let front = and_parts (is_text f && nat_le 1 (count_of ts) && nat_le (count_of ts) MOST_ARGUMENTS) (are_narrow ts) h in
      let named = and_parts (is_text f && nat_le 1 (count_of ts)) (nat_le (count_of ts) MOST_ARGUMENTS) front.0 in
      and_from (is_text f) (list_all is_text (names_in ts)) (and_parts (is_text f) (nat_le 1 (count_of ts)) named.0).0 (names_in_are_texts ts front.1)

  pub names_in_are_texts : (ts : Terms) → are_narrow ts ≡ true → list_all is_text (names_in ts) ≡ true
  names_in_are_texts none h = refl
  names_in_are_texts (more t ts) h =
      let both = and_parts (is_narrow t) (are_narrow ts) h in
      list_all-append is_text (names_of t) (names_in ts) ∙ and_from (list_all is_text (names_of t)) (list_all is_text (names_in ts)) (names_are_texts t both.0) (names_in_are_texts ts both.1)
