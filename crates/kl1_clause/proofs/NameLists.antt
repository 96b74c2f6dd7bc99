-- Lists of names as names are found and added.
use Rattle.std.proofs.Common.{◌≡◌, ℕ, ◌<◌, ◌⊎◌, Bool, true, false, cond, ◌||◌, List, [], ◌∷◌, ◌++◌, Some, None, bytes_eq, length, get_or, refl, sym, ap, subst, ◌∙◌, arith, inl, inr, length-append, if◌then◌else◌}
use Rattle.std.specs.List.{list_any}
use Rattle.std.proofs.Math.ListN.{get_or-append}
use Rattle.std.proofs.Math.Seq.{get_or-append_seam}
use Rattle.std.proofs.lemmas.Bool.{cases_lt}
use Rattle.std.proofs.lemmas.List.Folds.{list_any_at}
use Rattle.std.proofs.lemmas.Slice.Eq.{bytes_eq-Decides}
use Rattle.kl1_model.specs.declared.built_in.BuiltIn.{BuiltIn}
use Rattle.kl1_model.specs.Text.{text_of}
use Rattle.kl1_text.specs.BuiltIns.{built_in_of}
use Rattle.kl1_clause.specs.NameList.{is_of_language, with_text, IsNameList}
use Rattle.kl1_clause.proofs.Language.{found_in_language, missed_in_language}

-- no names at all
pub no_names : IsNameList []
no_names = record { once = λ i j p q e. absurd (omega arith); others = λ i p. absurd (omega arith) }

-- a name of the language isn't put into a list
pub is_language : (names : List (List ℕ)) (text : List ℕ) (b : BuiltIn) → built_in_of text ≡ Some b → (with_text names text ≡ names) × (text_of b ≡ text)
unfolding with_text is_of_language
is_language names text b h =
    let all = found_in_language text b h in
    (ap (λ (v : Bool). cond (v || list_any (bytes_eq text) names) names (names ++ text ∷ [])) all.1, all.0)

-- names with one that is new
pub record IsNew (names : List (List ℕ)) (text : List ℕ) : Type 0 where
  pub added : with_text names text ≡ names ++ text ∷ []
  pub list : IsNameList (names ++ text ∷ [])
  pub there : get_or (names ++ text ∷ []) (length names) [] ≡ text

-- a place in a list with one more is an old one or the last
pub at_place : (names : List (List ℕ)) (text : List ℕ) (i : ℕ) → i < length (names ++ text ∷ []) → ((i < length names) × (get_or (names ++ text ∷ []) i [] ≡ get_or names i [])) ⊎ ((i ≡ length names) × (get_or (names ++ text ∷ []) i [] ≡ text))
at_place names text i within = elim (cases_lt i (length names)) [
  | inl h ↦ inl (h, get_or-append names (text ∷ []) [] i h)
  | inr h ↦ inr (last_place names text i (omega (arith, length-append names (text ∷ []))))
]
  where
    last_place : (names : List (List ℕ)) (text : List ℕ) (i : ℕ) → i ≡ length names → (i ≡ length names) × (get_or (names ++ text ∷ []) i [] ≡ text)
    last_place names text i e = (e, ap (λ (k : ℕ). get_or (names ++ text ∷ []) k []) e ∙ get_or-append_seam names text [] [])

-- a text that is none of a list stands nowhere in it
stands_nowhere : (names : List (List ℕ)) (text : List ℕ) (i : ℕ) → list_any (bytes_eq text) names ≡ false → i < length names → get_or names i [] ≡ text → ⊥
stands_nowhere names text i none within e =
    let there : list_any (bytes_eq text) names ≡ true = list_any_at (bytes_eq text) names i [] within ((bytes_eq-Decides text (get_or names i [])).1 (sym e)) in
    let never : true ≡ false = sym there ∙ none in cc

pub is_new : (names : List (List ℕ)) (text : List ℕ) → built_in_of text ≡ None → list_any (bytes_eq text) names ≡ false → IsNameList names → IsNew names text
unfolding with_text is_of_language
is_new names text h none old = record {
  added = ap (λ (v : Bool). cond (v || list_any (bytes_eq text) names) names (names ++ text ∷ [])) (missed_in_language text h) ∙ ap (λ (v : Bool). cond v names (names ++ text ∷ [])) none;
  list = record {
    once = λ i j p q e. elim (at_place names text i p) [
      | inl x ↦ elim (at_place names text j q) [
        | inl y ↦ old.once i j x.0 y.0 (sym x.1 ∙ (e ∙ y.1))
        | inr y ↦ absurd (stands_nowhere names text i none x.0 (sym x.1 ∙ (e ∙ y.1)))
      ]
      | inr x ↦ elim (at_place names text j q) [
        | inl y ↦ absurd (stands_nowhere names text j none y.0 (sym y.1 ∙ (sym e ∙ x.1)))
        | inr y ↦ x.0 ∙ sym y.0
      ]
    ];
    others = λ i p. elim (at_place names text i p) [
      | inl x ↦ ap is_of_language x.1 ∙ old.others i x.0
      | inr x ↦ ap is_of_language x.1 ∙ missed_in_language text h
    ];
  };
  there = get_or-append_seam names text [] [];
}

pub no_names_in : (names : List (List ℕ)) → names ≡ [] → IsNameList names
no_names_in names e = subst IsNameList (sym e) no_names

-- names with a text put in if it is new
abbrev pub put_in : List (List ℕ) → List ℕ → List (List ℕ)
put_in names text = if list_any (bytes_eq text) names then names else names ++ text ∷ []

-- a text that isn't of the language, put in
pub record IsPut (names : List (List ℕ)) (text : List ℕ) (after : List (List ℕ)) : Type 0 where
  pub with : after ≡ with_text names text
  pub list : IsNameList after

puts : (names : List (List ℕ)) (text : List ℕ) (b : Bool) → built_in_of text ≡ None → IsNameList names → list_any (bytes_eq text) names ≡ b → IsPut names text (put_in names text)
unfolding with_text is_of_language
puts names text true h old e =
    let is : put_in names text ≡ names = ap (λ (v : Bool). cond v names (names ++ text ∷ [])) e in
    record {
      with = sym (ap (λ (v : Bool). cond (v || list_any (bytes_eq text) names) names (names ++ text ∷ [])) (missed_in_language text h));
      list = subst IsNameList (sym is) old;
    }
puts names text false h old e =
    let is : put_in names text ≡ names ++ text ∷ [] = ap (λ (v : Bool). cond v names (names ++ text ∷ [])) e in
    let new = is_new names text h e old in
    record { with = is ∙ sym new.added; list = subst IsNameList (sym is) new.list }

pub is_put : (names after : List (List ℕ)) (text : List ℕ) → built_in_of text ≡ None → IsNameList names → after ≡ put_in names text → IsPut names text after
is_put names after text h old e = subst (IsPut names text) (sym e) (puts names text (list_any (bytes_eq text) names) h old refl)
