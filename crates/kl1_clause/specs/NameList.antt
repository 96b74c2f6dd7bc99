-- Lists of names.
use Rattle.std.specs.Prelude.{◌≡◌, ℕ, ◌<◌, Bool, false, List, [], length, slice_index_or}
use Rattle.kl1_model.specs.Text.{is_built_in}
use Rattle.kl1_model.specs.State.{with_name, with_names}

-- whether a text is a name of the language
unfoldable pub is_of_language : List ℕ → Bool
is_of_language text = is_built_in text

-- names so far, with one more if it is new and not of the language
unfoldable pub with_text : List (List ℕ) → List ℕ → List (List ℕ)
with_text names text = with_name names text

-- names so far, and then those of these that are new and not of the language
unfoldable pub with_texts : List (List ℕ) → List (List ℕ) → List (List ℕ)
with_texts names texts = with_names names texts

-- the names differ, and none is of the language
pub record IsNameList (names : List (List ℕ)) : Type 0 where
  pub once : (i j : ℕ) → i < length names → j < length names → slice_index_or names i [] ≡ slice_index_or names j [] → i ≡ j
  pub others : (i : ℕ) → i < length names → is_of_language (slice_index_or names i []) ≡ false
