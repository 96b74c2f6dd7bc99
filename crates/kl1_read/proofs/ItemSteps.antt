-- The items of a text, by what stands in front of it.
use Rattle.std.proofs.Common.{◌≡◌, ℕ, true, false, List, [], ◌∷◌, ◌++◌, Option, Some, None, unwrap_or, refl, ap, sym, ◌∙◌}
use Rattle.std.proofs.lemmas.Bool.{true≢false, false≢true}
use Rattle.kl1_model.specs.Token.{Token, end_token, Front, broken, token, front_of, tokens_by}
use Rattle.kl1_model.specs.laws.ReadLaws.{tokens_at}
use Rattle.kl1_model.specs.Module.{Item, is_end}
use Rattle.kl1_model.proofs.LexSteps.{tokens_go_on}
use Rattle.kl1_read.specs.Items.{items_among, items_left}

-- the items of a text with this in front of it
abbrev pub items_by : Option ℕ → List (Token (List ℕ)) → ℕ → Front → List Item
items_by began before line f = items_among began before (tokens_by tokens_at line f)

-- the items of a text are those by what stands in front of it
pub items_are : (f : Front) (began : Option ℕ) (before : List (Token (List ℕ))) (line : ℕ) (bs : List ℕ) → f ≡ front_of bs → items_by began before line f ≡ items_among began before (tokens_at line bs)
items_are f began before line bs e = ap (items_by began before line) e ∙ sym (ap (items_among began before) (tokens_go_on line bs))

-- at a byte that is no token, the item is bad
pub broken_items : (began : Option ℕ) (before : List (Token (List ℕ))) (line : ℕ) → record { line = unwrap_or began line; tokens = None } ∷ [] ≡ items_by began before line broken
broken_items None before line = refl
broken_items (Some first) before line = refl

-- at an end, the item is whole
pub end_items : (t : Token (List ℕ)) (began : Option ℕ) (before : List (Token (List ℕ))) (line : ℕ) (rest : List ℕ) → true ≡ is_end t → record { line = unwrap_or began line; tokens = Some before } ∷ items_left line rest ≡ items_by began before line (token t rest)
end_items end_token began before line rest h = refl
end_items _ began before line rest h = absurd (true≢false h)

-- at another token, the item goes on
pub more_items : (t : Token (List ℕ)) (began : Option ℕ) (before : List (Token (List ℕ))) (line : ℕ) (rest : List ℕ) → false ≡ is_end t → items_among (Some (unwrap_or began line)) (before ++ t ∷ []) (tokens_at line rest) ≡ items_by began before line (token t rest)
more_items end_token began before line rest h = absurd (false≢true h)
more_items _ began before line rest h = refl
