-- The tokens of a whole text, by what stands in front of it.
use Rattle.std.proofs.Common.{◌≡◌, ℕ, List, [], ◌∷◌, ◌++◌, Option, Some, unwrap_or, ap, sym, ◌∙◌, append_assoc}
use Rattle.std.proofs.lemmas.List.{append-nil}
use Rattle.kl1_model.specs.Token.{Token, Front, finished, token, front_of, Tokens, tokens_by}
use Rattle.kl1_model.specs.laws.ReadLaws.{tokens_at}
use Rattle.kl1_model.specs.Module.{bare_tokens}
use Rattle.kl1_model.proofs.LexSteps.{tokens_go_on}
use Rattle.kl1_read.specs.WholeTexts.{Whole, whole_from, unbroken}

-- the whole with this in front of it
abbrev pub whole_by : Option ℕ → List (Token (List ℕ)) → ℕ → Front → Whole
whole_by began before line f = whole_from began before (tokens_by tokens_at line f)

pub whole_is : (f : Front) (began : Option ℕ) (before : List (Token (List ℕ))) (line : ℕ) (bs : List ℕ) → f ≡ front_of bs → whole_by began before line f ≡ whole_from began before (tokens_at line bs)
whole_is f began before line bs e =
    ap (whole_by began before line) e ∙ sym (ap (whole_from began before) (tokens_go_on line bs))

pub finished_whole : (began : Option ℕ) (before : List (Token (List ℕ))) (line : ℕ) → record { line = unwrap_or began 1; tokens = Some before } ≡ whole_by began before line finished
finished_whole began before line = ap (λ (ts : List (Token (List ℕ))). record { line = unwrap_or began 1; tokens = Some ts }) (sym (append-nil before))

token_by : (began : Option ℕ) (before : List (Token (List ℕ))) (line : ℕ) (t : Token (List ℕ)) (ts : Tokens) → whole_from (Some (unwrap_or began line)) (before ++ t ∷ []) ts ≡ record { line = unwrap_or began line; tokens = unbroken ts.broken_at (before ++ t ∷ bare_tokens ts.placed) }
token_by began before line t ts =
    ap (λ (xs : List (Token (List ℕ))). record { line = unwrap_or began line; tokens = unbroken ts.broken_at xs }) (append_assoc before (t ∷ []) (bare_tokens ts.placed))

pub token_whole : (began : Option ℕ) (before : List (Token (List ℕ))) (line : ℕ) (t : Token (List ℕ)) (rest : List ℕ) → whole_from (Some (unwrap_or began line)) (before ++ t ∷ []) (tokens_at line rest) ≡ whole_by began before line (token t rest)
token_whole began before line t rest = token_by began before line t (tokens_at line rest)
