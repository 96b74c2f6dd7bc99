-- The tokens of a text are those that are written in it.
use Rattle.std.specs.Prelude.{◌≡◌, ℕ, zero, suc, ◌==◌, Bool, true, false, if◌then◌else◌, List, [], ◌∷◌, length, Option, Some, None, option_map}
use Rattle.std.proofs.Common.{refl, sym, ◌∙◌}
use Rattle.kl1_model.specs.Token.{Token, first_is, Front, finished, broken, line_end, blank, token, front_of, Tokens, tokens_by, tokens_within, tokens_of_text}
use Rattle.kl1_layout.specs.Written.{Written, written_token, written_comment, comment_of, with_first, written_by, written_within, written_of}
use Rattle.kl1_layout.specs.Layouts.{if_unbroken, unplaced}

-- the tokens of what is written
abbrev pub tokens_in : List Written → List (Token (List ℕ))
tokens_in [] = []
tokens_in (written_token t ∷ ws) = t ∷ tokens_in ws
tokens_in (written_comment alone bytes ∷ ws) = tokens_in ws

-- a comment is no token
no_token : (c alone : Bool) (bytes : List ℕ) (ws : Option (List Written)) → option_map tokens_in (if c then with_first (written_comment alone bytes) ws else ws) ≡ option_map tokens_in ws
no_token true alone bytes None = refl
no_token true alone bytes (Some ws) = refl
no_token false alone bytes ws = refl

one_token : (t : Token (List ℕ)) (broken_at : Option ℕ) (ts : List (Token (List ℕ))) (ws : Option (List Written)) → if_unbroken broken_at ts ≡ option_map tokens_in ws → if_unbroken broken_at (t ∷ ts) ≡ option_map tokens_in (with_first (written_token t) ws)
one_token t None ts (Some ws) e = cc
one_token t None ts None e = cc
one_token t (Some line) ts None e = refl
one_token t (Some line) ts (Some ws) e = cc

front_written : (next : ℕ → List ℕ → Tokens) (go : Bool → List ℕ → Option (List Written)) (line : ℕ) (alone : Bool) (text : List ℕ) (f : Front) → ((l : ℕ) (a : Bool) (rest : List ℕ) → unplaced (next l rest) ≡ option_map tokens_in (go a rest)) → unplaced (tokens_by next line f) ≡ option_map tokens_in (written_by go alone text f)
front_written next go line alone text finished same = refl
front_written next go line alone text broken same = refl
front_written next go line alone text (line_end rest) same = same (suc line) true rest
front_written next go line alone text (blank rest) same =
    same line alone rest ∙ sym (no_token (first_is (λ b. b == 37) text) alone (comment_of text) (go alone rest))
front_written next go line alone text (token t rest) same = one_token t (next line rest).broken_at _ (go false rest) (same line false rest)

within : (n line : ℕ) (alone : Bool) (text : List ℕ) → unplaced (tokens_within n line text) ≡ option_map tokens_in (written_within n alone text)
unfolding tokens_within written_within
within zero line alone text = refl
within (suc n) line alone text = front_written (tokens_within n) (written_within n) line alone text (front_of text) (λ l a rest. within n l a rest)

-- the tokens of a text are those that are written in it
pub tokens_written : (text : List ℕ) → unplaced (tokens_of_text text) ≡ option_map tokens_in (written_of text)
tokens_written text = within (suc (length text)) 1 true text
