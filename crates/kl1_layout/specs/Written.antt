-- What is written in a text beside its blanks: its tokens, and its comments between them.
use Rattle.std.specs.Prelude.{ℕ, zero, suc, ◌==◌, Bool, true, false, if◌then◌else◌, List, [], ◌∷◌, length, reverse, Option, Some, None, option_map}
use Rattle.kl1_model.specs.Text.{behind_leading}
use Rattle.kl1_model.specs.Line.{line_in}
use Rattle.kl1_model.specs.Token.{Token, is_blank, first_is, Front, finished, broken, line_end, blank, token, front_of}

-- a token, or a comment with its bytes; a comment tells if it has a line of its own, or stands after a token on its line
pub data Written : Type 0 where
  written_token : Token (List ℕ) → Written
  written_comment : Bool → List ℕ → Written

-- bytes without the blanks at their end
abbrev pub without_last_blanks : List ℕ → List ℕ
without_last_blanks bs = reverse (behind_leading is_blank (reverse bs))

-- the comment in front of a text: the bytes of its line from `%` on, without the blanks at their end
abbrev pub comment_of : List ℕ → List ℕ
comment_of bs = without_last_blanks (line_in bs)

-- with this in front, if there is something
abbrev pub with_first : Written → Option (List Written) → Option (List Written)
with_first w ws = option_map (λ vs. w ∷ vs) ws

-- what is written in `text`, in front of which a blank or a comment stands, if this is written after that
abbrev pub with_comment : Bool → List ℕ → Option (List Written) → Option (List Written)
with_comment alone text ws = if first_is (λ b. b == 37) text then with_first (written_comment alone (comment_of text)) ws else ws

-- what is written in `text`, by what is at its front; `alone` tells if no token stands before it on its line, and `next` gives what is
-- written in the rest
abbrev pub written_by : (Bool → List ℕ → Option (List Written)) → Bool → List ℕ → Front → Option (List Written)
written_by next alone text finished = Some []
written_by next alone text broken = None
written_by next alone text (line_end rest) = next true rest
written_by next alone text (blank rest) = with_comment alone text (next alone rest)
written_by next alone text (token t rest) = with_first (written_token t) (next false rest)

-- what is written in a text, in at most `n` fronts; a text has no more fronts than bytes and one
unfoldable pub written_within : ℕ → Bool → List ℕ → Option (List Written)
written_within zero alone text = None
written_within (suc n) alone text = written_by (written_within n) alone text (front_of text)

-- what is written in a text that goes on like this
abbrev pub written_at : Bool → List ℕ → Option (List Written)
written_at alone text = written_within (suc (length text)) alone text

-- what is written in a whole text, in order; none if a byte of it is no token
abbrev pub written_of : List ℕ → Option (List Written)
written_of text = written_at true text
