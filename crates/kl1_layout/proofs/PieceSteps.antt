-- The pieces of a text, front by front.
use Rattle.std.specs.Prelude.{◌≡◌, ℕ, Bool, true, false, if◌then◌else◌, List, [], ◌∷◌, ◌++◌, Option, Some, None}
use Rattle.std.proofs.Common.{refl, ap, sym, ◌∙◌, append_assoc}
use Rattle.std.proofs.lemmas.List.{append-nil}
use Rattle.kl1_model.specs.Token.{Token, Front, finished, line_end, blank, token, front_of, Tokens, tokens_by}
use Rattle.kl1_model.specs.laws.ReadLaws.{tokens_at}
use Rattle.kl1_model.proofs.LexSteps.{tokens_go_on}
use Rattle.kl1_layout.specs.Written.{Written, written_token, with_first, with_comment, written_by, written_at}
use Rattle.kl1_layout.specs.Pieces.{with_before}
use Rattle.kl1_layout.proofs.WrittenSteps.{written_goes_on}

-- what is written from a front on
pub from_front : (f : Front) (alone : Bool) (text : List ℕ) → f ≡ front_of text → written_by written_at alone text f ≡ written_at alone text
from_front f alone text e = ap (written_by written_at alone text) e ∙ sym (written_goes_on alone text)

-- one more with those before it
pub one_more : (before : List Written) (w : Written) (ws : Option (List Written)) → with_before (before ++ w ∷ []) ws ≡ with_before before (with_first w ws)
one_more before w None = refl
one_more before w (Some vs) = ap Some (append_assoc before (w ∷ []) vs)

-- at the end of the text
pub ended : (before : List Written) (alone : Bool) (text : List ℕ) (all : Option (List Written)) → finished ≡ front_of text → with_before before (written_at alone text) ≡ all → all ≡ Some before
ended before alone text all e h = sym h ∙ ap (with_before before) (sym (from_front finished alone text e)) ∙ ap Some (append-nil before)

-- after the end of a line
pub behind_line : (before : List Written) (alone : Bool) (text rest : List ℕ) (all : Option (List Written)) → line_end rest ≡ front_of text → with_before before (written_at alone text) ≡ all → with_before before (written_at true rest) ≡ all
behind_line before alone text rest all e h = ap (with_before before) (from_front (line_end rest) alone text e) ∙ h

-- no comment is in front
pub blank_case : (c : Bool) (w : Written) (ws : Option (List Written)) → c ≡ false → ws ≡ (if c then with_first w ws else ws)
blank_case true w ws e = cc
blank_case false w ws e = refl

-- a comment is in front
pub comment_case : (c : Bool) (w : Written) (ws : Option (List Written)) → c ≡ true → with_first w ws ≡ (if c then with_first w ws else ws)
comment_case true w ws e = refl
comment_case false w ws e = cc

-- after a blank or a comment, which is put if it is a comment
pub behind_blank : (before now : List Written) (alone : Bool) (text rest : List ℕ) (all : Option (List Written)) → blank rest ≡ front_of text → with_before now (written_at alone rest) ≡ with_before before (with_comment alone text (written_at alone rest)) → with_before before (written_at alone text) ≡ all → with_before now (written_at alone rest) ≡ all
behind_blank before now alone text rest all e put h = put ∙ ap (with_before before) (from_front (blank rest) alone text e) ∙ h

-- after a token
pub behind_token : (before : List Written) (alone : Bool) (t : Token (List ℕ)) (text rest : List ℕ) (all : Option (List Written)) → token t rest ≡ front_of text → with_before before (written_at alone text) ≡ all → with_before (before ++ written_token t ∷ []) (written_at false rest) ≡ all
behind_token before alone t text rest all e h =
    one_more before (written_token t) (written_at false rest) ∙ ap (with_before before) (from_front (token t rest) alone text e) ∙ h

-- the place where no token stands, from a front on
pub break_from : (f : Front) (line : ℕ) (text : List ℕ) (all : Option ℕ) → f ≡ front_of text → (tokens_at line text).broken_at ≡ all → (tokens_by tokens_at line f).broken_at ≡ all
break_from f line text all e h = ap (λ (g : Front). (tokens_by tokens_at line g).broken_at) e ∙ sym (ap (λ (ts : Tokens). ts.broken_at) (tokens_go_on line text)) ∙ h
