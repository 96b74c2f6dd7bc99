-- The front of a text by what its first byte begins.
use Rattle.std.specs.Prelude.{◌≡◌, ℕ, ◌==◌, Bool, true, false, if◌then◌else◌, List, [], ◌∷◌}
use Rattle.std.proofs.Common.{refl}
use Rattle.kl1_model.specs.declared.limits.TheConstants.{MOST_VARIABLE_BYTES}
use Rattle.kl1_model.specs.Name.{is_small_letter}
use Rattle.kl1_model.specs.Token.{variable_token, minus_token, is_variable_start, is_digit, is_blank, word_of, behind_word, digits_of, behind_digits, number_of, behind_comment, sign_at, Front, line_end, blank, token, first_is, bounded, name_front, digits_front, dot_front, front_of}
use Rattle.kl1_model.specs.code.Fronts.{quoted_front, comment_front, sign_front, quoted_from}

-- what a byte begins
pub data Start : Type 0 where
  ends_line : Start
  blanks : Start
  comments : Start
  names : Start
  variables : Start
  numbers : Start
  quotes : Start
  dots : Start
  subtracts : Start
  signs_or_nothing : Start

-- what `b` begins
abbrev pub start_of : ℕ → Start
start_of b =
    if b == 10 then ends_line
    else if is_blank b then blanks
    else if b == 37 then comments
    else if is_small_letter b then names
    else if is_variable_start b then variables
    else if is_digit b then numbers
    else if b == 39 then quotes
    else if b == 46 then dots
    else if b == 45 then subtracts
    else signs_or_nothing

-- what stands at the front of a text that begins with `b`
abbrev pub front_by : Start → ℕ → List ℕ → Front
front_by ends_line b bs = line_end bs
front_by blanks b bs = blank bs
front_by comments b bs = comment_front (behind_comment bs)
front_by names b bs = name_front false (b ∷ word_of bs) (behind_word bs)
front_by variables b bs = bounded MOST_VARIABLE_BYTES (b ∷ word_of bs) (variable_token (b ∷ word_of bs)) (behind_word bs)
front_by numbers b bs = digits_front (number_of (b ∷ digits_of bs)) (behind_digits bs)
front_by quotes b bs = quoted_front (quoted_from false [] bs)
front_by dots b bs = dot_front bs
front_by subtracts b bs = token (minus_token (first_is is_digit bs)) bs
front_by signs_or_nothing b bs = sign_front (sign_at (b ∷ bs)) (b ∷ bs)

chosen : (x : Bool) (s t : Start) (f g : Front) (b : ℕ) (bs : List ℕ) → front_by s b bs ≡ f → front_by t b bs ≡ g → front_by (if x then s else t) b bs ≡ (if x then f else g)
chosen true s t f g b bs p q = p
chosen false s t f g b bs p q = q

-- the front of a text goes by what its first byte begins
pub front_starts : (b : ℕ) (bs : List ℕ) → front_by (start_of b) b bs ≡ front_of (b ∷ bs)
front_starts b bs =
    chosen (b == 10) ends_line _ _ _ b bs refl
    (chosen (is_blank b) blanks _ _ _ b bs refl
    (chosen (b == 37) comments _ _ _ b bs refl
    (chosen (is_small_letter b) names _ _ _ b bs refl
    (chosen (is_variable_start b) variables _ _ _ b bs refl
    (chosen (is_digit b) numbers _ _ _ b bs refl
    (chosen (b == 39) quotes _ _ _ b bs refl
    (chosen (b == 46) dots _ _ _ b bs refl
    (chosen (b == 45) subtracts signs_or_nothing _ _ b bs refl refl))))))))
