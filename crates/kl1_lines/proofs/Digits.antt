-- What holds of the number that a word is.
use Rattle.std.proofs.Common.{◌≡◌, ℕ, ◌<◌, ◌≤◌, ◌-◌, nat_le, nat_lt, true, List, Some, None, if◌then◌else◌, length, refl, inl, inr, arith}
use Rattle.std.specs.List.{list_all}
use Rattle.std.proofs.lemmas.Bool.{cases_lt, le-leb, lt-leb, le-ltb, lt-ltb}
use Rattle.kl1_model.specs.declared.limits.TheConstants.{MOST_DIGITS, NUMBER_LIMIT}
use Rattle.kl1_model.specs.Token.{is_digit, number_of}
use Rattle.kl1_model.specs.Line.{number_in}

by_limit : (n : ℕ) → (if nat_lt n NUMBER_LIMIT then Some n else None) ≡ (if nat_le n (NUMBER_LIMIT - 1) then Some n else None)
by_limit n = elim (cases_lt n NUMBER_LIMIT) [
  | inl less ↦ rw (lt-ltb n NUMBER_LIMIT less, le-leb n (NUMBER_LIMIT - 1) (omega (arith, less))) refl
  | inr more ↦ rw (le-ltb n NUMBER_LIMIT more, lt-leb n (NUMBER_LIMIT - 1) (omega (arith, more))) refl
]

-- a word of digits, of which there are neither none nor too many
pub digits_write : (w : List ℕ) → 0 < length w → length w ≤ MOST_DIGITS → list_all is_digit w ≡ true → number_in w ≡ (if nat_le (number_of w) (NUMBER_LIMIT - 1) then Some (number_of w) else None)
digits_write w some few digits = rw (le-leb 1 (length w) some, le-leb (length w) MOST_DIGITS few, digits) (by_limit (number_of w))
