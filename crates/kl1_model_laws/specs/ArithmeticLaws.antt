-- What holds of quotients and remainders.
use Rattle.std.specs.Prelude.{◌≡◌, ◌<◌, ℤ, pos, ◌+ℤ◌, ◌*ℤ◌, ◌≤ℤ◌, ◌<ℤ◌, int_div, int_rem, unsigned_abs}

-- a remainder is the dividend less the quotient times the divisor
abbrev pub RemaindersAreLeft : Type 0
RemaindersAreLeft = (x y : ℤ) → int_div x y *ℤ y +ℤ int_rem x y ≡ x

-- it is less than the divisor, both without their signs
abbrev pub RemaindersAreSmall : Type 0
RemaindersAreSmall = (x y : ℤ) → 0 < unsigned_abs y → unsigned_abs (int_rem x y) < unsigned_abs y

-- and is 0 or has the sign of the dividend, so that quotients are rounded towards zero
abbrev pub RemaindersKeepSigns : Type 0
RemaindersKeepSigns = (x y : ℤ) → (pos 0 ≤ℤ x → pos 0 ≤ℤ int_rem x y) × (x <ℤ pos 0 → int_rem x y ≤ℤ pos 0)
