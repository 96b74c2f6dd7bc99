-- Where a look-up starts.
use Rattle.std.proofs.Common.{ℕ, ◌*◌, ◌/◌, ◌<◌, arith}
use Rattle.std.proofs.Math.Nat.{div-lt_iff_lt-mul}

-- a part of m in 2 ^ 32 is below m
pub below_part : (a m : ℕ) → a < 4294967296 → 0 < m → a * m / 4294967296 < m
below_part a m h p = (div-lt_iff_lt-mul (omega arith)).1 (let q : a * m < m * 4294967296 = grind arith in q)
