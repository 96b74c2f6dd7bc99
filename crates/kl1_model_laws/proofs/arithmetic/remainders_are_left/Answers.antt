use Rattle.std.proofs.Common.{ℕ, zero, suc, ◌%◌, pos, negsuc, neg_ℤ, ◌≤ℤ◌, unsigned_abs, arith}
use Rattle.std.proofs.lemmas.Int.{ints, quot-rem, rem_below}
use Rattle.kl1_model_laws.specs.ArithmeticLaws.{RemaindersKeepSigns}
use Rattle.kl1_model_laws.proofs.arithmetic.remainders_are_left.Goals as goal

at_least_zero : (n : ℕ) → pos 0 ≤ℤ pos n
at_least_zero n = omega (arith, ints)

at_most_zero : (n : ℕ) → neg_ℤ (pos n) ≤ℤ pos 0
at_most_zero zero = omega (arith, ints)
at_most_zero (suc n) = omega (arith, ints)

signs_kept : RemaindersKeepSigns
signs_kept (pos a) y = (λ h. at_least_zero (a % unsigned_abs y), λ h. absurd (omega (arith, ints)))
signs_kept (negsuc a) y = (λ h. absurd (omega (arith, ints)), λ h. at_most_zero (suc a % unsigned_abs y))

pub returns : goal.returns
returns c = record { left = quot-rem; small = rem_below; signs = signs_kept }
