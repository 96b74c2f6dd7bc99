use Rattle.std.proofs.Common.{◌≡◌, ◌≤◌, length}
use Rattle.kl1_model.specs.Token.{number_of}
use Rattle.kl1_text.proofs.Digits.{number_from}
use Rattle.kl1_text.proofs.decimals.decimal_up_to.Given as goal

-- the digits that are left, after the number so far, write the same number
abbrev pub invariant-loop-rest : goal.invariant-loop-rest
invariant-loop-rest l = (number_from l.number l.rest ≡ number_of l.digits) × (l.number ≤ l.most)

abbrev pub decreases-loop-rest : goal.decreases-loop-rest
decreases-loop-rest l = length l.rest
