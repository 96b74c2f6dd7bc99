use Rattle.std.proofs.Common.{◌≡◌, nat_eq, length, find}
use Rattle.std.specs.List.{starts_with}
use Rattle.kl1_model.specs.Token.{sign_at, spelling_of}
use Rattle.kl1_read.proofs.signs.sign_at.Given as goal

-- the longest sign is the first of those that are left
abbrev pub invariant-loop-rest : goal.invariant-loop-rest
invariant-loop-rest l = find (λ s. starts_with nat_eq l.bytes (spelling_of s)) l.rest ≡ sign_at l.bytes

abbrev pub decreases-loop-rest : goal.decreases-loop-rest
decreases-loop-rest l = length l.rest
