-- What holds of the numbers that digits write.
use Rattle.std.proofs.Common.{◌≡◌, ℕ, ◌+◌, ◌-◌, ◌*◌, ◌<◌, ◌≤◌, nat_le, List, [], ◌∷◌, Option, None, Some, if◌then◌else◌, length, get_or, fold, arith}
use Rattle.std.proofs.lemmas.Bool.{lt-leb}
use Rattle.kl1_model.specs.Token.{number_of}

-- the number that digits write after a number
abbrev pub number_from : ℕ → List ℕ → ℕ
number_from n digits = fold (λ n b. 10 * n + (b - 48)) n digits

-- a number that digits follow does not fall
number_grows : (n : ℕ) (digits : List ℕ) → n ≤ number_from n digits
number_grows n [] = omega arith
number_grows n (b ∷ bs) = omega (arith, number_grows (10 * n + (b - 48)) bs)

-- the number that digits write, if it is at most so much
abbrev pub bounded_number : ℕ → List ℕ → Option ℕ
bounded_number most digits = if nat_le (number_of digits) most then Some (number_of digits) else None

too_large : (most : ℕ) (digits : List ℕ) → most < number_of digits → None ≡ bounded_number most digits
too_large most digits h = rw (lt-leb (number_of digits) most h)

-- digits write too much if those up to the next one do
pub too_many : (most : ℕ) (digits : List ℕ) (n : ℕ) (rest : List ℕ) → number_from n rest ≡ number_of digits → 0 < length rest → most < 10 * n + (get_or rest 0 0 - 48) → None ≡ bounded_number most digits
too_many most digits n [] e h k = absurd (omega arith)
too_many most digits n (b ∷ bs) e h k =
    too_large most digits (omega (arith, e, number_grows (10 * n + (b - 48)) bs))
