-- What reading a name in quotes gives.
use Rattle.std.specs.Prelude.{◌≡◌, ℕ, nat_le, if◌then◌else◌, List, length, Option, Some, None, option_map}
use Rattle.std.specs.Borrow.{Bor}
use Rattle.kl1_model.specs.declared.limits.TheConstants.{MOST_NAME_BYTES}

-- a text with what is after it, if it has at most 127 bytes
abbrev pub short : Option (List ℕ × List ℕ) → Option (List ℕ × List ℕ)
short None = None
short (Some q) = if nat_le (length q.0) MOST_NAME_BYTES then Some q else None

-- the code's answer is this text with what is after it
abbrev pub Ends : Option (List ℕ × Bor (List ℕ)) → Option (List ℕ × List ℕ) → Type 0
Ends found wanted = option_map (λ q. (q.0, q.1.now)) found ≡ wanted
