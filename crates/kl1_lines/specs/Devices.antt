-- What devices give and take.
use Rattle.std.specs.Prelude.{◌++◌, ◌≡◌, ℕ, ◌-◌, ◌^◌, ◌<◌, ◌≤◌, nat_lt, List, length, take, ⊤, None, Some, if◌then◌else◌}
use Rattle.std.specs.declared.option.Option.{Option}
use Rattle.std.specs.Io.KnownBytes.{Consumes, Appends, IsAtEnd}
use Rattle.kl1_lines.specs.declared.failure_counter.FailureCounter.{FailureCounter}

-- how many calls of a stream have failed
abbrev pub failures_of : {T : Type 0} → FailureCounter T → ℕ
failures_of s = s.failures

-- what is known of a stream, as long as it is used
abbrev pub known_while : {T : Type 0} → (T → Option (List ℕ)) → FailureCounter T → Option (List ℕ)
known_while known s = if nat_lt s.failures (2 ^ 64 - 1) then known s.inner else None

-- a read gave the first n bytes of the buffer, none only at the end or without room
pub record Gives (old new : Option (List ℕ)) (n : ℕ) (buffer : List ℕ) : Type 0 where
  pub within : n ≤ length buffer
  pub bytes : Consumes old new (take n buffer)
  pub end : n ≡ 0 → 0 < length buffer → IsAtEnd new

-- a write took the first n of these bytes, and at least one if there is one
pub record Takes (old new : Option (List ℕ)) (n : ℕ) (bytes : List ℕ) : Type 0 where
  pub within : n ≤ length bytes
  pub some : 0 < length bytes → 0 < n
  pub appends : Appends old new (take n bytes)

-- if the bytes are known before and after, they are the same
abbrev pub KeepsIfKnown : Option (List ℕ) → Option (List ℕ) → Type 0
KeepsIfKnown None new = ⊤
KeepsIfKnown (Some xs) None = ⊤
KeepsIfKnown (Some xs) (Some ys) = ys ≡ xs

-- if the bytes that are left are known before and after, these were taken from their front
abbrev pub ConsumesIfKnown : Option (List ℕ) → Option (List ℕ) → List ℕ → Type 0
ConsumesIfKnown None new bs = ⊤
ConsumesIfKnown (Some xs) None bs = ⊤
ConsumesIfKnown (Some xs) (Some ys) bs = xs ≡ bs ++ ys

-- at most `most` bytes were read
pub record ReadsFew (old new : Option (List ℕ)) (most : ℕ) : Type 0 where
  pub bytes : List ℕ
  pub few : length bytes ≤ most
  pub consumes : ConsumesIfKnown old new bytes

-- n bytes were read and put after the others, none only at the end
pub record AddsPiece (old new : Option (List ℕ)) (before after : List ℕ) (n : ℕ) : Type 0 where
  pub piece : List ℕ
  pub counts : length piece ≡ n
  pub consumes : Consumes old new piece
  pub appends : after ≡ before ++ piece
  pub end : n ≡ 0 → IsAtEnd new

-- these are all the bytes that were left
pub record IsWhole (old new : Option (List ℕ)) (bytes : List ℕ) : Type 0 where
  pub consumes : Consumes old new bytes
  pub end : IsAtEnd new

-- if the bytes are known before and after, they grew by these
abbrev pub GrowsIfKnown : Option (List ℕ) → Option (List ℕ) → List ℕ → Type 0
GrowsIfKnown None new bs = ⊤
GrowsIfKnown (Some xs) None bs = ⊤
GrowsIfKnown (Some xs) (Some ys) bs = ys ≡ xs ++ bs

-- if the bytes are known before and after, they grew by the first of these up to some place
pub record AppendsFront (old new : Option (List ℕ)) (bytes : List ℕ) : Type 0 where
  pub count : ℕ
  pub grows : GrowsIfKnown old new (take count bytes)

-- the first bytes were passed on, and the others stay
pub record PassesOn (old new : Option (List ℕ)) (before after : List ℕ) : Type 0 where
  pub passed : List ℕ
  pub appends : Appends old new passed
  pub same : passed ++ after ≡ before

-- these bytes are all that is left, if that is known
abbrev pub IsLeft : Option (List ℕ) → List ℕ → Type 0
IsLeft None bs = ⊤
IsLeft (Some xs) bs = xs ≡ bs
