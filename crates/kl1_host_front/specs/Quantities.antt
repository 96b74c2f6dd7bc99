-- Sizes and durations in words: digits, maybe one space, and a unit.
use Rattle.std.specs.Prelude.{ℕ, ◌*◌, ◌==◌, nat_le, if◌then◌else◌, List, [], ◌∷◌, length, codes, bytes_eq, Option, Some, None, option_and_then}
use Rattle.kl1_model.specs.Token.{digits_of, behind_digits, number_of}
use Rattle.kl1_host_front.specs.declared.quantities.TheConstants.{MOST_BYTES, MOST_MILLISECONDS}

-- how many bytes a unit of this name is
abbrev pub byte_unit : List ℕ → Option ℕ
byte_unit name =
    if bytes_eq name (codes "B") then Some 1
    else if bytes_eq name (codes "KB") then Some 1000
    else if bytes_eq name (codes "MB") then Some 1000000
    else if bytes_eq name (codes "GB") then Some 1000000000
    else if bytes_eq name (codes "KiB") then Some 1024
    else if bytes_eq name (codes "MiB") then Some 1048576
    else if bytes_eq name (codes "GiB") then Some 1073741824
    else None

-- how many milliseconds a unit of this name is
abbrev pub time_unit : List ℕ → Option ℕ
time_unit name =
    if bytes_eq name (codes "ms") then Some 1
    else if bytes_eq name (codes "s") then Some 1000
    else if bytes_eq name (codes "m") then Some 60000
    else if bytes_eq name (codes "h") then Some 3600000
    else if bytes_eq name (codes "d") then Some 86400000
    else None

-- a text without one space in front
abbrev pub without_space : List ℕ → List ℕ
without_space [] = []
without_space (b ∷ bs) = if b == 32 then bs else b ∷ bs

-- a number, if it is at most this
abbrev pub up_to : ℕ → ℕ → Option ℕ
up_to most n = if nat_le n most then Some n else None

-- so many of a unit as digits say, at least one digit, if it is at most `most`
abbrev pub amount : Option ℕ → ℕ → List ℕ → Option ℕ
amount unit most digits = if nat_le 1 (length digits) then option_and_then (λ u. up_to most (number_of digits * u)) unit else None

-- the bytes that a text says, and the milliseconds
abbrev pub size_in : List ℕ → Option ℕ
size_in text = amount (byte_unit (without_space (behind_digits text))) MOST_BYTES (digits_of text)

abbrev pub duration_in : List ℕ → Option ℕ
duration_in text = amount (time_unit (without_space (behind_digits text))) MOST_MILLISECONDS (digits_of text)
