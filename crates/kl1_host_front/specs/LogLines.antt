-- Lines of the log: fields `key=value`, parted by spaces.
use Rattle.std.specs.Prelude.{ℕ, ◌+◌, ◌-◌, ◌/◌, ◌%◌, ◌==◌, nat_le, nat_lt, ◌&&◌, ◌||◌, not, Bool, if◌then◌else◌, List, [], ◌∷◌, ◌++◌, length}
use Rattle.std.specs.List.{list_all}
use Rattle.kl1_host_front.specs.declared.log_line.Field.{Field}

-- a byte that may stand in a value without quotes: printable, no blank, no `"`, no `=`, no backslash
abbrev pub is_plain_byte : ℕ → Bool
is_plain_byte b = nat_le 33 b && nat_le b 126 && not (b == 34) && not (b == 61) && not (b == 92)

-- a value that needs no quotes
abbrev pub is_plain : List ℕ → Bool
is_plain v = nat_le 1 (length v) && list_all is_plain_byte v

-- the hexadecimal digit of a number below 16
abbrev pub digit_of : ℕ → ℕ
digit_of n = if nat_lt n 10 then 48 + n else 97 + (n - 10)

-- a byte in quotes: `"` and the backslash after a backslash, and what isn't printable as \x and two digits
abbrev pub written_byte : ℕ → List ℕ
written_byte b =
    if b == 34 || b == 92 then 92 ∷ b ∷ []
    else if nat_le 32 b && nat_le b 126 then b ∷ []
    else 92 ∷ 120 ∷ digit_of (b / 16) ∷ digit_of (b % 16) ∷ []

abbrev pub written_bytes : List ℕ → List ℕ
written_bytes [] = []
written_bytes (b ∷ bs) = written_byte b ++ written_bytes bs

-- a value: as it is if it is plain, or else in quotes
abbrev pub written_value : List ℕ → List ℕ
written_value v = if is_plain v then v else 34 ∷ written_bytes v ++ 34 ∷ []

-- a field: a name, and what it is
pub record LogField : Type 0 where
  pub name : List ℕ
  pub value : List ℕ

abbrev pub field_view : Field → LogField
field_view f = record { name = f.name.now; value = f.value.now }

abbrev pub written_field : LogField → List ℕ
written_field f = f.name ++ 61 ∷ written_value f.value

-- a line: its fields, parted by spaces
abbrev pub written_line : List LogField → List ℕ
written_line [] = 10 ∷ []
written_line (f ∷ []) = written_field f ++ 10 ∷ []
written_line (f ∷ g ∷ fs) = written_field f ++ 32 ∷ written_line (g ∷ fs)
