-- Parts of the texts of journals and images: hexadecimal bytes, names, versions and lines.
use Rattle.std.specs.Prelude.{ℕ, ◌+◌, ◌*◌, ◌-◌, ◌/◌, ◌%◌, ◌==◌, nat_le, nat_lt, ◌&&◌, ◌||◌, not, Bool, true, false, if◌then◌else◌, List, [], ◌∷◌, ◌++◌, codes, bytes_eq, Option, Some, None, option_and_then}
use Rattle.std.specs.List.{list_any}
use Rattle.kl1_model.specs.declared.rules.Rules.{Rules}
use Rattle.kl1_model.specs.declared.rules.Rules.TheVariants.{One, Two, Three, Four, Five}
use Rattle.kl1_model.specs.Text.{is_text, is_built_in}
use Rattle.kl1_model.specs.Name.{atom_text}
use Rattle.kl1_model.specs.Token.{is_digit}
use Rattle.kl1_model.specs.Line.{behind_space}

-- ---- bytes

-- a hexadecimal digit as a byte: 0 to 9, and a to f
abbrev pub hex_digit : ℕ → ℕ
hex_digit d = if nat_lt d 10 then 48 + d else 87 + d

-- bytes as two hexadecimal digits each
abbrev pub hex_text : List ℕ → List ℕ
hex_text [] = []
hex_text (b ∷ bs) = hex_digit (b / 16) ∷ hex_digit (b % 16) ∷ hex_text bs

-- whether a byte is a hexadecimal digit: 0 to 9, and a to f
abbrev pub is_hex_digit : ℕ → Bool
is_hex_digit c = is_digit c || nat_le 97 c && nat_le c 102

-- the value of a hexadecimal digit
abbrev pub hex_value : ℕ → ℕ
hex_value c = if nat_le c 57 then c - 48 else c - 87

-- the bytes that two hexadecimal digits each are; one that is left over is dropped
abbrev pub hex_bytes : List ℕ → List ℕ
hex_bytes [] = []
hex_bytes (c ∷ []) = []
hex_bytes (c ∷ d ∷ cs) = (16 * hex_value c + hex_value d) ∷ hex_bytes cs

-- what a line is read as, if its print is the line again
abbrev pub exactly : {A : Type 0} → (A → List ℕ) → (List ℕ → Option A) → List ℕ → Option A
exactly print read line = option_and_then (λ a. if bytes_eq (print a) line then Some a else None) (read line)

-- ---- names

-- the line of a name that was used at the last reset
abbrev pub name_line : List ℕ → List ℕ
name_line t = codes "name " ++ atom_text t

-- a name, by what is after the first quote of its print: each doubled quote is one, and the last byte is dropped
abbrev pub unquoted : List ℕ → List ℕ
unquoted [] = []
unquoted (b ∷ []) = []
unquoted (b ∷ c ∷ bs) = elim (b == 39) [ true ↦ 39 ∷ unquoted bs | false ↦ b ∷ unquoted (c ∷ bs) ]

-- the name that a printed atom may be
abbrev pub name_by : List ℕ → List ℕ
name_by [] = []
name_by (b ∷ bs) = if b == 39 then unquoted bs else b ∷ bs

-- bytes, if they are the text of a name
abbrev pub if_text : List ℕ → Option (List ℕ)
if_text t = if is_text t then Some t else None

-- the name whose line this is, if there is one
abbrev pub name_in : List ℕ → Option (List ℕ)
name_in line = exactly name_line (λ line. if_text (name_by (behind_space line))) line

-- whether a name may follow these in a journal: it isn't built in, and isn't among them
abbrev pub is_new_name : List (List ℕ) → List ℕ → Bool
is_new_name names t = not (is_built_in t) && not (list_any (bytes_eq t) names)

-- whether names may follow these in a journal: each is the text of a name, isn't built in and isn't among those before it
abbrev pub are_new_names : List (List ℕ) → List (List ℕ) → Bool
are_new_names before [] = true
are_new_names before (t ∷ ts) = is_text t && is_new_name before t && are_new_names (before ++ t ∷ []) ts

-- ---- versions

-- the version of a journal, by the rules that its account keeps to
abbrev pub version : Rules → List ℕ
version One = codes "1"
version Two = codes "2"
version Three = codes "3"
version Four = codes "4"
version Five = codes "5"

-- the rules of an account whose journal has this version, if it is one
abbrev pub rules_of : List ℕ → Option Rules
rules_of w =
    if bytes_eq w (version One) then Some One
    else if bytes_eq w (version Two) then Some Two
    else if bytes_eq w (version Three) then Some Three
    else if bytes_eq w (version Four) then Some Four
    else if bytes_eq w (version Five) then Some Five
    else None

-- ---- lines

-- a line as it is written
abbrev pub written_line : List ℕ → List ℕ
written_line line = line ++ 10 ∷ []

-- lines as they are written
abbrev pub written_lines : List (List ℕ) → List ℕ
written_lines [] = []
written_lines (line ∷ lines) = written_line line ++ written_lines lines

-- the lines of a text that each end with a line feed, without it, and the bytes after the last of them
pub record Lines : Type 0 where
  pub whole : List (List ℕ)
  pub rest : List ℕ

-- the lines of a text
abbrev pub lines_of : List ℕ → Lines
lines_of [] = record { whole = []; rest = [] }
lines_of (b ∷ bs) =
    let ls = lines_of bs in
    elim (b == 10) [
      | true ↦ record { whole = [] ∷ ls.whole; rest = ls.rest }
      | false ↦ elim ls.whole [
        | [] ↦ record { whole = []; rest = b ∷ ls.rest }
        | line ∷ lines ↦ record { whole = (b ∷ line) ∷ lines; rest = ls.rest }
      ]
    ]
