-- The accounts of a server: what a file says of them, and whose key is right.
use Rattle.std.specs.Prelude.{ℕ, suc, nat_le, ◌&&◌, Bool, if◌then◌else◌, List, [], ◌∷◌, ◌++◌, length, map, bytes_eq, Option, Some, None, option_map, option_and_then}
use Rattle.std.specs.List.{list_all}
use Rattle.kl1_model.specs.declared.limits.TheConstants.{MOST_ACCOUNTS}
use Rattle.kl1_model.specs.Line.{before_space, behind_space}
use Rattle.kl1_model.specs.AccountName.{is_account_name}
use Rattle.kl1_model_server.specs.JournalText.{lines_of}
use Rattle.kl1_model_server.specs.Script.{are_distinct}
use Rattle.kl1_session.specs.Limits.{most_file_bytes, most_key_bytes}

-- the name of an account, and its key
pub record Entry : Type 0 where
  pub name : List ℕ
  pub key : List ℕ

-- ---- the accounts that a file names

-- bytes after the last line feed are a line, if there are any
abbrev pub last_line : List ℕ → List (List ℕ)
last_line [] = []
last_line (b ∷ bs) = (b ∷ bs) ∷ []

-- the lines of a file; the line feed of the last may be missing
abbrev pub file_lines : List ℕ → List (List ℕ)
file_lines bytes = (lines_of bytes).whole ++ last_line (lines_of bytes).rest

-- a printable byte that is no blank
abbrev pub is_key_byte : ℕ → Bool
is_key_byte b = nat_le 33 b && nat_le b 126

-- a key: 1 to 64 printable bytes without blanks
abbrev pub is_key : List ℕ → Bool
is_key w = nat_le 1 (length w) && nat_le (length w) most_key_bytes && list_all is_key_byte w

-- the entry that a line is, if it is one: the name of an account, one space and a key
abbrev pub entry_in : List ℕ → Option Entry
entry_in line = if is_account_name (before_space line) && is_key (behind_space line) then Some (record { name = before_space line; key = behind_space line }) else None

-- the entries of lines, if each line is one
abbrev pub entries_in : List (List ℕ) → Option (List Entry)
entries_in [] = Some []
entries_in (line ∷ lines) = option_and_then (λ e. option_map (λ es. e ∷ es) (entries_in lines)) (entry_in line)

-- whether entries are 1 to 32, of names that differ
abbrev pub are_fit : List Entry → Bool
are_fit es = nat_le 1 (length es) && nat_le (length es) MOST_ACCOUNTS && are_distinct (map (λ e. e.name) es)

-- entries, if they are fit
abbrev pub checked : List Entry → Option (List Entry)
checked es = if are_fit es then Some es else None

-- the accounts of a file with their keys, in the order of its lines
abbrev pub accounts_of : List ℕ → Option (List Entry)
accounts_of bytes = if nat_le (length bytes) most_file_bytes then option_and_then checked (entries_in (file_lines bytes)) else None

-- ---- whose key is right

-- the number of the account of this name, from a number on, if this is its key
abbrev pub found_from : ℕ → List Entry → List ℕ → List ℕ → Option ℕ
found_from n [] name key = None
found_from n (e ∷ es) name key = if bytes_eq e.name name then (if bytes_eq e.key key then Some n else None) else found_from (suc n) es name key

-- the number of the account of this name, from 0, if this is its key
abbrev pub found : List Entry → List ℕ → List ℕ → Option ℕ
found es name key = found_from 0 es name key
