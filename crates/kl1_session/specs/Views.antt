-- Keys of accounts as entries, and lines in bytes.
use Rattle.std.specs.Prelude.{◌≡◌, ◌<◌, ℕ, List, ◌∷◌, length, map}
use Rattle.kl1_session.specs.Files.{Entry, file_lines}
use Rattle.kl1_session.specs.declared.key.Key.{Key}

-- the entry that this one is
abbrev pub entry_view : Key → Entry
entry_view k = record { name = k.name.items; key = k.key.items }

-- the entries that these are
abbrev pub entries_view : List Key → List Entry
entries_view ks = map entry_view ks

-- the first line of a text that isn't empty, and what is after it, which is shorter
pub record FirstLine (text line after : List ℕ) : Type 0 where
  pub lines : 0 < length text → file_lines text ≡ line ∷ file_lines after
  pub less : 0 < length text → length after < length text
