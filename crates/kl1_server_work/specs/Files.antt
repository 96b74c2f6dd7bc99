-- What the file of accounts is, if its bytes are known.
use Rattle.std.specs.Prelude.{◌≡◌, ℕ, List, ⊤, None, Some}
use Rattle.std.specs.declared.option.Option.{Option}
use Rattle.kl1_session.specs.Files.{Entry, accounts_of}

-- bytes name these accounts, if they are known
abbrev pub NamesAccounts : Option (List ℕ) → List Entry → Type 0
NamesAccounts None es = ⊤
NamesAccounts (Some bytes) es = accounts_of bytes ≡ Some es

-- bytes are no file of accounts, if they are known
abbrev pub NamesNone : Option (List ℕ) → Type 0
NamesNone None = ⊤
NamesNone (Some bytes) = accounts_of bytes ≡ None
