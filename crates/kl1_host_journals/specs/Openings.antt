-- With which journal an account begins, by what its file holds.
use Rattle.std.specs.Prelude.{◌≡◌, ◌⊎◌, ℕ, Bool, true, List, [], Option, Some, None}
use Rattle.kl1_model.specs.declared.rules.Rules.{Rules}
use Rattle.kl1_model_server.specs.Journal.{Journal, new_journal}
use Rattle.kl1_log.specs.Cuts.{file_lines, recovered, opening_of, IsFault}

-- a file without bytes begins an account in which nothing has happened
abbrev pub IsFresh : List ℕ → Rules → Journal → Type 0
IsFresh text rules j = (text ≡ []) × (j ≡ new_journal rules [] 0)

-- the fault of line `line` is repaired: the account begins with the journal of the lines before it
abbrev pub IsRepaired : List ℕ → Rules → ℕ → Journal → Type 0
IsRepaired text rules line j = IsFault text line j ⊎ ((opening_of (file_lines text) ≡ None) × (line ≡ 1) × (j ≡ new_journal rules [] 0))

-- an account begins with this journal, by this text of its file: that of the whole lines; or, if there are no bytes, an empty one; or, if
-- that is asked for, that of the lines before a fault
abbrev pub IsOpened : List ℕ → Rules → Bool → Journal → Option ℕ → Type 0
IsOpened text rules repair j None = (recovered text ≡ Some j) ⊎ IsFresh text rules j
IsOpened text rules repair j (Some line) = (repair ≡ true) × IsRepaired text rules line j
