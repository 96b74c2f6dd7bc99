-- What the reader makes of a source whose front may be given up.
use Rattle.std.specs.Prelude.{◌≡◌, ℕ, IsTrue, List, Option, Some, None}
use Rattle.kl1_model.specs.Module.{bad, read_module}
use Rattle.kl1_reasons.specs.Reasons.{is_good}

-- the line of a text's first bad item, if it is no module
abbrev pub IsLineRefused : List ℕ → Option ℕ → Type 0
IsLineRefused text None = IsTrue (is_good (read_module text))
IsLineRefused text (Some line) = read_module text ≡ bad line
