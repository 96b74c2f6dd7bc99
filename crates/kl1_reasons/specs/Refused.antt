-- Which sources are refused.
use Rattle.std.specs.Prelude.{ℕ, nat_le, not, ◌&&◌, Bool, List, length}
use Rattle.kl1_model.specs.declared.limits.TheConstants.{MOST_SOURCE_BYTES}
use Rattle.kl1_model.specs.Module.{read_module}
use Rattle.kl1_reasons.specs.Reasons.{is_good}

-- whether a source is refused: it has too many bytes, or it is no module
abbrev pub is_refused : List ℕ → Bool
is_refused text = not (nat_le (length text) MOST_SOURCE_BYTES && is_good (read_module text))
