-- What is kept of a journal that is repaired.
use Rattle.std.specs.Prelude.{ℕ, ◌-◌, List, take}
use Rattle.kl1_model_server.specs.Command.{written_lines}
use Rattle.kl1_log.specs.Cuts.{whole_lines}

-- the whole lines of a text that are before this line, the first being 1
abbrev pub lines_before : List ℕ → ℕ → List ℕ
lines_before text line = written_lines (take (line - 1) (whole_lines text))
