-- How the lines of replies are written.
use Rattle.std.specs.Prelude.{ℕ, List, [], ◌++◌, codes, Option, Some, None}
use Rattle.kl1_model_server.specs.Command.{written_lines}
use Rattle.kl1_model_server.specs.Script.{written_reply}

-- the lines of a reply as they are written, each after a word if one is given
abbrev pub written_after : Option (List ℕ) → List (List ℕ) → List ℕ
written_after None lines = written_lines lines
written_after (Some word) lines = written_reply word lines

-- what stands before each line: nothing, or a word and a space
abbrev pub front_of : Option (List ℕ) → List ℕ
front_of None = []
front_of (Some word) = word ++ codes " "
