use Rattle.std.proofs.Common.{◌≡◌, ◌++◌, length, map}
use Rattle.serde_json.specs.View.{view}
use Rattle.kl1_model_server.specs.JournalText.{lines_of}
use Rattle.kl1_host_web.specs.Telling.{text_data}
use Rattle.kl1_host_web.proofs.json.lines_value.Given as goal

-- the lines so far are values, and the others are in what is left
abbrev pub invariant-lines : goal.invariant-lines
invariant-lines l = map view l.lines.items ++ map text_data (lines_of l.rest).whole ≡ map text_data (lines_of l.text).whole

abbrev pub decreases-lines : goal.decreases-lines
decreases-lines l = length l.rest
