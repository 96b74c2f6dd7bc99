-- What is told of a file that isn't opened.
use Rattle.std.specs.Prelude.{⊤, ◌≡◌, ◌⊎◌, ℕ, List, None}
use Rattle.kl1_model_server.specs.Journal.{Journal}
use Rattle.kl1_log.specs.Cuts.{file_lines, opening_of, IsFault}
use Rattle.kl1_host_journals.specs.declared.opening.OpenFault.{OpenFault}
use Rattle.kl1_host_journals.specs.declared.opening.OpenFault.TheVariants.{Line, Failed}

-- the line that is told is at fault, after the lines of a journal; or it is the first, and the heading or a name is at fault
abbrev pub IsToldOf : List ℕ → OpenFault → Type 0
IsToldOf text (Line line) = ((before : Journal) × IsFault text line before) ⊎ ((opening_of (file_lines text) ≡ None) × (line ≡ 1))
IsToldOf text (Failed error) = ⊤

-- this line is told, if one is
abbrev pub IsToldAt : ℕ → OpenFault → Type 0
IsToldAt line (Line n) = n ≡ line
IsToldAt line (Failed error) = ⊤
