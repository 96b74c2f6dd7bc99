use Rattle.std.proofs.Common.{◌≡◌, ◌++◌, length, option_map}
use Rattle.kl1_session.specs.Files.{entries_in, file_lines}
use Rattle.kl1_session.specs.Views.{entries_view}
use Rattle.kl1_session.proofs.file.read_lines.Given as goal

-- the entries that were read and those of what is left are those of all
abbrev pub invariant-loop-rest : goal.invariant-loop-rest
invariant-loop-rest l = option_map (λ es. entries_view l.keys.items ++ es) (entries_in (file_lines l.rest)) ≡ entries_in (file_lines l.bytes)

abbrev pub decreases-loop-rest : goal.decreases-loop-rest
decreases-loop-rest l = length l.rest
