use Rattle.std.proofs.Common.{◌≡◌, length}
use Rattle.kl1_journal_entries.specs.Reading.{read_text}
use Rattle.kl1_journal_entries.proofs.reader.read_entries.Given as goal

-- the journal is that of the entries so far with what is left
abbrev pub invariant-loop-line : goal.invariant-loop-line
invariant-loop-line l = read_text l.journal.journal l.rest ≡ read_text l.fn.journal.journal l.text

abbrev pub decreases-loop-line : goal.decreases-loop-line
decreases-loop-line l = length l.rest
