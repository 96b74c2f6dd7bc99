use Rattle.std.proofs.Common.{◌≡◌, ◌-◌, ◌≤◌, [], length, true}
use Rattle.kl1_model_server.specs.laws.TextLaws.{are_new_names}
use Rattle.kl1_journal_entries.specs.Reading.{read_after}
use Rattle.kl1_journal_entries.proofs.reader.read_names.Given as goal

-- the journal is that of the names so far with what is left, and they may follow one another and are at most as many as there are
abbrev pub invariant-loop-rest : goal.invariant-loop-rest
invariant-loop-rest l =
    (read_after l.heading.rules l.heading.sessions l.names.items (l.heading.names - length l.names.items) l.rest ≡ read_after l.heading.rules l.heading.sessions [] l.heading.names l.text)
    × (are_new_names [] l.names.items ≡ true) × (length l.names.items ≤ l.heading.names)

abbrev pub decreases-loop-rest : goal.decreases-loop-rest
decreases-loop-rest l = l.heading.names - length l.names.items
