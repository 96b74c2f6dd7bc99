use Rattle.std.proofs.Common.{◌≡◌, ◌-◌, take, drop}
use Rattle.kl1_model_server.specs.JournalText.{journal_lines}
use Rattle.kl1_journal_entries.proofs.journal.Journal.page.Given as goal

-- the lines so far are those from the first up to this place
abbrev pub invariant-loop-place : goal.invariant-loop-place
invariant-loop-place l = l.lines ≡ take (l.place - l.first) (drop l.first (journal_lines l.self.journal))
