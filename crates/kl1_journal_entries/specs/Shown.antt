-- What an entry that is lent means.
use Rattle.std.specs.Prelude.{◌≡◌}
use Rattle.kl1_model.specs.Print.{print}
use Rattle.kl1_model_server.specs.Journal as model
use Rattle.kl1_journal_entries.specs.declared.entry.Entry.{Entry}
use Rattle.kl1_journal_entries.specs.declared.entry.Entry.TheVariants as entry
use Rattle.kl1_journal_entries.specs.Slots.{goal_in, answer_in}

-- the entry that this one is
abbrev pub entry_shown : Entry → model.Entry
entry_shown (entry.Load source) = model.loads source.now
entry_shown (entry.Start allowance low high goal) = model.starts allowance low high (goal_in goal.now)
entry_shown (entry.Control n m) = model.sends n.0 m
entry_shown (entry.Reduce goal clause) = model.steps goal.0 clause.0
entry_shown (entry.Run n) = model.runs n
entry_shown (entry.Answer n report goal told) = model.answers n.0 report (answer_in told goal.now)
entry_shown (entry.Forget n count) = model.forgets n.0 count

-- the text that a start and an answer have is the print of their goal
abbrev pub HasPrint : Entry → Type 0
HasPrint (entry.Load source) = Unit {0}
HasPrint (entry.Start allowance low high goal) = print (goal_in goal.now) ≡ goal.now
HasPrint (entry.Control n m) = Unit {0}
HasPrint (entry.Reduce goal clause) = Unit {0}
HasPrint (entry.Run n) = Unit {0}
HasPrint (entry.Answer n report goal told) = print (answer_in told goal.now) ≡ goal.now
HasPrint (entry.Forget n count) = Unit {0}
