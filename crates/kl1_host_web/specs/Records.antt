-- What was asked of accounts, as a list that only contracts see has it.
use Rattle.std.specs.Prelude.{List, map}
use Rattle.kl1_command.specs.Commands.{command_view}
use Rattle.kl1_host_web.specs.Asking.{Asked, did, looked, changed, let_in}
use Rattle.kl1_host_web.specs.declared.asked_record.Note.{Note}
use Rattle.kl1_host_web.specs.declared.asked_record.Note.TheVariants as note
use Rattle.kl1_host_web.specs.declared.asked_record.AskedRecord.{AskedRecord}

-- what this note says
abbrev pub note_view : Note → Asked
note_view (note.Did account command performed) = did account.value (command_view command.value) performed.value
note_view (note.Looked account) = looked account.value
note_view (note.Changed step sessions) = changed step.value sessions.value.items
note_view note.LetIn = let_in

-- what was asked, in order
abbrev pub asked_in : AskedRecord → List Asked
asked_in r = map note_view r.seen.log
