use Rattle.kl1_host_work.proofs.last_note.note_last.Given as goal

abbrev pub ghosts-has_noted : goal.ghosts-has_noted
ghosts-has_noted g a = record { connection = a.connection.pen.book }
