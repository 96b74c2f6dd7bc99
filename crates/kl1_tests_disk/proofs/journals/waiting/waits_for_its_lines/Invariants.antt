use Rattle.kl1_tests_disk.proofs.journals.waiting.waits_for_its_lines.Given as goal

-- the connection that is new
abbrev pub ghosts-first_waits : goal.ghosts-first_waits
ghosts-first_waits g a = record { connection = a.connection.pen.book }

-- the connection that is new
abbrev pub ghosts-waits_for_all : goal.ghosts-waits_for_all
ghosts-waits_for_all g a = record { connection = a.connection.pen.book }
