use Rattle.kl1_tests_disk.proofs.journals.waiting.begins_anew.Given as goal

-- the connection that is new
abbrev pub ghosts-waits_for_all : goal.ghosts-waits_for_all
ghosts-waits_for_all g a = record { connection = a.connection.pen.book }
