use Rattle.kl1_tests_disk.proofs.journals.failing.told_by.Given as goal

-- the connection that is new
abbrev pub ghosts-is_told : goal.ghosts-is_told
ghosts-is_told g a = record { connection = a.connection.pen.book }
