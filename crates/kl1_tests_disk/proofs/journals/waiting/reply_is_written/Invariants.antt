use Rattle.kl1_tests_disk.proofs.journals.waiting.reply_is_written.Given as goal

-- the connection that is new
abbrev pub ghosts-write_reply : goal.ghosts-write_reply
ghosts-write_reply g a = record { connection = a.connection.pen.book }
