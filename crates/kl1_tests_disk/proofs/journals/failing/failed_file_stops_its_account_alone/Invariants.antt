use Rattle.std.specs.Prelude.{◌==◌, if◌then◌else◌, List, [], ◌∷◌}
use Rattle.kl1_host_journals.specs.FreshHistories.{books_of}
use Rattle.kl1_tests_disk.proofs.journals.failing.failed_file_stops_its_account_alone.Given as goal

-- the first account has the one history, and the others have the other one
abbrev pub ghosts-failed_stops_alone-J-Naming : goal.ghosts-failed_stops_alone-J-Naming
ghosts-failed_stops_alone-J-Naming g a = record { books = λ account. if account == 0 then books_of a.start.fresh else books_of a.other_start.fresh }

abbrev pub ghosts-failed_stops_alone-J-ShownIds : goal.ghosts-failed_stops_alone-J-ShownIds
ghosts-failed_stops_alone-J-ShownIds g a = record { histories = a.start.shown.history ∷ a.other_start.shown.history ∷ [] }

-- each connection has its own leave
abbrev pub ghosts-failed_stops_alone-A-Connecting : goal.ghosts-failed_stops_alone-A-Connecting
ghosts-failed_stops_alone-A-Connecting g a = record { connection = a.connection.pen.book }

abbrev pub ghosts-failed_stops_alone-B-Connecting : goal.ghosts-failed_stops_alone-B-Connecting
ghosts-failed_stops_alone-B-Connecting g a = record { connection = a.other_connection.pen.book }
