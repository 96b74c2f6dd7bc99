use Rattle.std.specs.Prelude.{List, [], ◌∷◌}
use Rattle.kl1_host_journals.specs.FreshHistories.{books_of}
use Rattle.kl1_tests_disk.proofs.journals.waiting.reset_begins_the_file_anew.Given as goal

-- every account has the histories that are at hand
abbrev pub ghosts-begins_anew-J-Naming : goal.ghosts-begins_anew-J-Naming
ghosts-begins_anew-J-Naming g a = record { books = λ account. books_of a.start.fresh }

abbrev pub ghosts-begins_anew-J-ShownIds : goal.ghosts-begins_anew-J-ShownIds
ghosts-begins_anew-J-ShownIds g a = record { histories = a.start.shown.history ∷ [] }
