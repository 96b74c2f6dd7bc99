use Rattle.std.specs.Prelude.{List, [], ◌∷◌}
use Rattle.kl1_host_journals.specs.FreshHistories.{books_of}
use Rattle.kl1_tests_disk.proofs.journals.failing.told_of.Given as goal

-- every account has the histories that are at hand
abbrev pub ghosts-told_by-J-Naming : goal.ghosts-told_by-J-Naming
ghosts-told_by-J-Naming g a = record { books = λ account. books_of a.start.fresh }

abbrev pub ghosts-told_by-J-ShownIds : goal.ghosts-told_by-J-ShownIds
ghosts-told_by-J-ShownIds g a = record { histories = a.start.shown.history ∷ [] }
