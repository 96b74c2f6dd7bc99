use Rattle.std.specs.Prelude.{List, [], ◌∷◌}
use Rattle.kl1_host_journals.specs.FreshHistories.{books_of}
use Rattle.kl1_tests_disk.proofs.journals.waiting.reply_waits_for_its_lines.Given as goal

-- every account has the histories that are at hand
abbrev pub ghosts-waits_for_its_lines-J-Naming : goal.ghosts-waits_for_its_lines-J-Naming
ghosts-waits_for_its_lines-J-Naming g a = record { books = λ account. books_of a.start.fresh }

abbrev pub ghosts-waits_for_its_lines-J-ShownIds : goal.ghosts-waits_for_its_lines-J-ShownIds
ghosts-waits_for_its_lines-J-ShownIds g a = record { histories = a.start.shown.history ∷ [] }
