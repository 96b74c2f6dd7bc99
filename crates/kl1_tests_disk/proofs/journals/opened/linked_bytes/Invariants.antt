use Rattle.std.specs.Prelude.{List, [], ◌∷◌}
use Rattle.kl1_host_journals.specs.FreshHistories.{books_of}
use Rattle.kl1_tests_disk.proofs.journals.opened.linked_bytes.Given as goal

-- every account has the histories that are at hand
abbrev pub ghosts-linked_as-J-Naming : goal.ghosts-linked_as-J-Naming
ghosts-linked_as-J-Naming a = record { books = λ account. books_of a.start.fresh }

abbrev pub ghosts-linked_as-J-ShownIds : goal.ghosts-linked_as-J-ShownIds
ghosts-linked_as-J-ShownIds a = record { histories = let h = a.start.shown.history in h ∷ h ∷ h ∷ h ∷ [] }
