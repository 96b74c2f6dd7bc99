use Rattle.kl1_user_account.proofs.viewing.texts.print_task.Goals as goal

pub print_qualified-requires-clause-named : goal.print_qualified-requires-clause-named
print_qualified-requires-clause-named g c = λ f k a b.
    let same = rw c.in-Reduces.is at (c.requires.named f k a b) in
    cc

pub print_cell-requires-clause-named : goal.print_cell-requires-clause-named
print_cell-requires-clause-named g c = λ f k a b.
    let same = rw c.in-Substitutes.is at (c.requires.named f k a b) in
    cc
