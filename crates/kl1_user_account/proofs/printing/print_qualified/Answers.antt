use Rattle.kl1_user_account.proofs.printing.print_qualified.Goals as goal

pub print_cell-requires-clause-named : goal.print_cell-requires-clause-named
print_cell-requires-clause-named g c = λ f k a b. rw c.in-None.is at (c.requires.named f k a b)

pub print_called-requires-clause-named : goal.print_called-requires-clause-named
print_called-requires-clause-named g c = λ f k a b. rw c.in-Some.is at (c.requires.named f k a b)
