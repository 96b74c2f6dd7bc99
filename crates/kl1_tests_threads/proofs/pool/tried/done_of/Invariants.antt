use Rattle.kl1_tests_threads.proofs.pool.tried.done_of.Given as goal

abbrev pub ghosts-done-K-PoolIds : goal.ghosts-done-K-PoolIds
ghosts-done-K-PoolIds g a = record { table = a.parts.table; seats = a.parts.seats; codes = a.parts.codes; rules = a.parts.rules; most_bytes = a.parts.most_bytes }

abbrev pub ghosts-done-K-Names : goal.ghosts-done-K-Names
ghosts-done-K-Names g a = record { names = a.parts.names }

abbrev pub ghosts-done-K-TicketIds : goal.ghosts-done-K-TicketIds
ghosts-done-K-TicketIds g a = record { tally = a.parts.tally; queue = a.parts.queue; accounts = a.parts.accounts; shares = a.parts.shares }

abbrev pub ghosts-done-K-ShownIds : goal.ghosts-done-K-ShownIds
ghosts-done-K-ShownIds g a = record { histories = a.parts.histories }
