use Rattle.kl1_tests_threads.proofs.server.memory.is_same_of.Given as goal

abbrev pub ghosts-is_same_by-K-PoolIds : goal.ghosts-is_same_by-K-PoolIds
ghosts-is_same_by-K-PoolIds g a = record { table = a.parts.table; seats = a.parts.seats; codes = a.parts.codes; rules = a.parts.rules; most_bytes = a.parts.most_bytes }

abbrev pub ghosts-is_same_by-K-Names : goal.ghosts-is_same_by-K-Names
ghosts-is_same_by-K-Names g a = record { names = a.parts.names }

abbrev pub ghosts-is_same_by-K-TicketIds : goal.ghosts-is_same_by-K-TicketIds
ghosts-is_same_by-K-TicketIds g a = record { tally = a.parts.tally; queue = a.parts.queue; accounts = a.parts.accounts; shares = a.parts.shares }

abbrev pub ghosts-is_same_by-K-ShownIds : goal.ghosts-is_same_by-K-ShownIds
ghosts-is_same_by-K-ShownIds g a = record { histories = a.parts.histories }
