use Rattle.kl1_server_work.proofs.server.totals_of.Given as goal

abbrev pub ghosts-totals-K-PoolIds : goal.ghosts-totals-K-PoolIds
ghosts-totals-K-PoolIds g a = record { table = a.parts.table; seats = a.parts.seats; codes = a.parts.codes; rules = a.parts.rules; most_bytes = a.parts.most_bytes }

abbrev pub ghosts-totals-K-Names : goal.ghosts-totals-K-Names
ghosts-totals-K-Names g a = record { names = a.parts.names }

abbrev pub ghosts-totals-K-TicketIds : goal.ghosts-totals-K-TicketIds
ghosts-totals-K-TicketIds g a = record { tally = a.parts.tally; queue = a.parts.queue; accounts = a.parts.accounts; shares = a.parts.shares }

abbrev pub ghosts-totals-K-ShownIds : goal.ghosts-totals-K-ShownIds
ghosts-totals-K-ShownIds g a = record { histories = a.parts.histories }
