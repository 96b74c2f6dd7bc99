use Rattle.kl1_host_work.specs.OwnHistories.{books_at}
use Rattle.kl1_host_work.proofs.starting.run_brand.Given as goal

abbrev pub ghosts-run_parts-K-PoolIds : goal.ghosts-run_parts-K-PoolIds
ghosts-run_parts-K-PoolIds g a = record { table = a.parts.table; seats = a.parts.seats; codes = a.parts.codes; rules = a.parts.rules; most_bytes = a.parts.most_bytes }

abbrev pub ghosts-run_parts-K-Names : goal.ghosts-run_parts-K-Names
ghosts-run_parts-K-Names g a = record { names = a.parts.names }

abbrev pub ghosts-run_parts-K-TicketIds : goal.ghosts-run_parts-K-TicketIds
ghosts-run_parts-K-TicketIds g a = record { tally = a.parts.tally; queue = a.parts.queue; accounts = a.parts.accounts; shares = a.parts.shares }

abbrev pub ghosts-run_parts-K-ShownIds : goal.ghosts-run_parts-K-ShownIds
ghosts-run_parts-K-ShownIds g a = record { histories = a.parts.histories }

abbrev pub ghosts-run_parts-K-Naming : goal.ghosts-run_parts-K-Naming
ghosts-run_parts-K-Naming g a = record { books = books_at a.histories.items }
