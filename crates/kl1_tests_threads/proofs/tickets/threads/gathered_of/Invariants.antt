use Rattle.kl1_tests_threads.proofs.tickets.threads.gathered_of.Given as goal

abbrev pub ghosts-gathered : goal.ghosts-gathered
ghosts-gathered g a = record { tally = a.parts.tally; queue = a.parts.queue; accounts = a.parts.accounts; shares = a.parts.shares }
