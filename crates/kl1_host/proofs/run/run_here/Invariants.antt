use Rattle.std.proofs.Common.{true}
use Rattle.kl1_host.proofs.run.run_here.Given as goal

-- the book of the sessions of browsers begins here
abbrev pub ghosts-run_opened : goal.ghosts-run_opened
ghosts-run_opened g a = record { begins = true }
