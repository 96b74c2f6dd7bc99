use Rattle.std.proofs.Common.{rules}
use Rattle.kl1_host.proofs.run.serve.Goals as goal

-- the marker of the book lives as long as the program
pub run_host-requires-lives-F-Front-2 : goal.run_host-requires-lives-F-Front-2
run_host-requires-lives-F-Front-2 g c κs within = let static = c.type_bounds.static-K in search (rules, static)
