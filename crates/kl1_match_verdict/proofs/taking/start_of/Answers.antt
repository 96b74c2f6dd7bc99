use Rattle.std.proofs.Common.{arith}
use Rattle.kl1_match_verdict.proofs.Candidates.{run_begins}
use Rattle.kl1_match_verdict.proofs.taking.start_of.Goals as goal

pub loop-start-init : goal.loop-start-init
loop-start-init c = record { below = omega arith; run = run_begins c.args.clauses.now c.args.place }
