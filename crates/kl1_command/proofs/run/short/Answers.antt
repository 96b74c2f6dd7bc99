use Rattle.std.proofs.Common.{arith}
use Rattle.kl1_command.proofs.Runs.{run_none, run_short}
use Rattle.kl1_command.proofs.run.short.Goals as goal

pub returns-then-done-eq0-clause-does : goal.returns-then-done-eq0-clause-does
returns-then-done-eq0-clause-does c = λ s after most h less. run_none s after c.args.done most (omega arith) h

pub returns-else-done-eq0-clause-does : goal.returns-else-done-eq0-clause-does
returns-else-done-eq0-clause-does c = λ s after most h less. run_short s after c.args.done most (omega arith) h less
