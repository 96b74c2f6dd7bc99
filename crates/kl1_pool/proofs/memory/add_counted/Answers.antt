use Rattle.std.proofs.Common.{arith}
use Rattle.kl1_pool.proofs.memory.add_counted.Goals as goal

pub returns : goal.returns
returns c = omega (arith, c.saturating_add.ensures, c.saturating_mul.ensures)
