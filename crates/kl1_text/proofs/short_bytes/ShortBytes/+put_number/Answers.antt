use Rattle.std.proofs.Common.{arith}
use Rattle.std.proofs.lemmas.Grind.{common_steps}
use Rattle.kl1_text.proofs.Words.{bytes_in_none, bytes_in_zero, bytes_in_step}
use Rattle.kl1_text.proofs.short_bytes.ShortBytes.+put_number.Goals as goal

pub returns-then-count-eq0-clause-value : goal.returns-then-count-eq0-clause-value
returns-then-count-eq0-clause-value t c = grind (arith, common_steps, bytes_in_none, bytes_in_zero)

pub returns-clause-value : goal.returns-clause-value
returns-clause-value t c = grind (arith, common_steps, bytes_in_step c.args.count c.args.number)
