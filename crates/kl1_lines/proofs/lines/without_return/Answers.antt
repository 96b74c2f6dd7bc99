use Rattle.std.proofs.Common.{arith}
use Rattle.std.proofs.lemmas.Grind.{common_steps}
use Rattle.kl1_lines.proofs.Cuts.{with_return, without_one}
use Rattle.kl1_lines.proofs.lines.without_return.Goals as goal

pub returns-then-line-last-eq13 : goal.returns-then-line-last-eq13
returns-then-line-last-eq13 c =
    let cut = with_return c.args.line.now (grind arith) c.if-line-last-eq13.true in
    grind (arith, common_steps)

pub returns-else-line-last-eq13 : goal.returns-else-line-last-eq13
returns-else-line-last-eq13 c = without_one c.args.line.now (grind arith) c.if-line-last-eq13.false
