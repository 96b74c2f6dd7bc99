use Rattle.std.proofs.Common.{arith}
use Rattle.std.proofs.lemmas.Grind.{common_steps}
use Rattle.kl1_lines.proofs.Cuts.{before_space_taken, behind_space_dropped}
use Rattle.kl1_lines.proofs.lines.split_name.Goals as goal

pub returns-clause-name : goal.returns-clause-name
returns-clause-name c =
    let cut = before_space_taken c.args.line.now in
    grind (arith, common_steps)

pub returns-clause-behind : goal.returns-clause-behind
returns-clause-behind c =
    let cut = behind_space_dropped c.args.line.now in
    grind (arith, common_steps)
