use Rattle.std.proofs.Common.{◌≡◌, ◌+◌, take, get_or, arith, rules, ap, ◌∙◌}
use Rattle.std.proofs.lemmas.List.{take_more}
use Rattle.kl1_clause.specs.declared.instruction.Instruction.TheVariants.{Variable}
use Rattle.kl1_match.specs.Rooms.{arguments_in}
use Rattle.kl1_match.proofs.Rooms.{arguments_push}
use Rattle.kl1_match.proofs.goal_cells.arguments_in.Goals as goal

pub loop-instruction-preserved : goal.loop-instruction-preserved
loop-instruction-preserved c =
    let row = c.args.row.now in
    let k = c.loop-instruction.instruction-index in
    let d = Variable 0 in
    let sum : c.in_ok-count.count ≡ c.loop-instruction.count + c.arguments_of.result = search rules in
    let next = ap arguments_in (take_more row k d c.loop-instruction-test.true) ∙ arguments_push (take k row) (get_or row k d) in
    omega (arith, sum, next, c.arguments_of.ensures, c.loop-instruction.invariant)
