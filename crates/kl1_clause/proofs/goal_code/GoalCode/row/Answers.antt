use Rattle.kl1_clause.proofs.GoalCodes.{row_as}
use Rattle.kl1_clause.proofs.goal_code.GoalCode.row.Goals as goal

pub returns : goal.returns
returns c = row_as c.self.inside c.args.self.now c.as_slice.result.now c.self.invariant c.self.view_is c.as_slice.ensures.value
