use Rattle.std.proofs.Common.{◌∙◌}
use Rattle.kl1_clause.proofs.GoalCodes.{names_as}
use Rattle.kl1_clause.proofs.goal_code.GoalCode.names.Goals as goal

pub returns-clause-value : goal.returns-clause-value
returns-clause-value c = c.texts.ensures.value ∙ names_as c.self.inside c.args.self.now c.self.invariant c.self.view_is
