use Rattle.std.proofs.lemmas.Result.{on_ok_weaker}
use Rattle.std.proofs.Common.{◌∙◌}
use Rattle.kl1_match.proofs.GoalCells.{variables_put}
use Rattle.kl1_match.proofs.goal_cells.put_goal_variables.Goals as goal

pub returns-clause-variables : goal.returns-clause-variables
returns-clause-variables g c =
    on_ok_weaker c.put_fresh.result (λ e.
    variables_put c.args.store.now.held c.put_fresh.new.store.held c.args.count c.of.result c.reserve.new.self.items c.push_reserved.new.self.items c.put_fresh.new.cells.items
    c.mark.ensures.formed c.requires.some (c.in_ok-reserve.ensures.items ∙ c.clear.ensures.items) c.push_reserved.ensures.items e.0 e.1) c.put_fresh.ensures.put
