use Rattle.kl1_goals_moves.proofs.Tops.{argument_in}
use Rattle.kl1_goals_moves.proofs.order.order_at.Goals as goal

pub returns-clause-inside : goal.returns-clause-inside
returns-clause-inside g c = record {
  goal_in = argument_in c.args.store.now.held c.args.structure 0 c.argument.result c.mark.ensures.formed c.argument.ensures;
  low_in = argument_in c.args.store.now.held c.args.structure 1 c.argument-2.result c.mark.ensures.formed c.argument-2.ensures;
  high_in = argument_in c.args.store.now.held c.args.structure 2 c.argument-3.result c.mark.ensures.formed c.argument-3.ensures;
  allowance_in = argument_in c.args.store.now.held c.args.structure 3 c.argument-4.result c.mark.ensures.formed c.argument-4.ensures;
  control_in = argument_in c.args.store.now.held c.args.structure 4 c.argument-5.result c.mark.ensures.formed c.argument-5.ensures;
  reports_in = argument_in c.args.store.now.held c.args.structure 5 c.argument-6.result c.mark.ensures.formed c.argument-6.ensures;
}
