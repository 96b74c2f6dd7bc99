use Rattle.std.proofs.Common.{ap, sym, ◌∙◌}
use Rattle.std.specs.Option.{option_to_list}
use Rattle.kl1_goals.specs.declared.tally.Tally.{Tally}
use Rattle.kl1_goals.proofs.goal_table.GoalTable.monitor.Goals as goal

pub returns : goal.returns
returns g c = rw (← c.self.view_is) ((c.self.invariant.now.tallied c.args.shoen).monitor ∙ ap (λ (t : Tally). option_to_list t.monitor) (sym c.tally_of.ensures))
