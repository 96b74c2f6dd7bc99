use Rattle.kl1_user_account.proofs.Awaiting.{goal_awaits}
use Rattle.kl1_user_account.proofs.viewing.awaiting.await_as_goal.Goals as goal

pub returns : goal.returns
returns g c =
    goal_awaits c.args.modules.now c.args.store.now.held c.args.cell c.kind_of_qualified-kind.result c.predicate_of-located.result.predicate c.standing_of.new.trial.awaited.items c.in_ok-_standing._standing
    c.kind_of_qualified-kind.ensures.kind c.predicate_of-located.ensures.has (rw c.rules-rules.ensures at c.in_ok-_standing.ensures.standing)
