use Rattle.std.proofs.Common.{◌∙◌, ap, inr}
use Rattle.kl1_command.specs.Commands.{command_view}
use Rattle.kl1_session.specs.Conversations.{Done}
use Rattle.kl1_host_work.specs.Notices.{ExchangeValue, tells_nothing}
use Rattle.kl1_host_work.proofs.exchange.Exchange.act.Goals as goal

-- nothing is told that is to be on disk
pub invariant_of-self : goal.invariant_of-self
invariant_of-self g c =
    let d : Done = record { account = c.args.account; command = command_view c.args.command.now; answer = c.act_shown-performed.result.0 } in
    inr (c.self.inside.history.done, d, c.act_shown-performed.ensures.done, inr (ap (λ (v : ExchangeValue). tells_nothing d.command v.replies_wait) c.self.view_is ∙ c.requires.nothing))
