use Rattle.std.proofs.Common.{inl, inr}
use Rattle.kl1_command.specs.Commands.{command_view}
use Rattle.kl1_session.specs.Conversations.{Done}
use Rattle.kl1_host_work.proofs.exchange.Exchange.refuse.Goals as goal

-- memory was refused
pub invariant_of-self : goal.invariant_of-self
invariant_of-self g c =
    let d : Done = record { account = c.args.account; command = command_view c.args.command.now; answer = c.refuse-performed.result } in
    inr (c.self.inside.history.done, d, c.refuse-performed.ensures.done, inl c.refuse-performed.ensures.refused)
