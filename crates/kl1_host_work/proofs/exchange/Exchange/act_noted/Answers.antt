use Rattle.std.proofs.Common.{inl, inr, refl}
use Rattle.kl1_command.specs.Commands.{command_view}
use Rattle.kl1_session.specs.Conversations.{Done}
use Rattle.kl1_pool.specs.Names.{called_at}
use Rattle.kl1_host_work.proofs.Notices.{noted_after, cared}
use Rattle.kl1_host_work.proofs.exchange.Exchange.act_noted.Goals as goal

-- memory was refused
pub invariant_of-self : goal.invariant_of-self
invariant_of-self g c =
    let d : Done = record { account = c.args.account; command = command_view c.args.command.now; answer = c.act_shown-performed.result.0 } in
    inr (c.self.inside.history.done, d, c.act_shown-performed.ensures.done, inl c.in-Memory.is)

-- the leave waits for what was noted under the same lock
pub invariant_of-self-2 : goal.invariant_of-self-2
invariant_of-self-2 g c =
    let d : Done = record { account = c.args.account; command = command_view c.args.command.now; answer = c.act_shown-performed.result.0 } in
    let call = c.act_shown-performed in
    let after = noted_after g.K.PoolIds.rules (called_at g.C.Names.names c.args.account) d call.result.1 call.new.reader.outgoing c.if_held-leave.result c.if_held-leave.ensures call.ensures.shown in
    inr (c.self.inside.history.done, d, call.ensures.done, cared g.K.PoolIds.rules g.C.Names.names c.self.inside.replies_wait call.new.self.done d call.new.self c.if_held-leave.result c.noted.result.waiting c.noted.ensures after refl)
