use Rattle.std.proofs.Common.{refl, codes}
use Rattle.kl1_model.specs.Event as event
use Rattle.kl1_model_server.specs.Command.{reply_lines, written_line, written_lines}
use Rattle.kl1_user_events.specs.Views.{refusal_of}
use Rattle.kl1_session.specs.Asking.{input_view}
use Rattle.kl1_session.specs.Doors.{action_of, refuse, refuse_login}
use Rattle.kl1_session.specs.declared.connection.ConnectionState.{ConnectionState}
use Rattle.kl1_session.proofs.Conversations.{refuses}
use Rattle.kl1_session.proofs.connection.answer.Goals as goal

pub returns-in-Refuse-clause-takes : goal.returns-in-Refuse-clause-takes
returns-in-Refuse-clause-takes g c =
    let s : ConnectionState = c.args.state.now in
    let t : ConnectionState = record { account = s.account; replies = c.put_reply.new.out } in
    refuses s t (refuse (refusal_of c.in-Refuse.refusal)) (action_of (g.K.Door.opens c.args.door.now) s.account (input_view c.args.input.now)) (written_lines (reply_lines (event.refused (refusal_of c.in-Refuse.refusal)))) (g.D.CommandHandler.done c.args.handler.now) c.put_reply.result c.told_as.result c.in-Refuse.ensures.value refl refl c.put_reply.ensures.ok c.put_reply.ensures.err c.told_as.ensures.ok c.told_as.ensures.err

pub returns-in-RefuseLogin-clause-takes : goal.returns-in-RefuseLogin-clause-takes
returns-in-RefuseLogin-clause-takes g c =
    let s : ConnectionState = c.args.state.now in
    let t : ConnectionState = record { account = s.account; replies = c.put_login_refused.new.out } in
    refuses s t refuse_login (action_of (g.K.Door.opens c.args.door.now) s.account (input_view c.args.input.now)) (written_line (codes "- 11 login")) (g.D.CommandHandler.done c.args.handler.now) c.put_login_refused.result c.told_as-in-RefuseLogin.result c.in-RefuseLogin.ensures.value refl refl c.put_login_refused.ensures.ok c.put_login_refused.ensures.err c.told_as-in-RefuseLogin.ensures.ok c.told_as-in-RefuseLogin.ensures.err
