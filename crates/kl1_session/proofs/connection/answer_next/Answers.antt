use Rattle.std.proofs.Common.{false, Ok, refl, ap, sym, ◌∙◌}
use Rattle.kl1_session.specs.Asking.{input_view}
use Rattle.kl1_session.specs.Connections.{Standing, standing}
use Rattle.kl1_session.specs.declared.connection.ConnectionState.{ConnectionState}
use Rattle.kl1_session.proofs.Conversations.{fault_before, next_on, next_bye, next_fault, sent_front, on_ok, on_err}
use Rattle.kl1_session.proofs.connection.answer_next.Goals as goal

pub returns-then-is_err-clause-talk : goal.returns-then-is_err-clause-talk
returns-then-is_err-clause-talk g c =
    let s : Standing = standing (g.T.Sink.contents c.args.sink.now) (g.D.CommandHandler.done c.args.handler.now) c.args.state.now in
    let m : ConnectionState = record { account = c.args.state.now.account; replies = c.send_before.new.replies } in
    let u : Standing = standing (g.T.Sink.contents c.send_before.new.sink) (g.D.CommandHandler.done c.args.handler.now) m in
    fault_before (g.K.Door.opens c.args.door.now) (input_view c.args.input.now) s u (on_err c.send_before.result (sym c.if-is_err.true ∙ c.is_err.ensures.value) c.send_before.ensures.front) refl refl

pub returns-in-Ok-true-clause-talk : goal.returns-in-Ok-true-clause-talk
returns-in-Ok-true-clause-talk g c =
    let s : Standing = standing (g.T.Sink.contents c.args.sink.now) (g.D.CommandHandler.done c.args.handler.now) c.args.state.now in
    let m : ConnectionState = record { account = c.args.state.now.account; replies = c.send_before.new.replies } in
    let u : Standing = standing (g.T.Sink.contents c.send_before.new.sink) (g.D.CommandHandler.done c.answer.new.handler) c.answer.new.state in
    next_bye (g.K.Door.opens c.args.door.now) (input_view c.args.input.now) s u m c.answer.new.state c.answer.result (c.in-Ok-true.is ∙ ap Ok c.in-Ok-true.field-0-test) refl (on_ok c.send_before.result (sym c.if-is_err.false ∙ c.is_err.ensures.value) c.send_before.ensures.sent) c.answer.ensures.takes refl refl

pub returns-in-Ok-clause-talk : goal.returns-in-Ok-clause-talk
returns-in-Ok-clause-talk g c =
    let s : Standing = standing (g.T.Sink.contents c.args.sink.now) (g.D.CommandHandler.done c.args.handler.now) c.args.state.now in
    let m : ConnectionState = record { account = c.args.state.now.account; replies = c.send_before.new.replies } in
    let u : Standing = standing (g.T.Sink.contents c.pass_on.new.sink) (g.D.CommandHandler.done c.answer.new.handler) (record { account = c.answer.new.state.account; replies = c.pass_on.new.bytes }) in
    next_on (g.K.Door.opens c.args.door.now) (input_view c.args.input.now) s u m c.answer.new.state (g.T.Sink.contents c.send_before.new.sink) false c.answer.result (c.in-Ok-false.is ∙ ap Ok c.in-Ok-false.field-0-test) refl (on_ok c.send_before.result (sym c.if-is_err.false ∙ c.is_err.ensures.value) c.send_before.ensures.sent) c.answer.ensures.takes c.in-Ok.ensures.ok refl

pub returns-in-Err-pass_on-clause-talk : goal.returns-in-Err-pass_on-clause-talk
returns-in-Err-pass_on-clause-talk g c =
    let s : Standing = standing (g.T.Sink.contents c.args.sink.now) (g.D.CommandHandler.done c.args.handler.now) c.args.state.now in
    let m : ConnectionState = record { account = c.args.state.now.account; replies = c.send_before.new.replies } in
    let u : Standing = standing (g.T.Sink.contents c.pass_on.new.sink) (g.D.CommandHandler.done c.answer.new.handler) (record { account = c.answer.new.state.account; replies = c.pass_on.new.bytes }) in
    next_fault (g.K.Door.opens c.args.door.now) (input_view c.args.input.now) s u m c.answer.new.state (g.T.Sink.contents c.send_before.new.sink) c.answer.result refl (on_ok c.send_before.result (sym c.if-is_err.false ∙ c.is_err.ensures.value) c.send_before.ensures.sent) c.answer.ensures.takes c.in-Err-pass_on.ensures.front refl

pub returns-in-Err-clause-talk : goal.returns-in-Err-clause-talk
returns-in-Err-clause-talk g c =
    let s : Standing = standing (g.T.Sink.contents c.args.sink.now) (g.D.CommandHandler.done c.args.handler.now) c.args.state.now in
    let m : ConnectionState = record { account = c.args.state.now.account; replies = c.send_before.new.replies } in
    let u : Standing = standing (g.T.Sink.contents c.send.new.sink) (g.D.CommandHandler.done c.answer.new.handler) (record { account = c.answer.new.state.account; replies = c.send.new.replies }) in
    next_fault (g.K.Door.opens c.args.door.now) (input_view c.args.input.now) s u m c.answer.new.state (g.T.Sink.contents c.send_before.new.sink) c.answer.result refl (on_ok c.send_before.result (sym c.if-is_err.false ∙ c.is_err.ensures.value) c.send_before.ensures.sent) c.answer.ensures.takes (sent_front c.send.result (g.T.Sink.contents c.send_before.new.sink) (g.T.Sink.contents c.send.new.sink) c.answer.new.state.replies.items c.send.ensures.sent c.send.ensures.front) refl
