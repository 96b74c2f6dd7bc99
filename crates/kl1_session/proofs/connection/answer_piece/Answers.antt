use Rattle.std.proofs.Common.{[], List, map, true, false, refl, sym}
use Rattle.std.proofs.lemmas.List.{append-nil}
use Rattle.kl1_model_server.specs.Inputs.{Input}
use Rattle.kl1_session.specs.Asking.{input_view}
use Rattle.kl1_session.specs.Connections.{Standing, standing}
use Rattle.kl1_session.proofs.Conversations.{on_sent, bye_sent, fault_sending}
use Rattle.kl1_session.proofs.connection.answer_piece.Goals as goal

pub returns-in-Ok-clause-talk : goal.returns-in-Ok-clause-talk
returns-in-Ok-clause-talk g c =
    let done = g.D.CommandHandler.done in
    let contents = g.T.Sink.contents in
    let s : Standing = standing (contents c.args.sink.now) (done c.args.handler.now) c.args.state.now in
    let t : Standing = standing (contents c.answer_all.new.sink) (done c.answer_all.new.handler) c.answer_all.new.state in
    let u : Standing = standing (contents c.send.new.sink) (done c.answer_all.new.handler) (record { account = c.answer_all.new.state.account; replies = c.send.new.replies }) in
    (on_sent (g.K.Door.opens c.args.door.now) (map input_view c.args.inputs.now) false s t u c.in-All.ensures.talk c.in-Ok.ensures.sent c.send.ensures.empty refl refl, c.send.ensures.empty)

pub returns-in-Err-clause-talk : goal.returns-in-Err-clause-talk
returns-in-Err-clause-talk g c =
    let done = g.D.CommandHandler.done in
    let contents = g.T.Sink.contents in
    let is : List Input = map input_view c.args.inputs.now in
    let s : Standing = standing (contents c.args.sink.now) (done c.args.handler.now) c.args.state.now in
    let t : Standing = standing (contents c.answer_all.new.sink) (done c.answer_all.new.handler) c.answer_all.new.state in
    let u : Standing = standing (contents c.send.new.sink) (done c.answer_all.new.handler) (record { account = c.answer_all.new.state.account; replies = c.send.new.replies }) in
    fault_sending (g.K.Door.opens c.args.door.now) is is [] false s t u (sym (append-nil is)) c.in-All.ensures.talk c.in-Err.ensures.front refl refl

pub returns-in-Ok-send-clause-talk : goal.returns-in-Ok-send-clause-talk
returns-in-Ok-send-clause-talk g c =
    let done = g.D.CommandHandler.done in
    let contents = g.T.Sink.contents in
    let s : Standing = standing (contents c.args.sink.now) (done c.args.handler.now) c.args.state.now in
    let t : Standing = standing (contents c.answer_all.new.sink) (done c.answer_all.new.handler) c.answer_all.new.state in
    let u : Standing = standing (contents c.send-in-Bye.new.sink) (done c.answer_all.new.handler) (record { account = c.answer_all.new.state.account; replies = c.send-in-Bye.new.replies }) in
    (bye_sent (g.K.Door.opens c.args.door.now) (map input_view c.args.inputs.now) s t u c.in-Bye.ensures.talk c.in-Ok-send.ensures.sent c.send-in-Bye.ensures.empty refl refl, c.send-in-Bye.ensures.empty)

pub returns-in-Err-send-clause-talk : goal.returns-in-Err-send-clause-talk
returns-in-Err-send-clause-talk g c =
    let done = g.D.CommandHandler.done in
    let contents = g.T.Sink.contents in
    let s : Standing = standing (contents c.args.sink.now) (done c.args.handler.now) c.args.state.now in
    let t : Standing = standing (contents c.answer_all.new.sink) (done c.answer_all.new.handler) c.answer_all.new.state in
    let u : Standing = standing (contents c.send-in-Bye.new.sink) (done c.answer_all.new.handler) (record { account = c.answer_all.new.state.account; replies = c.send-in-Bye.new.replies }) in
    let k = c.in-Bye.ensures.talk in
    fault_sending (g.K.Door.opens c.args.door.now) (map input_view c.args.inputs.now) k.answered k.others true s t u k.all k.talk c.in-Err-send.ensures.front refl refl
