use Rattle.std.proofs.Common.{◌+◌, ◌++◌, ◌∷◌, [], List, map, take, drop, false, sym, ◌∙◌, subst}
use Rattle.kl1_model_server.specs.Inputs.{Input}
use Rattle.kl1_session.specs.Asking.{input_view}
use Rattle.kl1_session.specs.Doors.{Opens}
use Rattle.kl1_session.specs.Connections.{Standing, Talks, TalksOn, standing}
use Rattle.kl1_session.specs.declared.connection.Answered.TheVariants as answered
use Rattle.kl1_session.proofs.Conversations.{talks_more, bye_early, fault_early, inputs_next, inputs_split}
use Rattle.kl1_session.proofs.connection.answer_all.Goals as goal

pub returns-in-Bye-clause-talk : goal.returns-in-Bye-clause-talk
returns-in-Bye-clause-talk g c =
    let done = g.D.CommandHandler.done in
    let contents = g.T.Sink.contents in
    let i = c.loop-input.input-index in
    let first : List Input = map input_view (take i c.args.inputs.now) in
    let s : Standing = standing (contents c.args.sink.now) (done c.args.handler.now) c.args.state.now in
    let t : Standing = standing (contents c.loop-input.sink) (done c.loop-input.handler) c.loop-input.state in
    let u : Standing = standing (contents c.answer_next.new.sink) (done c.answer_next.new.handler) c.answer_next.new.state in
    let Q : Opens → Type 0 = λ o. Talks o (input_view c.input-item.result ∷ []) answered.Bye t u in
    bye_early (g.K.Door.opens c.args.door.now) (map input_view c.args.inputs.now) (first ++ input_view c.input-item.result ∷ []) (map input_view (drop (i + 1) c.args.inputs.now)) s u (inputs_split c.args.inputs.now i c.input-item.result c.loop-input-test.true c.input-item.is) (talks_more (g.K.Door.opens c.args.door.now) first (input_view c.input-item.result ∷ []) answered.Bye s t u c.loop-input.invariant.talk (subst Q c.loop-input.invariant.opens c.in-Bye.ensures.talk))

pub returns-in-Fault-clause-talk : goal.returns-in-Fault-clause-talk
returns-in-Fault-clause-talk g c =
    let done = g.D.CommandHandler.done in
    let contents = g.T.Sink.contents in
    let i = c.loop-input.input-index in
    let first : List Input = map input_view (take i c.args.inputs.now) in
    let s : Standing = standing (contents c.args.sink.now) (done c.args.handler.now) c.args.state.now in
    let t : Standing = standing (contents c.loop-input.sink) (done c.loop-input.handler) c.loop-input.state in
    let u : Standing = standing (contents c.answer_next.new.sink) (done c.answer_next.new.handler) c.answer_next.new.state in
    let Q : Opens → Type 0 = λ o. Talks o (input_view c.input-item.result ∷ []) answered.Fault t u in
    fault_early (g.K.Door.opens c.args.door.now) (map input_view c.args.inputs.now) (first ++ input_view c.input-item.result ∷ []) (map input_view (drop (i + 1) c.args.inputs.now)) s u (inputs_split c.args.inputs.now i c.input-item.result c.loop-input-test.true c.input-item.is) (talks_more (g.K.Door.opens c.args.door.now) first (input_view c.input-item.result ∷ []) answered.Fault s t u c.loop-input.invariant.talk (subst Q c.loop-input.invariant.opens c.in-Fault.ensures.talk))

pub loop-input-preserved : goal.loop-input-preserved
loop-input-preserved g c =
    let done = g.D.CommandHandler.done in
    let contents = g.T.Sink.contents in
    let i = c.loop-input.input-index in
    let first : List Input = map input_view (take i c.args.inputs.now) in
    let s : Standing = standing (contents c.args.sink.now) (done c.args.handler.now) c.args.state.now in
    let t : Standing = standing (contents c.loop-input.sink) (done c.loop-input.handler) c.loop-input.state in
    let u : Standing = standing (contents c.answer_next.new.sink) (done c.answer_next.new.handler) c.answer_next.new.state in
    let Q : Opens → Type 0 = λ o. Talks o (input_view c.input-item.result ∷ []) answered.All t u in
    let P : List Input → Type 0 = λ x. TalksOn (g.K.Door.opens c.args.door.now) x false s u in
    record {
      handler = c.in-All.ensures.handler ∙ c.loop-input.invariant.handler;
      beside = c.in-All.ensures.beside ∙ c.loop-input.invariant.beside;
      keys = c.in-All.ensures.keys ∙ c.loop-input.invariant.keys;
      opens = c.in-All.ensures.opens ∙ c.loop-input.invariant.opens;
      visitor = c.in-All.ensures.visitor;
      talk = subst P (sym (inputs_next c.args.inputs.now i c.input-item.result c.loop-input-test.true c.input-item.is)) (talks_more (g.K.Door.opens c.args.door.now) first (input_view c.input-item.result ∷ []) answered.All s t u c.loop-input.invariant.talk (subst Q c.loop-input.invariant.opens c.in-All.ensures.talk));
    }
