use Rattle.std.proofs.Common.{◌++◌, [], List, ℕ, length, Some, None, ap, sym, ◌∙◌, subst, refl}
use Rattle.std.specs.declared.option.Option.{Option}
use Rattle.kl1_model_server.specs.Inputs.{inputs}
use Rattle.kl1_session.specs.ActionViews.{IsVisitor}
use Rattle.kl1_session.specs.Doors.{Opens}
use Rattle.kl1_session.specs.Connections.{Standing, GoesOn, Connects, standing}
use Rattle.kl1_session.proofs.Connections.{starts, more_pieces, gives_up, nothing_asked, rest_is_quiet}
use Rattle.kl1_session.proofs.connection.converse.Goals as goal

pub loop-init : goal.loop-init
loop-init g c =
    let s : Standing = standing (g.T.Sink.contents c.args.sink.now) (g.D.CommandHandler.done c.args.handler.now) c.args.state.now in
    let read = g.S.Source.remaining c.args.source.now in
    let P : List ℕ → Type 0 = λ k. GoesOn c.args.rules (g.K.Door.opens c.args.door.now) [] k read read s s in
    let Q : Option ℕ → Type 0 = λ v. IsVisitor (g.K.Door.accounts c.args.door.now) v in
    record {
      handler = refl;
      beside = refl;
      keys = refl;
      opens = refl;
      visitor = subst Q (sym c.requires.fresh.0) tt;
      room = refl;
      quiet = ap (λ x. inputs c.args.rules x) c.new-session.ensures ∙ nothing_asked c.args.rules;
      talk = subst P (sym c.new-session.ensures) (starts c.args.rules (g.K.Door.opens c.args.door.now) read s c.requires.fresh.1);
    }

pub returns-in-Some-clause-talk : goal.returns-in-Some-clause-talk
returns-in-Some-clause-talk g c =
    let done = g.D.CommandHandler.done in
    let contents = g.T.Sink.contents in
    let remaining = g.S.Source.remaining in
    let s : Standing = standing (contents c.args.sink.now) (done c.args.handler.now) c.args.state.now in
    let t : Standing = standing (contents c.loop.sink) (done c.loop.handler) c.loop.state in
    let u : Standing = standing (contents c.serve_piece-ended.new.sink) (done c.serve_piece-ended.new.handler) c.serve_piece-ended.new.state in
    let O : Opens → Type 0 = λ o. Connects c.args.rules o (length c.loop.buffer) c.in-Some.served c.loop.session (remaining c.loop.source) (remaining c.serve_piece-ended.new.source) t u in
    let P : ℕ → Type 0 = λ n. Connects c.args.rules (g.K.Door.opens c.args.door.now) n c.in-Some.served c.loop.session (remaining c.loop.source) (remaining c.serve_piece-ended.new.source) t u in
    more_pieces c.args.rules (g.K.Door.opens c.args.door.now) (length c.args.buffer.now) (Some c.in-Some.served) [] c.loop.session c.serve_piece-ended.new.session (remaining c.args.source.now) (remaining c.loop.source) (remaining c.serve_piece-ended.new.source) s t u c.loop.invariant.talk (subst P c.loop.invariant.room (subst O c.loop.invariant.opens c.in-Some.ensures.talk))

pub loop-preserved : goal.loop-preserved
loop-preserved g c =
    let done = g.D.CommandHandler.done in
    let contents = g.T.Sink.contents in
    let remaining = g.S.Source.remaining in
    let s : Standing = standing (contents c.args.sink.now) (done c.args.handler.now) c.args.state.now in
    let t : Standing = standing (contents c.loop.sink) (done c.loop.handler) c.loop.state in
    let u : Standing = standing (contents c.serve_piece-ended.new.sink) (done c.serve_piece-ended.new.handler) c.serve_piece-ended.new.state in
    let O : Opens → Type 0 = λ o. GoesOn c.args.rules o c.loop.session c.serve_piece-ended.new.session (remaining c.loop.source) (remaining c.serve_piece-ended.new.source) t u in
    let k : GoesOn c.args.rules (g.K.Door.opens c.args.door.now) [] c.serve_piece-ended.new.session (remaining c.args.source.now) (remaining c.serve_piece-ended.new.source) s u = more_pieces c.args.rules (g.K.Door.opens c.args.door.now) (length c.args.buffer.now) None [] c.loop.session c.serve_piece-ended.new.session (remaining c.args.source.now) (remaining c.loop.source) (remaining c.serve_piece-ended.new.source) s t u c.loop.invariant.talk (subst O c.loop.invariant.opens c.in_default.ensures.talk) in
    record {
      handler = c.in_default.ensures.handler ∙ c.loop.invariant.handler;
      beside = c.in_default.ensures.beside ∙ c.loop.invariant.beside;
      keys = c.in_default.ensures.keys ∙ c.loop.invariant.keys;
      opens = c.in_default.ensures.opens ∙ c.loop.invariant.opens;
      visitor = c.in_default.ensures.visitor;
      room = c.in_default.ensures.room ∙ c.loop.invariant.room;
      quiet = ap (λ x. inputs c.args.rules x) k.rest ∙ rest_is_quiet c.args.rules ([] ++ k.bytes);
      talk = k;
    }

pub returns-clause-talk : goal.returns-clause-talk
returns-clause-talk g c =
    let s : Standing = standing (g.T.Sink.contents c.args.sink.now) (g.D.CommandHandler.done c.args.handler.now) c.args.state.now in
    let t : Standing = standing (g.T.Sink.contents c.loop.sink) (g.D.CommandHandler.done c.loop.handler) c.loop.state in
    gives_up c.args.rules (g.K.Door.opens c.args.door.now) (length c.args.buffer.now) [] c.loop.session (g.S.Source.remaining c.args.source.now) (g.S.Source.remaining c.loop.source) s t c.loop.invariant.talk
