use Rattle.std.proofs.Common.{List, ℕ, length, take, map, arith, ap, subst}
use Rattle.kl1_session.specs.Asking.{input_view}
use Rattle.kl1_session.specs.Connections.{Standing, TalksToFault, standing}
use Rattle.kl1_session.proofs.Connections.{read_fails, piece_is_dropped, piece_fault, input_ends}
use Rattle.kl1_session.proofs.connection.serve_piece.Goals as goal

pub returns-in_default-clause-talk : goal.returns-in_default-clause-talk
returns-in_default-clause-talk g c =
    let s : Standing = standing (g.T.Sink.contents c.args.sink.now) (g.D.CommandHandler.done c.args.handler.now) c.args.state.now in
    read_fails c.args.rules (g.K.Door.opens c.args.door.now) (length c.args.buffer.now) c.args.session.now (g.S.Source.remaining c.args.source.now) (g.S.Source.remaining c.read.new.self) s c.in_default.ensures.same

pub returns-then-count-eq0-clause-talk : goal.returns-then-count-eq0-clause-talk
returns-then-count-eq0-clause-talk g c =
    let s : Standing = standing (g.T.Sink.contents c.args.sink.now) (g.D.CommandHandler.done c.args.handler.now) c.args.state.now in
    let piece : List ℕ = take c.in-Ok.count c.read.new.into in
    input_ends c.args.rules (g.K.Door.opens c.args.door.now) (length c.args.buffer.now) c.args.session.now piece (g.S.Source.remaining c.args.source.now) (g.S.Source.remaining c.read.new.self) s c.in-Ok.ensures.ok.bytes (ap (λ n. take n c.read.new.into) c.if-count-eq0.true) (λ h. c.in-Ok.ensures.ok.end c.if-count-eq0.true (omega (arith, h, c.read.auto.into))) c.requires.quiet

pub returns-in_default-feed-clause-talk : goal.returns-in_default-feed-clause-talk
returns-in_default-feed-clause-talk g c =
    let s : Standing = standing (g.T.Sink.contents c.args.sink.now) (g.D.CommandHandler.done c.args.handler.now) c.args.state.now in
    piece_is_dropped c.args.rules (g.K.Door.opens c.args.door.now) (length c.args.buffer.now) c.args.session.now (take c.in-Ok.count c.read.new.into) (g.S.Source.remaining c.args.source.now) (g.S.Source.remaining c.read.new.self) s c.in-Ok.ensures.ok.bytes

-- the replies can't be written
pub returns-clause-talk : goal.returns-clause-talk
returns-clause-talk g c =
    let opens = g.K.Door.opens c.args.door.now in
    let s : Standing = standing (g.T.Sink.contents c.args.sink.now) (g.D.CommandHandler.done c.args.handler.now) c.args.state.now in
    let u : Standing = standing (g.T.Sink.contents c.answer_piece.new.sink) (g.D.CommandHandler.done c.answer_piece.new.handler) c.answer_piece.new.state in
    piece_fault c.args.rules opens (length c.args.buffer.now) c.args.session.now (take c.in-Ok.count c.read.new.into) (g.S.Source.remaining c.args.source.now) (g.S.Source.remaining c.read.new.self) (map input_view c.in-Ok-feed.inputs.items) s u
    c.in-Ok.ensures.ok.bytes c.in-Ok-feed.ensures.inputs c.requires.empty
    (subst (λ xs. TalksToFault opens (map input_view xs) s u) c.as_slice.ensures.value c.in-Fault.ensures.talk)
