use Rattle.std.proofs.Common.{◌≡◌, false, map, take}
use Rattle.kl1_session.specs.Asking.{input_view}
use Rattle.kl1_session.specs.ActionViews.{IsVisitor}
use Rattle.kl1_session.specs.Connections.{standing, TalksOn}
use Rattle.kl1_session.proofs.connection.answer_all.Given as goal

-- handler and door have the accounts that they had, the handler has what it has beside, the door opens to whom it did, the visitor is at one of its accounts, and the inputs so far are answered
abbrev pub invariant-loop-input : goal.invariant-loop-input
invariant-loop-input g l =
    let done = g.D.CommandHandler.done in
    let contents = g.T.Sink.contents in
    record {
      handler : g.D.CommandHandler.accounts l.handler ≡ g.D.CommandHandler.accounts l.fn.handler;
      beside : g.D.CommandHandler.beside l.handler ≡ g.D.CommandHandler.beside l.fn.handler;
      keys : g.K.Door.accounts l.door ≡ g.K.Door.accounts l.fn.door;
      opens : g.K.Door.opens l.door ≡ g.K.Door.opens l.fn.door;
      visitor : IsVisitor (g.K.Door.accounts l.door) l.state.account;
      talk : TalksOn (g.K.Door.opens l.fn.door) (map input_view (take l.input-index l.inputs)) false (standing (contents l.fn.sink) (done l.fn.handler) l.fn.state) (standing (contents l.sink) (done l.handler) l.state);
    }
