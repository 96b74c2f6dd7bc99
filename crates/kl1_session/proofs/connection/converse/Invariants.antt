use Rattle.std.proofs.Common.{◌≡◌, [], length}
use Rattle.kl1_model_server.specs.Inputs.{inputs}
use Rattle.kl1_session.specs.ActionViews.{IsVisitor}
use Rattle.kl1_session.specs.Connections.{standing, GoesOn}
use Rattle.kl1_session.proofs.connection.converse.Given as goal

-- handler and door have the accounts that they had, the handler has what it has beside, the door opens to whom it did, the visitor is at one of its accounts, and the pieces so far are answered
abbrev pub invariant-loop : goal.invariant-loop
invariant-loop g l =
    let done = g.D.CommandHandler.done in
    let contents = g.T.Sink.contents in
    let remaining = g.S.Source.remaining in
    record {
      handler : g.D.CommandHandler.accounts l.handler ≡ g.D.CommandHandler.accounts l.fn.handler;
      beside : g.D.CommandHandler.beside l.handler ≡ g.D.CommandHandler.beside l.fn.handler;
      keys : g.K.Door.accounts l.door ≡ g.K.Door.accounts l.fn.door;
      opens : g.K.Door.opens l.door ≡ g.K.Door.opens l.fn.door;
      visitor : IsVisitor (g.K.Door.accounts l.door) l.state.account;
      room : length l.buffer ≡ length l.fn.buffer;
      quiet : inputs l.rules l.session ≡ [];
      talk : GoesOn l.rules (g.K.Door.opens l.fn.door) [] l.session (remaining l.fn.source) (remaining l.source) (standing (contents l.fn.sink) (done l.fn.handler) l.fn.state) (standing (contents l.sink) (done l.handler) l.state);
    }
