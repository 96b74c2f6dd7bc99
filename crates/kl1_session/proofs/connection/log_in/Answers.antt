use Rattle.std.proofs.Common.{Some, ap, sym, ◌∙◌, if◌then◌else◌, refl}
use Rattle.kl1_session.specs.declared.connection.ConnectionState.{ConnectionState}
use Rattle.kl1_session.proofs.Conversations.{login_takes}
use Rattle.kl1_session.proofs.connection.log_in.Goals as goal
use Rattle.kl1_session.proofs.connection.log_in.Goals.{then-is_welcome, else-is_welcome}

pub returns-clause-takes : goal.returns-clause-takes
returns-clause-takes g c =
    let s : ConnectionState = c.args.state.now in
    let m : ConnectionState = c.if-is_welcome.state in
    let t : ConnectionState = record { account = m.account; replies = c.put_performed.new.out } in
    elim c.if-is_welcome.branch [
      | then-is_welcome w ↦
          login_takes c.args.account c.act-answer.result c.put_performed.result c.told_as.result (g.D.CommandHandler.done c.args.handler.now) (g.D.CommandHandler.done c.act-answer.new.self) s m t (ap (λ x. x.account) w.state-is ∙ sym (ap (λ b. if b then Some c.args.account else s.account) (sym c.is_welcome.ensures ∙ w.if-is_welcome.true))) (ap (λ x. x.replies.items) w.state-is) refl c.act-answer.ensures.done c.put_performed.ensures.ok c.put_performed.ensures.err c.told_as.ensures.ok c.told_as.ensures.err
      | else-is_welcome w ↦
          login_takes c.args.account c.act-answer.result c.put_performed.result c.told_as.result (g.D.CommandHandler.done c.args.handler.now) (g.D.CommandHandler.done c.act-answer.new.self) s m t (ap (λ x. x.account) w.state-is ∙ sym (ap (λ b. if b then Some c.args.account else s.account) (sym c.is_welcome.ensures ∙ w.if-is_welcome.false))) (ap (λ x. x.replies.items) w.state-is) refl c.act-answer.ensures.done c.put_performed.ensures.ok c.put_performed.ensures.err c.told_as.ensures.ok c.told_as.ensures.err
    ]
