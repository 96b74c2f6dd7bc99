use Rattle.std.proofs.Common.{None, ap, sym, ◌∙◌, if◌then◌else◌, refl}
use Rattle.kl1_session.specs.declared.connection.ConnectionState.{ConnectionState}
use Rattle.kl1_session.proofs.Conversations.{logout_takes}
use Rattle.kl1_session.proofs.connection.log_out.Goals as goal
use Rattle.kl1_session.proofs.connection.log_out.Goals.{then-is_done, else-is_done}

pub returns-clause-takes : goal.returns-clause-takes
returns-clause-takes g c =
    let s : ConnectionState = c.args.state.now in
    let m : ConnectionState = c.if-is_done.state in
    let t : ConnectionState = record { account = m.account; replies = c.put_performed.new.out } in
    elim c.if-is_done.branch [
      | then-is_done w ↦
          logout_takes c.args.account c.act-answer.result c.is_bye-is_done.result c.put_performed.result c.told_as.result (g.D.CommandHandler.done c.args.handler.now) (g.D.CommandHandler.done c.act-answer.new.self) s m t c.is_bye-is_done.ensures (ap (λ x. x.account) w.state-is ∙ sym (ap (λ b. if b then None else s.account) (sym c.is_bye-is_done.ensures ∙ w.if-is_done.true))) (ap (λ x. x.replies.items) w.state-is) refl c.act-answer.ensures.done c.put_performed.ensures.ok c.put_performed.ensures.err c.told_as.ensures.ok c.told_as.ensures.err
      | else-is_done w ↦
          logout_takes c.args.account c.act-answer.result c.is_bye-is_done.result c.put_performed.result c.told_as.result (g.D.CommandHandler.done c.args.handler.now) (g.D.CommandHandler.done c.act-answer.new.self) s m t c.is_bye-is_done.ensures (ap (λ x. x.account) w.state-is ∙ sym (ap (λ b. if b then None else s.account) (sym c.is_bye-is_done.ensures ∙ w.if-is_done.false))) (ap (λ x. x.replies.items) w.state-is) refl c.act-answer.ensures.done c.put_performed.ensures.ok c.put_performed.ensures.err c.told_as.ensures.ok c.told_as.ensures.err
    ]
