use Rattle.std.proofs.Common.{◌≡◌, Bool, IfOk, sym, ap, subst, ◌∙◌}
use Rattle.kl1_journal_entries.specs.Slots.{goal_or, goal_in, answer_in}
use Rattle.kl1_pool.proofs.restored_deed.answer_of.Goals as goal

pub returns-then-not-told : goal.returns-then-not-told
unfolding goal_in answer_in
returns-then-not-told c = subst (λ (b : Bool). IfOk c.goal_of.result (λ goal. goal ≡ answer_in b c.args.print.now)) (sym c.if-not-told.true) c.goal_of.ensures

pub returns-in-Ok : goal.returns-in-Ok
unfolding answer_in
returns-in-Ok c = sym (ap goal_or c.in-Ok.ensures.goal) ∙ ap (λ (b : Bool). answer_in b c.args.print.now) (sym c.if-not-told.false)
