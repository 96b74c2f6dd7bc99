use Rattle.kl1_user_account.proofs.Words.{sym, ap, ◌∙◌, ◌&&◌, is_full, state_of, kept_in}
use Rattle.kl1_user_account.proofs.account.Account.has_no_room.Goals as goal

pub returns-then-not-needs_entry : goal.returns-then-not-needs_entry
returns-then-not-needs_entry g c = rw (← c.self.view_is) (λ f. sym (ap (λ b. b && is_full (state_of f (kept_in c.self.inside))) (sym c.needs_entry.ensures ∙ c.if-not-needs_entry.true)))

pub returns : goal.returns
returns g c = rw (← c.self.view_is) (λ f.
    (rw (← c.self.view_is) at (c.is_full.ensures f)) ∙ sym (ap (λ b. b && is_full (state_of f (kept_in c.self.inside))) (sym c.needs_entry.ensures ∙ c.if-not-needs_entry.false)))
