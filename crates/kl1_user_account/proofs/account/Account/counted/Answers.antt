use Rattle.kl1_user_account.proofs.Words.{refl, sym, ◌∙◌, meaning}
use Rattle.kl1_user_effects.proofs.Commits.{alive_read}
use Rattle.kl1_user_account.proofs.account.Account.counted.Goals as goal

pub returns : goal.returns
returns g c = rw (← c.self.view_is) (λ f. record {
  names_are = refl;
  goals_are = alive_read (meaning f c.self.inside.machine.store.held) c.self.inside.machine.goals.goals ∙ sym c.alive.ensures;
  variables_are = refl;
  nodes_are = refl;
  shoens_are = sym c.len.ensures.value;
  entries_are = refl;
  most_are = sym c.limits.ensures.value;
})
