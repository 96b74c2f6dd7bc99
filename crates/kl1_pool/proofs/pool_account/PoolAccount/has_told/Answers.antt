use Rattle.std.proofs.Common.{ap, ◌∙◌}
use Rattle.kl1_model.specs.State.{has_told}
use Rattle.kl1_model_server.specs.Journal.{Journal}
use Rattle.kl1_pool.proofs.pool_account.PoolAccount.has_told.Goals as goal

pub returns : goal.returns
returns g c = λ f fits.
    c.has_told.ensures ∙ ap has_told (c.rules.ensures ∙ ap (λ (j : Journal). j.rules) c.lent_journal.ensures ∙ (c.shows_counts.ensures.kept.replay f fits).is.rules)
