use Rattle.std.proofs.Common.{ap, ◌∙◌}
use Rattle.kl1_model.specs.State.{has_runs}
use Rattle.kl1_model_server.specs.Journal.{Journal}
use Rattle.kl1_pool.proofs.pool_account.PoolAccount.has_runs.Goals as goal

pub returns : goal.returns
returns g c = λ f fits.
    c.has_runs.ensures ∙ ap has_runs (c.rules.ensures ∙ ap (λ (j : Journal). j.rules) c.lent_journal.ensures ∙ (c.shows_counts.ensures.kept.replay f fits).is.rules)
