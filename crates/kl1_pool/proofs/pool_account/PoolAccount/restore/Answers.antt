use Rattle.kl1_user.specs.Readings.{reading_of, reading_fits}
use Rattle.kl1_pool.proofs.pool_account.PoolAccount.restore.Goals as goal

pub returns-clause-counted : goal.returns-clause-counted
returns-clause-counted g c =
    let names = c.restore_as_host-restored.new.self.held.0.names in
    c.restore_as_host-restored.ensures.counted (reading_of names) (reading_fits names c.shows_counts.ensures.names)
