use Rattle.std.proofs.Common.{refl}
use Rattle.kl1_pool.specs.Names.{is_called}
use Rattle.kl1_pool.proofs.Answering.{restored_by}
use Rattle.kl1_pool.proofs.pool_account.PoolAccount.restore_counted.Goals as goal

pub returns-clause-restored : goal.returns-clause-restored
returns-clause-restored g c =
    let old = c.args.self.now in
    let h = c.restore-restored.ensures in
    restored_by g.K.PoolIds.rules (is_called old.held.0.own_name) old.held c.restore-restored.new.self.held c.args.journal.now.journal c.restore-restored.result c.requires.fresh c.requires.names
    c.shows_counts.ensures.kept c.shows_counts.ensures.rules refl c.shows_counts-2.ensures.names h.before h.restored
