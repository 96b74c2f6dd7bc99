use Rattle.std.proofs.Common.{◌≡◌, Some, sym, ap, subst}
use Rattle.std.specs.Prelude.{slice_get}
use Rattle.kl1_model_server.specs.Journal.{Journal}
use Rattle.kl1_journal_stamps.specs.Stamps.{HistoryId, ShownValue, ComesAfter, MayFollow}
use Rattle.kl1_journal_stamps.proofs.Chains.{after_itself}
use Rattle.kl1_pool.proofs.pool_account.PoolAccount.look.Goals as goal

pub invariant_of-self-2 : goal.invariant_of-self-2
invariant_of-self-2 g c =
    let inv = c.self.invariant in
    let events = c.self.inside.past.events in
    let j = c.self.inside.kept.1.1 in
    let shown = c.in-Some.ensures.shown in
    let histories = g.K.ShownIds.histories in (
      inv.0,
      inv.1,
      inv.2,
      inv.3,
      inv.4,
      inv.5,
      inv.6,
      subst (λ (h : HistoryId). slice_get histories c.self.inside.book.account ≡ Some h) (sym (ap (λ (x : ShownValue). x.history) shown)) inv.7,
      subst (λ (x : ShownValue). MayFollow x.last events j) (sym shown) (subst (λ (i : Journal). ComesAfter events i events j) (sym c.lent_journal-journal.ensures) (after_itself events j)),
    )
