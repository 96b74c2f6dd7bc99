use Rattle.std.proofs.Common.{◌≡◌, Some, refl, sym, ap, ◌∙◌, subst}
use Rattle.std.specs.Prelude.{slice_get}
use Rattle.kl1_model_server.specs.Journal.{Journal}
use Rattle.kl1_journal_stamps.specs.Stamps.{HistoryId, ShownValue, ComesAfter, MayFollow}
use Rattle.kl1_journal_stamps.proofs.Chains.{after_itself}
use Rattle.kl1_pool.specs.PoolAccounts.{PoolAccountValue}
use Rattle.kl1_pool.proofs.pool_account.PoolAccount.last_look.Goals as goal

-- if it wasn't shown
pub invariant_of-result : goal.invariant_of-result
invariant_of-result g c =
    let inv = c.self.invariant in
    let events = c.self.inside.past.events in
    let j = c.self.inside.kept.1.1 in
    let same = c.in_default.ensures.none refl in (
      inv.0,
      inv.1,
      inv.2,
      inv.3,
      inv.4,
      inv.5,
      inv.6,
      subst (λ (x : ShownValue). slice_get g.K.ShownIds.histories c.self.inside.book.account ≡ Some x.history) (sym same) inv.7,
      subst (λ (x : ShownValue). MayFollow x.last events j) (sym same) inv.8,
    )

-- after its journal was shown to a reader that asks to come again
pub invariant_of-result-then-not-is_done : goal.invariant_of-result-then-not-is_done
invariant_of-result-then-not-is_done g c =
    let inv = c.self.invariant in
    let events = c.self.inside.past.events in
    let j = c.self.inside.kept.1.1 in
    let shown = c.in-Some.ensures.shown in
    let histories = g.K.ShownIds.histories in (
      inv.0,
      inv.1,
      inv.2,
      inv.3,
      inv.4,
      inv.5,
      inv.6,
      subst (λ (h : HistoryId). slice_get histories c.self.inside.book.account ≡ Some h) (sym (ap (λ (x : ShownValue). x.history) shown)) inv.7,
      subst (λ (x : ShownValue). MayFollow x.last events j) (sym shown) (subst (λ (i : Journal). ComesAfter events i events j) (sym c.lent_journal-journal.ensures) (after_itself events j)),
    )

pub returns-clause-history : goal.returns-clause-history
returns-clause-history g c =
    ap (λ (x : PoolAccountValue). slice_get g.K.ShownIds.histories x.book.account) (sym c.self.view_is)
    ∙ c.self.invariant.7 ∙ ap (λ (h : HistoryId). Some h) (sym (ap (λ (x : ShownValue). x.history) c.in-Some.ensures.shown))

-- what was shown last is the journal
pub returns-clause-seen : goal.returns-clause-seen
returns-clause-seen g c =
    let events = c.self.inside.past.events in
    let journal = c.lent_journal-journal.ensures in (
      subst (λ (x : PoolAccountValue). g.L.JournalReader.reads c.args.reader.now c.read.new.self x.held.1 x.past.events) c.self.view_is
          (subst (λ (i : Journal). g.L.JournalReader.reads c.args.reader.now c.read.new.self i events) journal c.read.ensures),
      ap (λ (x : ShownValue). x.last) c.in-Some.ensures.shown ∙ ap (λ (i : Journal). Some (events, i)) journal ∙ ap (λ (x : PoolAccountValue). Some (x.past.events, x.held.1)) c.self.view_is,
    )
