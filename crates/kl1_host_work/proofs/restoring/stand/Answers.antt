use Rattle.std.proofs.Common.{◌≡◌, ℕ, sym, subst}
use Rattle.std.specs.Prelude.{Some, slice_get}
use Rattle.kl1_journal_entries.specs.Lined.{Rows}
use Rattle.kl1_pool.specs.Names.{is_called}
use Rattle.kl1_host_work.specs.Restarts.{IsAllRestored}
use Rattle.kl1_host_work.proofs.Linkages.{takes_own, linked_by, of_file}
use Rattle.kl1_host_work.proofs.Restarts.{all_restored}
use Rattle.kl1_host_work.proofs.restoring.stand.Goals as goal

-- the history is the account's
pub admit-restored-requires-clause-takes : goal.admit-restored-requires-clause-takes
admit-restored-requires-clause-takes g c = λ s at.
    let P : ℕ → Type 0 = λ (k : ℕ). slice_get g.K.ShownIds.histories k ≡ Some s.history in
    takes_own c.args.own.account c.new-linking.result.linkage s c.new-linking.ensures.account (subst P (sym c.if-own-account.false) at)

-- the journal that was restored is the file's, and the file was linked under the same lock
pub returns-in-Ok : goal.returns-in-Ok
returns-in-Ok g c =
    let named = is_called c.args.found.name in
    let P : Rows → Type 0 = λ (j : Rows). IsAllRestored g.K.PoolIds.rules named j.journal c.admit-restored.result.entries in
    record {
      restored = subst P c.new-linking.ensures.journal (all_restored g.K.PoolIds.rules named c.new-linking.result.opened.journal.journal c.admit-restored.result c.admit-restored.ensures.restored c.in-All.is);
      linked = linked_by g.K.PoolIds.rules named c.args.own.account c.new-linking.result.linkage c.admit-restored.new.comer.linkage c.in-Ok.linked c.new-linking.ensures.account c.in-Ok.ensures (of_file c.new-linking.result c.admit-restored.new.comer c.admit-restored.ensures.seen);
    }
