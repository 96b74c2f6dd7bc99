use Rattle.std.proofs.Common.{◌≡◌, ℕ, List, [], ◌∙◌, sym, ap, subst, arith}
use Rattle.std.specs.Prelude.{Some, slice_get, IsTrue}
use Rattle.kl1_model.specs.Rules.{limits_of}
use Rattle.kl1_model.specs.declared.limits.Limits.{Limits}
use Rattle.kl1_journal_entries.specs.Lined.{Rows}
use Rattle.kl1_model_server.specs.laws.TextLaws.{are_new_names}
use Rattle.kl1_pool.proofs.Calling.{called_there}
use Rattle.kl1_pool.proofs.Coming.{comer_restored, comer_counted}
use Rattle.kl1_pool.proofs.pool.Pool.admitted.Goals as goal

pub settle-requires-clause-name : goal.settle-requires-clause-name
settle-requires-clause-name g c = called_there g.K.Names.names c.args.account c.args.place c.args.name (sym (sym c.account.ensures ∙ c.if-account.false)) c.requires.name

pub settle-requires-clause-texts : goal.settle-requires-clause-texts
settle-requires-clause-texts g c =
    let few = ap (λ (l : Limits). l.names) (c.limits-limits.ensures.value ∙ ap limits_of c.args.self.now.ruled) in
    let names = c.shows_written.ensures.names in
    record {
      few = omega (arith, few, c.if-names-limits.false);
      new = subst (λ (ts : List (List ℕ)). IsTrue (are_new_names [] ts)) (sym c.names-names.ensures) names.new;
    }

pub restore_counted-restored-requires-clause-names : goal.restore_counted-restored-requires-clause-names
restore_counted-restored-requires-clause-names g c =
    c.in-Ok.ensures.used ∙ c.names-names.ensures ∙ ap (λ (r : Rows). r.journal.names) (c.journal-journal.ensures ∙ sym c.journal.ensures)

-- it is at the place to which it was to come
pub welcome-stays-requires : goal.welcome-stays-requires
welcome-stays-requires g c = record {
  takes = λ s at.
      c.requires.takes s (subst (λ (k : ℕ). slice_get g.K.ShownIds.histories k ≡ Some s.history) (c.restore_counted-restored.ensures.account ∙ c.in-Ok.ensures.account ∙ sym c.account.ensures ∙ c.if-account.false) at);
}

pub returns-in_default-clause-restored : goal.returns-in_default-clause-restored
returns-in_default-clause-restored g c = comer_restored g.K.PoolIds.rules c.in-Ok.found.held.0.own_name c.args.name c.journal.result.now (g.L.Newcomer.brings c.args.comer.now) c.restore_counted-restored.result c.in-Ok.ensures.name c.journal.ensures c.restore_counted-restored.ensures.restored

pub returns-in_default-clause-counted : goal.returns-in_default-clause-counted
returns-in_default-clause-counted g c = comer_counted c.in-Ok.found.book.account c.args.account c.journal.result.now (g.L.Newcomer.brings c.args.comer.now) c.restore_counted-restored.result c.args.share.now c.restore_counted-restored.new.share (c.in-Ok.ensures.account ∙ sym c.account.ensures ∙ c.if-account.false) c.journal.ensures c.restore_counted-restored.ensures.counted

pub returns-then-not-stays-clause-restored : goal.returns-then-not-stays-clause-restored
returns-then-not-stays-clause-restored g c = comer_restored g.K.PoolIds.rules c.in-Ok.found.held.0.own_name c.args.name c.journal.result.now (g.L.Newcomer.brings c.args.comer.now) c.restore_counted-restored.result c.in-Ok.ensures.name c.journal.ensures c.restore_counted-restored.ensures.restored

pub returns-then-not-stays-clause-counted : goal.returns-then-not-stays-clause-counted
returns-then-not-stays-clause-counted g c = comer_counted c.in-Ok.found.book.account c.args.account c.journal.result.now (g.L.Newcomer.brings c.args.comer.now) c.restore_counted-restored.result c.args.share.now c.restore_counted-restored.new.share (c.in-Ok.ensures.account ∙ sym c.account.ensures ∙ c.if-account.false) c.journal.ensures c.restore_counted-restored.ensures.counted

pub returns-then-not-stays-clause-left : goal.returns-then-not-stays-clause-left
returns-then-not-stays-clause-left g c = (c.welcome-stays.ensures.unseen c.if-not-stays.true).0

pub returns-clause-restored : goal.returns-clause-restored
returns-clause-restored g c = comer_restored g.K.PoolIds.rules c.in-Ok.found.held.0.own_name c.args.name c.journal.result.now (g.L.Newcomer.brings c.args.comer.now) c.restore_counted-restored.result c.in-Ok.ensures.name c.journal.ensures c.restore_counted-restored.ensures.restored

pub returns-clause-counted : goal.returns-clause-counted
returns-clause-counted g c = comer_counted c.in-Ok.found.book.account c.args.account c.journal.result.now (g.L.Newcomer.brings c.args.comer.now) c.restore_counted-restored.result c.args.share.now c.restore_counted-restored.new.share (c.in-Ok.ensures.account ∙ sym c.account.ensures ∙ c.if-account.false) c.journal.ensures c.restore_counted-restored.ensures.counted

pub returns-clause-stays : goal.returns-clause-stays
returns-clause-stays g c = (c.in-All.is, c.welcome-stays.ensures.seen c.if-not-stays.false)
