use Rattle.std.proofs.Common.{◌≡◌, ℕ, subst, sym, ◌∙◌}
use Rattle.std.specs.Prelude.{Some, slice_get}
use Rattle.kl1_pool.specs.Names.{called_at}
use Rattle.kl1_pool.specs.Showing.{IsFound, IsLastOf}
use Rattle.kl1_pool.proofs.Answering.{seen_of_some}
use Rattle.kl1_pool.proofs.pool_account.PoolAccount.end.Goals as goal

pub last_look-requires : goal.last_look-requires
last_look-requires g c = λ s is. c.requires.takes s (subst (λ (k : ℕ). slice_get g.K.ShownIds.histories k ≡ Some s.history) (sym c.account.ensures ∙ c.if-account.false) is)

pub returns-in-Ok-clause-history : goal.returns-in-Ok-clause-history
returns-in-Ok-clause-history g c = subst (λ (k : ℕ). slice_get g.K.ShownIds.histories k ≡ Some c.in-Ok.shown.history) (sym c.account.ensures ∙ c.if-account.false) c.in-Ok.ensures.history

pub returns-in-Ok-clause-seen : goal.returns-in-Ok-clause-seen
returns-in-Ok-clause-seen g c =
    let held = c.args.self.held in
    let counts = c.shows_counts.ensures in
    let found : IsFound g.K.PoolIds.rules (called_at g.K.Names.names c.args.account) held = record {
      kept = counts.kept;
      names = counts.names;
      keeps_to = counts.rules;
      called = subst (λ (k : ℕ). called_at g.K.Names.names k held.0.own_name) (sym c.account.ensures ∙ c.if-account.false) counts.name;
    } in
    seen_of_some g.K.PoolIds.rules (called_at g.K.Names.names c.args.account) held _ (λ j ended. g.L.JournalReader.reads c.args.reader.now c.last_look.new.reader j ended × IsLastOf c.in-Ok.shown j ended) found c.in-Ok.ensures.seen
