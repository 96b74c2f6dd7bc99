use Rattle.std.proofs.Common.{◌≡◌, ℕ, subst, sym, ◌∙◌}
use Rattle.std.specs.Prelude.{Some, slice_get}
use Rattle.kl1_pool.specs.Names.{called_at}
use Rattle.kl1_pool.proofs.pool_account.PoolAccount.look_at.Goals as goal

pub look-requires : goal.look-requires
look-requires g c = λ s is. c.requires s (subst (λ (k : ℕ). slice_get g.K.ShownIds.histories k ≡ Some s.history) (sym c.account.ensures ∙ c.if-account.false) is)

pub returns-clause-found : goal.returns-clause-found
returns-clause-found g c = λ yes.
    let found = c.shows_counts.ensures in
    record {
      kept = found.kept;
      names = found.names;
      keeps_to = found.rules;
      called = subst (λ (k : ℕ). called_at g.K.Names.names k c.args.self.now.held.0.own_name) (sym c.account.ensures ∙ c.if-account.false) found.name;
    }
