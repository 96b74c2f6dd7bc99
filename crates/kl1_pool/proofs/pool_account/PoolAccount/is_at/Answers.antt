use Rattle.std.proofs.Common.{ℕ, sym, subst, ◌∙◌}
use Rattle.kl1_pool.specs.Names.{called_at}
use Rattle.std.proofs.lemmas.Bool.{eqb-true}
use Rattle.kl1_pool.proofs.pool_account.PoolAccount.is_at.Goals as goal

pub returns : goal.returns
returns g c = λ yes.
    let held = c.args.self.now.held in
    let found = c.shows_counts.ensures in
    let here = sym c.account.ensures ∙ eqb-true c.account.result c.args.account yes in
    record {
      kept = found.kept;
      names = found.names;
      keeps_to = found.rules;
      called = subst (λ (k : ℕ). called_at g.K.Names.names k held.0.own_name) here found.name;
    }
