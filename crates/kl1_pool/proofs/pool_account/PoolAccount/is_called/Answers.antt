use Rattle.std.proofs.Common.{ap, sym, ◌∙◌}
use Rattle.std.proofs.lemmas.Bool.Decides.{Decides-eqb}
use Rattle.std.proofs.lemmas.Slice.Eq.{slice_eq-Decides}
use Rattle.kl1_pool.specs.PoolAccounts.{PoolAccountValue}
use Rattle.kl1_pool.proofs.pool_account.PoolAccount.is_called.Goals as goal

pub returns : goal.returns
returns g c =
    let own = c.as_slice.ensures ∙ c.unpacked-own.ensures.value ∙ c.text.ensures ∙ sym c.self.invariant.6.is ∙ ap (λ (x : PoolAccountValue). x.held.0.own_name) c.self.view_is in
    let tells = slice_eq-Decides Decides-eqb c.as_slice.result.now c.args.name.now c.eq.result c.eq.ensures in
    (λ yes. sym own ∙ tells.0 yes, λ same. tells.1 (own ∙ same))
