-- A restore of which all entries were done.
use Rattle.std.proofs.Common.{◌≡◌, ℕ, List, sym, ap, ◌∙◌, subst, inl, inr}
use Rattle.kl1_model.specs.declared.rules.Rules.{Rules}
use Rattle.kl1_model_server.specs.Journal.{Journal}
use Rattle.kl1_pool.specs.Restoring.{IsRestoredBySome, IsRestoredOf}
use Rattle.kl1_pool.specs.declared.restoring.RestoreEnd.{RestoreEnd}
use Rattle.kl1_pool.specs.declared.restoring.RestoreEnd.TheVariants.{All, Memory}
use Rattle.kl1_pool.specs.declared.restoring.Restored.{Restored}
use Rattle.kl1_host_work.specs.Restarts.{IsAllRestored}

pub all_restored : (rules : Rules) (name : List ℕ → Type 0) (j : Journal) (r : Restored) → IsRestoredOf rules name j r → r.end ≡ All → IsAllRestored rules name j r.entries
all_restored rules name j r (inl some) all =
    (r.steps, subst (λ (e : RestoreEnd). let x : Restored = record { entries = r.entries; steps = r.steps; end = e } in IsRestoredBySome rules name j x) all some)
all_restored rules name j r (inr none) all =
    let same : All ≡ Memory = sym all ∙ ap (λ (x : Restored). x.end) none in
    absurd (let e : ⊥ = cc in e)
