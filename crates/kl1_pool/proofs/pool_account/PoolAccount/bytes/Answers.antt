use Rattle.std.proofs.Common.{ℕ, ◌-◌, ◌^◌, min, ap, ◌∙◌}
use Rattle.kl1_user_events.specs.declared.usage.Usage.{Usage}
use Rattle.kl1_user_events.specs.Viewing.{usage_of}
use Rattle.kl1_journal.specs.Keeping.{kept_of}
use Rattle.kl1_pool.specs.Memory.{bytes_in}
use Rattle.kl1_pool.proofs.pool_account.PoolAccount.bytes.Goals as goal

pub returns : goal.returns
returns g c = λ f.
    c.bytes_of.ensures ∙ ap (λ (u : Usage). min (bytes_in u c.steps_since_reset.result) (2 ^ 64 - 1)) (c.usage.ensures f)
    ∙ ap (λ (n : ℕ). min (bytes_in (usage_of (kept_of f c.args.self.now.held).state) n) (2 ^ 64 - 1)) c.steps_since_reset.ensures
