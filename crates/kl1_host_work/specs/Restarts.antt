-- What is known of accounts that were restored from their files.
use Rattle.std.specs.Prelude.{ℕ, List}
use Rattle.kl1_model.specs.declared.rules.Rules.{Rules}
use Rattle.kl1_model_server.specs.Journal.{Journal}
use Rattle.kl1_pool.specs.Restoring.{IsRestoredBySome}
use Rattle.kl1_pool.specs.declared.restoring.RestoreEnd.TheVariants.{All}
use Rattle.kl1_pool.specs.declared.restoring.Restored.{Restored}

-- to some account of these rules and of this name, which had used just the names of this journal, all of its entries were done, each accepted
-- whole, and there are `n`
abbrev pub IsAllRestored : Rules → (List ℕ → Type 0) → Journal → ℕ → Type 0
IsAllRestored rules name j n = (k : ℕ) × (let r : Restored = record { entries = n; steps = k; end = All } in IsRestoredBySome rules name j r)
