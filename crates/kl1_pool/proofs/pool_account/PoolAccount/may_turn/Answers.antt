use Rattle.std.proofs.Common.{ℕ, ◌≤◌, sym, subst, ◌∙◌}
use Rattle.std.proofs.lemmas.Bool.{ltb-false, not-true}
use Rattle.kl1_journal.specs.Keeping.{kept_of}
use Rattle.kl1_pool.specs.Memory.{bytes_taken}
use Rattle.kl1_pool.proofs.pool_account.PoolAccount.may_turn.Goals as goal

pub returns : goal.returns
returns g c = λ yes f.
    subst (λ (n : ℕ). bytes_taken (kept_of f c.args.self.now.held) ≤ n) c.turn_bound.ensures (ltb-false _ _ (sym (c.is_over.ensures f) ∙ not-true _ yes))
