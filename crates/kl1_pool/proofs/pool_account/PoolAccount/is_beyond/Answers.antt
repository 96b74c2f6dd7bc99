use Rattle.std.proofs.Common.{ℕ, ◌<◌, ◌≤◌, sym, subst, ◌∙◌}
use Rattle.std.proofs.lemmas.Bool.{ltb-true, ltb-false}
use Rattle.kl1_journal.specs.Keeping.{kept_of}
use Rattle.kl1_pool.specs.Memory.{bytes_taken}
use Rattle.kl1_pool.proofs.pool_account.PoolAccount.is_beyond.Goals as goal

pub returns-clause-beyond : goal.returns-clause-beyond
returns-clause-beyond g c = λ yes.
    (λ f. subst (λ (n : ℕ). n < bytes_taken (kept_of f c.args.self.now.held)) c.bound_of.ensures (ltb-true _ _ (sym (c.is_over.ensures f) ∙ yes)), sym c.takes_memory.ensures ∙ c.if-not-takes_memory.false)

pub returns-clause-within : goal.returns-clause-within
returns-clause-within g c = λ no takes f.
    subst (λ (n : ℕ). bytes_taken (kept_of f c.args.self.now.held) ≤ n) c.bound_of.ensures (ltb-false _ _ (sym (c.is_over.ensures f) ∙ no))
