use Rattle.std.proofs.Common.{ℕ, nat_lt, inl, sym, subst, ◌∙◌}
use Rattle.kl1_pool.specs.Names.{called_at}
use Rattle.kl1_pool.specs.Stepping.{IsTurnOfSome}
use Rattle.kl1_pool.specs.declared.turn.TheConstants.{MOST_GRANTED_STEPS}
use Rattle.kl1_pool.proofs.pool.Pool.turn_on.Goals as goal

pub returns-clause-turn : goal.returns-clause-turn
returns-clause-turn g c =
    inl (subst (λ (k : ℕ). IsTurnOfSome g.K.PoolIds.rules (called_at g.K.Names.names k) g.K.PoolIds.most_bytes (nat_lt MOST_GRANTED_STEPS c.args.unread) c.time_slice-slice.result) (sym c.account.ensures ∙ c.if-account.false) c.time_slice-slice.ensures.turn)
