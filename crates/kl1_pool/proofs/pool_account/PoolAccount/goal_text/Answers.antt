use Rattle.std.proofs.Common.{◌≡◌, sym, subst}
use Rattle.kl1_codes.specs.Numbered.{ArePlaced}
use Rattle.kl1_journal.specs.Keeping.{Held}
use Rattle.kl1_journal_stamps.specs.Stamps.{MayFollow}
use Rattle.kl1_pool.specs.Counted.{IsCounted}
use Rattle.kl1_pool.specs.Names.{IsNamed}
use Rattle.kl1_pool.specs.PoolAccounts.{StandsIn}
use Rattle.kl1_pool.proofs.pool_account.PoolAccount.goal_text.Goals as goal

pub invariant_of-self : goal.invariant_of-self
invariant_of-self g c =
    let same = sym c.goal_text.ensures.same in
    let b = c.self.inside.book in (
      c.goal_text.ensures.of,
      subst (λ (h : Held). ArePlaced (StandsIn g.K.PoolIds.codes) h.0.modules) same c.self.invariant.1,
      c.self.invariant.2,
      c.self.invariant.3,
      subst (λ (h : Held). IsCounted c.self.inside.past h.1 b) same c.self.invariant.4,
      subst (λ (h : Held). h.0.rules ≡ g.K.PoolIds.rules) same c.self.invariant.5,
      subst (λ (h : Held). IsNamed g.K.Names.names b.account c.self.inside.name h.0.own_name) same c.self.invariant.6,
      c.self.invariant.7,
      subst (λ (h : Held). MayFollow c.self.inside.shown.last c.self.inside.past.events h.1) same c.self.invariant.8,
    )
