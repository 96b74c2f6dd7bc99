use Rattle.std.proofs.Common.{ap, sym, ◌∙◌, subst}
use Rattle.std.specs.Prelude.{IfOk, option_map}
use Rattle.kl1_user_events.specs.Viewing.{AreAwaited}
use Rattle.kl1_journal.specs.Keeping.{Reading, Fits, Held, kept_of}
use Rattle.kl1_world.specs.Worlds.{account_in}
use Rattle.kl1_world.proofs.Seated.{stands, account_at}
use Rattle.kl1_world.proofs.world.World.awaited_here.Goals as goal

pub awaited-requires : goal.awaited-requires
awaited-requires g c =
    let xs = c.self.inside.accounts.items in
    let n = c.self.inside.at in
    let x = c.index-kept.result.now in
    (c.self.invariant.0 n x (stands xs n x c.self.invariant.1 c.index-kept.ensures)).2

pub returns : goal.returns
returns g c =
    let xs = c.self.inside.accounts.items in
    let n = c.self.inside.at in
    let x = c.index-kept.result.now in
    let at = stands xs n x c.self.invariant.1 c.index-kept.ensures in
    subst (λ (a : Held). IfOk c.awaited.result (λ awaited. (f : Reading) → Fits a.0.names f → AreAwaited (kept_of f a).state c.args.goal.0 (option_map (λ numbers. numbers.items) awaited))) (sym (account_at xs n x at) ∙ ap (λ p. account_in p.0 p.1) c.self.view_is) c.awaited.ensures
