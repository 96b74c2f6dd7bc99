use Rattle.std.proofs.Common.{ap, sym, ◌∙◌}
use Rattle.kl1_world.specs.Worlds.{account_in}
use Rattle.kl1_world.proofs.Seated.{stands, account_at}
use Rattle.kl1_world.proofs.world.World.current.Goals as goal

pub returns : goal.returns
returns g c =
    let xs = c.self.inside.accounts.items in
    let n = c.self.inside.at in
    let x = c.index.result.now in
    let at = stands xs n x c.self.invariant.1 c.index.ensures in
    sym (account_at xs n x at) ∙ ap (λ p. account_in p.0 p.1) c.self.view_is
