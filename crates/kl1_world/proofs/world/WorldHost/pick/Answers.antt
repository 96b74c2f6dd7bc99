use Rattle.std.proofs.Common.{◌≡◌, ℕ, ap, subst}
use Rattle.std.specs.Prelude.{option_map}
use Rattle.kl1_model.specs.Choice.{first}
use Rattle.kl1_user_events.specs.Views.{chosen_of}
use Rattle.kl1_journal.specs.Keeping.{Reading, Fits, kept_of}
use Rattle.kl1_world.specs.Worlds.{account_in}
use Rattle.kl1_world.proofs.world.WorldHost.pick.Goals as goal

pub returns : goal.returns
returns g c =
    subst (λ (n : ℕ). (f : Reading) → Fits (account_in c.args.self.now.0 n).0.names f → option_map chosen_of c.pick_at.result ≡ first (kept_of f (account_in c.args.self.now.0 n)).state) (ap (λ p. p.1) c.self.view_is) c.pick_at.ensures
