use Rattle.kl1_user_effects.specs.Fitting.{reading_of, reading_fits}
use Rattle.kl1_user.proofs.user_state.UserState.quiet.Goals as goal

pub returns-clause-some : goal.returns-clause-some
returns-clause-some g c = rw (← c.self.view_is) (reading_of c.self.inside.account.names, reading_fits c.self.inside.account.names c.self.invariant)
