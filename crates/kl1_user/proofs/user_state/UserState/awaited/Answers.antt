use Rattle.kl1_user.proofs.user_state.UserState.awaited.Goals as goal

pub returns : goal.returns
returns g c = rw (← c.self.view_is) c.awaited.ensures
