use Rattle.kl1_user.proofs.user_state.UserState.run.Goals as goal

pub returns : goal.returns
returns g c = λ f. rw (← c.self.view_is) (c.run.ensures f)
