use Rattle.kl1_user.proofs.user_state.UserState.with_names.Goals as goal

pub invariant_of-result : goal.invariant_of-result
invariant_of-result g c = rw c.in_ok-account.ensures.knows at (g.met.A.AtomSource.one_to_one c.with_names.new.names c.with_names.new.seat c.with_names.ensures.keeps.of)
