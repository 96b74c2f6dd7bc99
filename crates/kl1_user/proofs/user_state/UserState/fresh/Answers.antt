use Rattle.kl1_atoms.specs.Knowing.{no_names}
use Rattle.kl1_user.proofs.user_state.UserState.fresh.Goals as goal

pub invariant_of-result : goal.invariant_of-result
invariant_of-result g c = rw c.in_ok-account.ensures.names no_names
