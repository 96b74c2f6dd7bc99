use Rattle.std.proofs.Common.{◌≡◌, ◌-◌, ◌≤◌}
use Rattle.kl1_model.specs.Event.{ran}
use Rattle.kl1_model_server.specs.Journal.{first_steps}
use Rattle.kl1_user.specs.Accounts.{Reading, Fits, state_of}
use Rattle.kl1_script.proofs.replayed.Replayed.run.Given as goal

-- the steps so far are those of a run of as many, none of which was refused
abbrev pub invariant-loop-left : goal.invariant-loop-left
invariant-loop-left g l = record {
  few : l.left ≤ l.reductions;
  steps : (f : Reading) → Fits l.self.names f → first_steps (l.reductions - l.left) (state_of f l.fn.self) ≡ record { state = state_of f l.self; reply = ran (l.reductions - l.left) };
  before : (f : Reading) → Fits l.self.names f → Fits l.fn.self.names f;
}

abbrev pub decreases-loop-left : goal.decreases-loop-left
decreases-loop-left g l = l.left
