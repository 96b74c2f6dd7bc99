use Rattle.std.proofs.Common.{◌≡◌, ◌≤◌, ◌-◌}
use Rattle.kl1_command.specs.Room.{HasRoomFor}
use Rattle.kl1_command.specs.Told.{told_steps}
use Rattle.kl1_pool.specs.Restoring.{Leads}
use Rattle.kl1_pool.proofs.restoring.metered_steps.Given as goal

-- the steps that are done lead to the account, they are counted, and there is room for the others
abbrev pub invariant-loop-done : goal.invariant-loop-done
invariant-loop-done g l = record {
  few : l.done ≤ l.most;
  room : HasRoomFor (l.most - l.done) (g.H.Host.room l.host);
  goes : (f : g.H.Host.Reading) → g.H.Host.fits l.host f → Leads (g.H.Host.kept f l.fn.host).state l.done (g.H.Host.kept f l.host).state;
  counted : g.H.Host.counted l.fn.host (told_steps l.done) l.host;
  before : (f : g.H.Host.Reading) → g.H.Host.fits l.host f → g.H.Host.fits l.fn.host f;
  beside : g.H.Host.beside l.host ≡ g.H.Host.beside l.fn.host;
}

abbrev pub decreases-loop-done : goal.decreases-loop-done
decreases-loop-done g l = l.most - l.done
