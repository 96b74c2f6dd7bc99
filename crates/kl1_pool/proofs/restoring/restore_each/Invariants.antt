use Rattle.std.proofs.Common.{◌≡◌, take, length}
use Rattle.kl1_pool.specs.Restoring.{entries_by, told_of}
use Rattle.kl1_pool.proofs.RestoredEntries.{AreLeft, AreDone}
use Rattle.kl1_pool.proofs.restoring.restore_each.Given as goal

-- the entries that aren't left are done, as they are to be, all accepted, and counted
abbrev pub invariant-loop-entry : goal.invariant-loop-entry
invariant-loop-entry g l = record {
  left : AreLeft l.journal.journal.entries l.entries l.done;
  done : (f : g.H.Host.Reading) → g.H.Host.fits l.host f → AreDone (g.H.Host.kept f l.fn.host).state (entries_by l.untold l.journal.journal.entries) l.done (g.H.Host.kept f l.host).state;
  counted : (f : g.H.Host.Reading) → g.H.Host.fits l.host f → g.H.Host.counted l.fn.host (told_of (take l.done l.journal.journal.entries) 0) l.host;
  before : (f : g.H.Host.Reading) → g.H.Host.fits l.host f → g.H.Host.fits l.fn.host f;
  beside : g.H.Host.beside l.host ≡ g.H.Host.beside l.fn.host;
}

abbrev pub decreases-loop-entry : goal.decreases-loop-entry
decreases-loop-entry g l = length l.entries
