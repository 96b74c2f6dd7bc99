use Rattle.kl1_journal_entries.specs.Shown.{entry_shown}
use Rattle.kl1_pool.specs.Restoring.{entry_by}
use Rattle.kl1_pool.proofs.RestoredEvents.{none_of}
use Rattle.kl1_pool.proofs.restoring.restore_entry.Goals as goal

pub returns-in-Err-clause-does : goal.returns-in-Err-clause-does
returns-in-Err-clause-does g c = λ f fits. none_of (g.H.Host.kept f c.args.host.now).state (entry_by c.args.untold (entry_shown c.args.entry))

pub returns-in-Err-clause-counted : goal.returns-in-Err-clause-counted
returns-in-Err-clause-counted g c = λ f fits. g.met.H.Host.none_counted c.args.host.now

pub returns-in-Ok-clause-does : goal.returns-in-Ok-clause-does
returns-in-Ok-clause-does g c = c.restore_deed.ensures.does (entry_by c.args.untold (entry_shown c.args.entry)) c.in-Ok.ensures

pub returns-in-Ok-clause-counted : goal.returns-in-Ok-clause-counted
returns-in-Ok-clause-counted g c = c.restore_deed.ensures.counted (entry_by c.args.untold (entry_shown c.args.entry)) c.in-Ok.ensures
