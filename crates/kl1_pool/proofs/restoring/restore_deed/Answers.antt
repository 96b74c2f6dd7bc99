use Rattle.std.proofs.Common.{sym, subst, ap, ◌∙◌}
use Rattle.std.proofs.lemmas.Option.{same_Some}
use Rattle.kl1_model_server.specs.Journal.{Entry, runs}
use Rattle.kl1_journal_entries.specs.Found.{deed_in}
use Rattle.kl1_pool.specs.Restoring.{IsEntryDone, told_entry}
use Rattle.kl1_pool.proofs.restoring.restore_deed.Goals as goal

pub returns-in-Event-clause-does : goal.returns-in-Event-clause-does
returns-in-Event-clause-does g c = λ e is. c.restore_event.ensures.does e (sym (ap deed_in c.in-Event.is) ∙ is)

pub returns-in-Event-clause-counted : goal.returns-in-Event-clause-counted
returns-in-Event-clause-counted g c = λ e is. c.restore_event.ensures.counted e (sym (ap deed_in c.in-Event.is) ∙ is)

pub returns-in-Run-clause-does : goal.returns-in-Run-clause-does
returns-in-Run-clause-does g c = λ e is f fits.
    subst (λ (y : Entry). IsEntryDone (g.H.Host.kept f c.args.host.now).state y c.restore_run.result (g.H.Host.kept f c.restore_run.new.host).state)
    (same_Some (runs c.in-Run.reductions) e (sym (ap deed_in c.in-Run.is) ∙ is)) (c.restore_run.ensures.does f fits)

pub returns-in-Run-clause-counted : goal.returns-in-Run-clause-counted
returns-in-Run-clause-counted g c = λ e is f fits.
    subst (λ (y : Entry). g.H.Host.counted c.args.host.now (told_entry y c.restore_run.result) c.restore_run.new.host)
    (same_Some (runs c.in-Run.reductions) e (sym (ap deed_in c.in-Run.is) ∙ is)) (c.restore_run.ensures.counted f fits)
