use Rattle.std.proofs.Common.{◌≡◌, ◌++◌, ap, sym, ◌∙◌}
use Rattle.std.specs.Prelude.{option_and_then, is_some}
use Rattle.std.proofs.lemmas.List.{append-nil}
use Rattle.std.proofs.lemmas.Result.{IfOk-weaker}
use Rattle.kl1_model.specs.declared.rules.Rules.{Rules}
use Rattle.kl1_model.specs.Step.{step}
use Rattle.kl1_model_server.specs.Journal.{runs, entry_step}
use Rattle.kl1_model_server.specs.JournalText.{entry_in}
use Rattle.kl1_user_events.specs.Views.{event_of}
use Rattle.kl1_user.specs.Accounts.{state_of, Reading, Fits}
use Rattle.kl1_journal_entries.specs.Found.{deed_in}
use Rattle.kl1_script.specs.Replays.{accepted_in, if_accepted}
use Rattle.kl1_script.specs.Steps.{Went, told_of}
use Rattle.kl1_script.proofs.Accepted.{no_entry, event_entry, run_entry}
use Rattle.kl1_script.proofs.replay_replies.put_entry.Goals as goal

pub returns-in-None-clause-went : goal.returns-in-None-clause-went
returns-in-None-clause-went g c = λ f fits.
    let e = no_entry (state_of f c.args.replayed.now) c.args.line.now (option_and_then deed_in c.in_ok-entry_of.field-0) (c.in_ok-entry_of.ensures.deed ∙ ap (λ (of : Rules). entry_in of c.args.line.now) c.rules.ensures) (ap (option_and_then deed_in) c.in-None.is) in
    rw e tt

pub returns-in-None-clause-told : goal.returns-in-None-clause-told
returns-in-None-clause-told g c = λ f fits.
    let e = no_entry (state_of f c.args.replayed.now) c.args.line.now (option_and_then deed_in c.in_ok-entry_of.field-0) (c.in_ok-entry_of.ensures.deed ∙ ap (λ (of : Rules). entry_in of c.args.line.now) c.rules.ensures) (ap (option_and_then deed_in) c.in-None.is) in
    rw e (sym (append-nil c.args.out.now.items))

pub returns-in-Some-Event-clause-went : goal.returns-in-Some-Event-clause-went
returns-in-Some-Event-clause-went g c =
    let event = event_of c.in-Some-Event.event in
    IfOk-weaker c.put_event.result (λ accepted. (f : Reading) → Fits c.put_event.new.replayed.names f → Went accepted (if_accepted (step (state_of f c.args.replayed.now) event)) (state_of f c.put_event.new.replayed)) (λ accepted. (f : Reading) → Fits c.put_event.new.replayed.names f → Went accepted (accepted_in (state_of f c.args.replayed.now) c.args.line.now) (state_of f c.put_event.new.replayed)) (λ accepted h f fits.
    let e = event_entry (state_of f c.args.replayed.now) c.args.line.now c.in_ok-entry_of.field-0 c.in-Some-Event.field-0 c.in-Some-Event.event c.in-Some-Event.is c.in-Some-Event.field-0-is (c.in_ok-entry_of.ensures.deed ∙ ap (λ (of : Rules). entry_in of c.args.line.now) c.rules.ensures) (c.in_ok-entry_of.ensures.some ∙ ap (λ (of : Rules). is_some (entry_in of c.args.line.now)) c.rules.ensures) in
    rw e (h f fits)) c.put_event.ensures.went

pub returns-in-Some-Event-clause-told : goal.returns-in-Some-Event-clause-told
returns-in-Some-Event-clause-told g c =
    let event = event_of c.in-Some-Event.event in
    IfOk-weaker c.put_event.result (λ accepted. (f : Reading) → Fits c.put_event.new.replayed.names f → c.put_event.new.out.items ≡ c.args.out.now.items ++ told_of (if_accepted (step (state_of f c.args.replayed.now) event))) (λ accepted. (f : Reading) → Fits c.put_event.new.replayed.names f → c.put_event.new.out.items ≡ c.args.out.now.items ++ told_of (accepted_in (state_of f c.args.replayed.now) c.args.line.now)) (λ accepted h f fits.
    let e = event_entry (state_of f c.args.replayed.now) c.args.line.now c.in_ok-entry_of.field-0 c.in-Some-Event.field-0 c.in-Some-Event.event c.in-Some-Event.is c.in-Some-Event.field-0-is (c.in_ok-entry_of.ensures.deed ∙ ap (λ (of : Rules). entry_in of c.args.line.now) c.rules.ensures) (c.in_ok-entry_of.ensures.some ∙ ap (λ (of : Rules). is_some (entry_in of c.args.line.now)) c.rules.ensures) in
    rw e (h f fits)) c.put_event.ensures.told

pub returns-in-Some-Run-clause-went : goal.returns-in-Some-Run-clause-went
returns-in-Some-Run-clause-went g c =
    let n = c.in-Some-Run.reductions in
    IfOk-weaker c.put_run.result (λ accepted. (f : Reading) → Fits c.put_run.new.replayed.names f → Went accepted (if_accepted (entry_step (state_of f c.args.replayed.now) (runs n))) (state_of f c.put_run.new.replayed)) (λ accepted. (f : Reading) → Fits c.put_run.new.replayed.names f → Went accepted (accepted_in (state_of f c.args.replayed.now) c.args.line.now) (state_of f c.put_run.new.replayed)) (λ accepted h f fits.
    let e = run_entry (state_of f c.args.replayed.now) c.args.line.now c.in_ok-entry_of.field-0 c.in-Some-Run.field-0 n c.in-Some-Run.is c.in-Some-Run.field-0-is (c.in_ok-entry_of.ensures.deed ∙ ap (λ (of : Rules). entry_in of c.args.line.now) c.rules.ensures) in
    rw e (h f fits)) c.put_run.ensures.went

pub returns-in-Some-Run-clause-told : goal.returns-in-Some-Run-clause-told
returns-in-Some-Run-clause-told g c =
    let n = c.in-Some-Run.reductions in
    IfOk-weaker c.put_run.result (λ accepted. (f : Reading) → Fits c.put_run.new.replayed.names f → c.put_run.new.out.items ≡ c.args.out.now.items ++ told_of (if_accepted (entry_step (state_of f c.args.replayed.now) (runs n)))) (λ accepted. (f : Reading) → Fits c.put_run.new.replayed.names f → c.put_run.new.out.items ≡ c.args.out.now.items ++ told_of (accepted_in (state_of f c.args.replayed.now) c.args.line.now)) (λ accepted h f fits.
    let e = run_entry (state_of f c.args.replayed.now) c.args.line.now c.in_ok-entry_of.field-0 c.in-Some-Run.field-0 n c.in-Some-Run.is c.in-Some-Run.field-0-is (c.in_ok-entry_of.ensures.deed ∙ ap (λ (of : Rules). entry_in of c.args.line.now) c.rules.ensures) in
    rw e (h f fits)) c.put_run.ensures.told
