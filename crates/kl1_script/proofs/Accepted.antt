-- What is written for a line by what became of its entry.
use Rattle.std.proofs.Common.{◌≡◌, ℕ, suc, Bool, true, false, List, ◌∷◌, ◌++◌, Option, Some, None, refl, sym, ap, ◌∙◌, if◌then◌else◌}
use Rattle.std.specs.Prelude.{option_and_then, is_some}
use Rattle.kl1_model.specs.State.{State}
use Rattle.kl1_model.specs.Event.{Event, Transition, is_refused}
use Rattle.kl1_model.specs.Step.{step}
use Rattle.kl1_model_server.specs.Command.{reply_lines, written_lines}
use Rattle.kl1_model_server.specs.Journal.{Entry, runs, entry_step}
use Rattle.kl1_model_server.specs.JournalText.{entry_in}
use Rattle.kl1_model_server.specs.Replay.{written_entries, written_fault}
use Rattle.kl1_model_server.proofs.ReplayReplies.{written_step, written_entry}
use Rattle.kl1_user_events.specs.Views.{event_of}
use Rattle.kl1_user_events.specs.declared.event.Event as events
use Rattle.kl1_journal_entries.specs.declared.deed.Deed.{Deed}
use Rattle.kl1_journal_entries.specs.declared.deed.Deed.TheVariants as deed
use Rattle.kl1_journal_entries.specs.Found.{deed_in}
use Rattle.kl1_journal_entries.specs.Lined.{entry_of}
use Rattle.kl1_script.specs.Replays.{if_accepted, accepted_in}
use Rattle.kl1_script.proofs.FirstSteps.{event_does}

not_refused : (v : Bool) (y x : Transition) → (if v then None else Some y) ≡ Some x → v ≡ false
not_refused true y x e = cc
not_refused false y x e = refl

same_step : (v : Bool) (y x : Transition) → (if v then None else Some y) ≡ Some x → y ≡ x
same_step true y x e = cc
same_step false y x e = cc

refused : (v : Bool) (y : Transition) → (if v then None else Some y) ≡ None → v ≡ true
refused true y e = refl
refused false y e = cc

step_accepted : (next : State → List ℕ) (k : ℕ) (y x : Transition) → if_accepted y ≡ Some x → written_step next k y ≡ written_lines (reply_lines x.reply) ++ next x.state
step_accepted next k y x e =
    rw (not_refused (is_refused y.reply) y x e) (ap (λ (z : Transition). written_lines (reply_lines z.reply) ++ next z.state) (same_step (is_refused y.reply) y x e))

entry_accepted : (next : State → List ℕ) (k : ℕ) (s : State) (o : Option Entry) (x : Transition) → option_and_then (λ e. if_accepted (entry_step s e)) o ≡ Some x → written_entry next k s o ≡ written_lines (reply_lines x.reply) ++ next x.state
entry_accepted next k s None x h = cc
entry_accepted next k s (Some e) x h = step_accepted next k (entry_step s e) x h

-- an entry that is accepted
pub one_accepted : (k n : ℕ) (s : State) (line : List ℕ) (lines : List (List ℕ)) (rest : List ℕ) (x : Transition) → accepted_in s line ≡ Some x → written_entries k n s (line ∷ lines) rest ≡ written_lines (reply_lines x.reply) ++ written_entries (suc k) (suc n) x.state lines rest
one_accepted k n s line lines rest x h = entry_accepted (λ after. written_entries (suc k) (suc n) after lines rest) k s (entry_in s.rules line) x h

entry_fault : (next : State → List ℕ) (k : ℕ) (s : State) (o : Option Entry) → option_and_then (λ e. if_accepted (entry_step s e)) o ≡ None → written_entry next k s o ≡ written_fault k
entry_fault next k s None h = refl
entry_fault next k s (Some e) h = rw (refused (is_refused (entry_step s e).reply) (entry_step s e) h) refl

-- a line that is no entry's, or whose entry is refused
pub one_fault : (k n : ℕ) (s : State) (line : List ℕ) (lines : List (List ℕ)) (rest : List ℕ) → accepted_in s line ≡ None → written_entries k n s (line ∷ lines) rest ≡ written_fault k
one_fault k n s line lines rest h = entry_fault (λ after. written_entries (suc k) (suc n) after lines rest) k s (entry_in s.rules line) h

-- a line that is no entry's
pub no_entry : (s : State) (line : List ℕ) (found : Option Entry) → found ≡ entry_in s.rules line → found ≡ None → accepted_in s line ≡ None
no_entry s line found is none = rw (sym is ∙ none) refl

-- the event of a line that is an entry's
event_by : (s : State) (o : Option Entry) (e : Event) → entry_of e ≡ o → is_some o ≡ true → option_and_then (λ d. if_accepted (entry_step s d)) o ≡ if_accepted (step s e)
event_by s None e is some = cc
event_by s (Some x) e is some = ap if_accepted (event_does e x s is)

-- a line whose entry asks for this event
pub event_entry : (s : State) (line : List ℕ) (found : Option Deed) (d : Deed) (e : events.Event) → found ≡ Some d → d ≡ deed.Event e → option_and_then deed_in found ≡ entry_in s.rules line → is_some found ≡ is_some (entry_in s.rules line) → accepted_in s line ≡ if_accepted (step s (event_of e))
event_entry s line found d e some what is same =
    let asked : found ≡ Some (deed.Event e) = some ∙ ap (λ (x : Deed). let o : Option Deed = Some x in o) what in
    event_by s (entry_in s.rules line) (event_of e) (sym (ap (option_and_then deed_in) asked) ∙ is) (sym same ∙ ap is_some asked)

-- a line whose entry is this run
pub run_entry : (s : State) (line : List ℕ) (found : Option Deed) (d : Deed) (n : ℕ) → found ≡ Some d → d ≡ deed.Run n → option_and_then deed_in found ≡ entry_in s.rules line → accepted_in s line ≡ if_accepted (entry_step s (runs n))
run_entry s line found d n some what is =
    let asked : found ≡ Some (deed.Run n) = some ∙ ap (λ (x : Deed). let o : Option Deed = Some x in o) what in
    ap (option_and_then (λ e. if_accepted (entry_step s e))) (sym is ∙ ap (option_and_then deed_in) asked)
