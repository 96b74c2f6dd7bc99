-- What replies and answers to commands tell to be counted.
use Rattle.std.specs.Prelude.{ℕ, Bool, true, false}
use Rattle.kl1_model.specs.Event as model
use Rattle.kl1_user_events.specs.Views.{reply_of}
use Rattle.kl1_command.specs.declared.performed.Performed.{Performed}
use Rattle.kl1_command.specs.declared.performed.Performed.TheVariants as performed

-- how many events and steps, and whether a journal was ended
pub record Told : Type 0 where
  pub events : ℕ
  pub steps : ℕ
  pub is_reset : Bool

-- n steps, each of which is an event
abbrev pub told_steps : ℕ → Told
told_steps n = record { events = n; steps = n; is_reset = false }

-- how many events a reply tells: one of a load, a start, a message, an answer, a letting go and a reduction, and those of a run
abbrev pub events_by : model.Reply → ℕ
events_by (model.loaded name) = 1
events_by (model.opened n) = 1
events_by model.sent = 1
events_by model.reduced = 1
events_by (model.ran n) = n
events_by model.forgot = 1
events_by _ = 0

-- how many steps a reply tells: one of a reduction, and those of a run
abbrev pub steps_by : model.Reply → ℕ
steps_by model.reduced = 1
steps_by (model.ran n) = n
steps_by _ = 0

-- whether a reply tells that a journal was ended: that of an accepted reset
abbrev pub ends_journal : model.Reply → Bool
ends_journal model.was_reset = true
ends_journal _ = false

-- what a reply tells
abbrev pub told_by : model.Reply → Told
told_by reply = record { events = events_by reply; steps = steps_by reply; is_reset = ends_journal reply }

-- what an answer to a command tells
abbrev pub told_in : Performed → Told
told_in (performed.Whole reply) = told_by (reply_of reply)
told_in (performed.Short n) = told_steps n
told_in performed.Memory = told_steps 0

-- how many events and steps an answer to a command tells
abbrev pub events_told : Performed → ℕ
events_told p = (told_in p).events

abbrev pub steps_told : Performed → ℕ
steps_told p = (told_in p).steps
