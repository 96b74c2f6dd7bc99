-- What a command did to an account.
use Rattle.std.specs.Prelude.{◌≡◌, ℕ, ◌<◌, ◌==◌, if◌then◌else◌, Option, Some, None}
use Rattle.kl1_model.specs.Event as model
use Rattle.kl1_model_server.specs.Journal.{Kept, Done}
use Rattle.kl1_model_server.specs.Command.{Command, does, run, shows, said, run_from, act}
use Rattle.kl1_user_events.specs.Views.{reply_of}
use Rattle.kl1_command.specs.declared.performed.Performed.{Performed}
use Rattle.kl1_command.specs.declared.performed.Performed.TheVariants as performed

-- why an event was refused, if it was
abbrev pub refusal_in : model.Reply → Option model.Refusal
refusal_in (model.refused r) = Some r
refusal_in (model.loaded name) = None
refusal_in (model.opened n) = None
refusal_in model.sent = None
refusal_in model.reduced = None
refusal_in (model.ran n) = None
refusal_in (model.shown text) = None
refusal_in (model.status_is c charged allowance alive) = None
refusal_in (model.listed texts) = None
refusal_in (model.quiet_is b) = None
refusal_in (model.welcome name) = None
refusal_in model.bye = None
refusal_in model.was_reset = None
refusal_in model.forgot = None

-- only a run stops short: after some of its steps, fewer than it may do
abbrev pub StopsShort : Kept → Command → ℕ → Kept → Type 0
StopsShort s (does e) n after = ⊥
StopsShort s (run k) n after = (0 < n) × (n < k) × (run_from n 0 s ≡ record { kept = after; reply = model.ran n })
StopsShort s (shows from count) n after = ⊥

-- a command was done, with its reply; or a run's first steps were; or nothing was
abbrev pub Performs : Kept → Command → Performed → Kept → Type 0
Performs s c (performed.Whole reply) after = act s c ≡ record { kept = after; reply = reply_of reply }
Performs s c (performed.Short n) after = StopsShort s c n after
Performs s c performed.Memory after = after ≡ s

-- a run that a refusal stops, after n steps that are done
abbrev pub stopped_by : Kept → ℕ → model.Refusal → Done
stopped_by s n r = said s (if n == 0 then model.refused r else model.ran n)

-- if memory was refused at once, a host is as it was
abbrev pub IsUntouched : {H : Type 0} → Performed → H → H → Type 0
IsUntouched (performed.Whole reply) before after = Unit {0}
IsUntouched (performed.Short n) before after = Unit {0}
IsUntouched performed.Memory before after = after ≡ before
