-- Which commands are answered as if memory was refused, before an account is asked.
use Rattle.std.specs.Prelude.{ℕ, ◌&&◌, ◌||◌, not, nat_lt, nat_le, Bool, true, false, length}
use Rattle.kl1_model.specs.Event as event
use Rattle.kl1_model_server.specs.Command.{Command, does, run, shows}

-- how many bytes of source a command loads; 0 if it is no load
abbrev pub source_bytes : Command → ℕ
source_bytes (does (event.load source)) = length source
source_bytes (does _) = 0
source_bytes (run n) = 0
source_bytes (shows from count) = 0

-- whether a command is a logout, which each account answers
abbrev pub is_logout : Command → Bool
is_logout (does event.logout) = true
is_logout (does _) = false
is_logout (run n) = false
is_logout (shows from count) = false

-- whether who was let in by keys of an edition may do something to an account that is there or isn't, and has its key since an edition
abbrev pub lets_in : Bool → ℕ → ℕ → Bool
lets_in is_open since edition = is_open && nat_le since edition

-- whether a command is refused: the account lets nobody in with these keys, its file can't be written, or it loads more than the account may still
-- load; but no logout
abbrev pub is_refused : Command → Bool → Bool → ℕ → Bool
is_refused c lets_in is_stopped left = not (is_logout c) && (not lets_in || is_stopped || nat_lt left (source_bytes c))
