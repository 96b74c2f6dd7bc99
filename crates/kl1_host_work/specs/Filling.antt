-- Which commands need room on the disk.
use Rattle.std.specs.Prelude.{Bool, true, false, cond, not, ◌&&◌, ◌||◌}
use Rattle.kl1_model.specs.Event as event
use Rattle.kl1_model.specs.declared.message.Message.{Message}
use Rattle.kl1_model.specs.declared.message.Message.TheVariants as message
use Rattle.kl1_model_server.specs.Command.{Command, does, run, shows}

-- whether a message lets a shoen go on, which may add entries without end; others let it stand, or are its last
abbrev pub goes_on : Message → Bool
goes_on message.Stop = false
goes_on message.Start = true
goes_on message.Abort = false
goes_on (message.Allow n) = true

-- whether a command makes a journal's file grow: each that may add an entry to it, but a message after which a shoen stands or ends, and what
-- lets go
abbrev pub fills_disk : Command → Bool
fills_disk (does (event.load text)) = true
fills_disk (does (event.start allowance low high t)) = true
fills_disk (does (event.control n m)) = goes_on m
fills_disk (does (event.reduce goal clause)) = true
fills_disk (does (event.answer n report t)) = true
fills_disk (does (event.forget n count)) = false
fills_disk (does (event.read q)) = false
fills_disk (does event.login) = false
fills_disk (does event.logout) = false
fills_disk (does event.reset) = false
fills_disk (run n) = true
fills_disk (shows from count) = false

-- whether a command is a reset
abbrev pub is_reset : Command → Bool
is_reset (does event.reset) = true
is_reset (does _) = false
is_reset (run n) = false
is_reset (shows from count) = false

-- whether a command opens or closes a session, of which a journal's file tells nothing
abbrev pub is_of_sessions : Command → Bool
is_of_sessions (does event.login) = true
is_of_sessions (does event.logout) = true
is_of_sessions (does _) = false
is_of_sessions (run n) = false
is_of_sessions (shows from count) = false

-- whether a command lacks room: a session is opened and closed without, a reset has some that is kept for it, and what makes a file grow
-- finds none if the file has as many bytes as it may; whatever else waits if what was written waits
abbrev pub lacks_room : Command → Bool → Bool → Bool → Bool
lacks_room c is_short lacks_reserve is_beyond = not (is_of_sessions c) && cond (is_reset c) lacks_reserve (is_short || (fills_disk c && is_beyond))
