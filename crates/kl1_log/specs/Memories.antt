-- What a file in memory shows.
use Rattle.std.specs.Prelude.{Bool, map, reverse, option_map}
use Rattle.kl1_log.specs.declared.snapshot.Image.{Image}
use Rattle.kl1_log.specs.declared.snapshot.Snapshot.{Snapshot}
use Rattle.kl1_log.specs.declared.memory.Memory.{Memory}
use Rattle.kl1_log.specs.Files.{Bytes, FileState, Course}

-- its bytes
abbrev pub bytes_of : Image → Bytes
bytes_of i = record { synced = i.synced.items; pending = i.pending.items }

-- a state of it
abbrev pub state_of : Snapshot → FileState
state_of s = record { now = bytes_of s.held; before = option_map bytes_of s.before; next = option_map bytes_of s.next }

-- its states, the last first
abbrev pub course_of : Memory → Course
course_of m = record { now = state_of m.state; past = reverse (map state_of m.past.items) }

-- whether no call has failed
abbrev pub is_usable_memory : Memory → Bool
is_usable_memory m = m.usable
