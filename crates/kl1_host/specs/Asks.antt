-- What a host is asked at its socket.
use Rattle.std.specs.Prelude.{ℕ, ◌-◌, ◌==◌, ◌&&◌, nat_le, Bool, if◌then◌else◌, List, length, take, slice_get, Some, None, codes, bytes_eq}
use Rattle.kl1_host.specs.declared.control.Ask.{Ask}
use Rattle.kl1_host.specs.declared.control.Ask.TheVariants.{Status, Stop, Accounts, Reload, Close, Unknown}

-- bytes without a line feed at their end
abbrev pub line_in : List ℕ → List ℕ
line_in bytes = elim (slice_get bytes (length bytes - 1)) [ None ↦ bytes | Some b ↦ if b == 10 then take (length bytes - 1) bytes else bytes ]

-- whether a line asks that an account leaves, whose name stands after that
abbrev pub is_close : List ℕ → Bool
is_close line = nat_le 6 (length line) && bytes_eq (take 6 line) (codes "close ")

-- what a line asks
abbrev pub line_asks : List ℕ → Ask
line_asks line = if bytes_eq line (codes "status") then Status else if bytes_eq line (codes "stop") then Stop else if bytes_eq line (codes "accounts") then Accounts else if bytes_eq line (codes "reload") then Reload else if is_close line then Close 6 (length line) else Unknown

-- what bytes ask, of which the last may be a line feed
abbrev pub asked_in : List ℕ → Ask
asked_in bytes = line_asks (line_in bytes)
