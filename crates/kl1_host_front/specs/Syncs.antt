-- Words for when a journal's file is synced.
use Rattle.std.specs.Prelude.{ℕ, nat_le, ◌&&◌, if◌then◌else◌, List, codes, bytes_eq, Option, Some, None, option_and_then}
use Rattle.kl1_host_front.specs.Quantities.{duration_in}
use Rattle.kl1_host_front.specs.declared.sync.TheConstants.{MOST_SYNC_MILLISECONDS}
use Rattle.kl1_host_front.specs.declared.sync.Sync.{Sync}
use Rattle.kl1_host_front.specs.declared.sync.Sync.TheVariants as sync

-- a period, if it is one
abbrev pub every : ℕ → Option Sync
every n = if nat_le 1 n && nat_le n MOST_SYNC_MILLISECONDS then Some (sync.Every n) else None

-- the sync that these words are: `always`, `never` or a duration
abbrev pub sync_in : List ℕ → Option Sync
sync_in text =
    if bytes_eq text (codes "always") then Some sync.Always
    else if bytes_eq text (codes "never") then Some sync.Never
    else option_and_then every (duration_in text)
