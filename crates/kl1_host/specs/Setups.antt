-- How a host is set up by its settings.
use Rattle.std.specs.Prelude.{◌≡◌, ◌≤◌, ℕ, ◌*◌, Bool, true, false, unwrap_or, min}
use Rattle.std.specs.Duration.{as_nanos}
use Rattle.kl1_host_front.specs.declared.settings.Settings.{Settings}
use Rattle.kl1_host_front.specs.declared.sync.Sync.{Sync}
use Rattle.kl1_host_front.specs.declared.sync.Sync.TheVariants as sync
use Rattle.kl1_host_work.specs.declared.host.Syncing.{Syncing}
use Rattle.kl1_host_work.specs.declared.starting.Setup.{Setup}

-- whether replies wait until what they tell is on disk
abbrev pub is_waited_for : Sync → Bool
is_waited_for sync.Always = true
is_waited_for (sync.Every milliseconds) = false
is_waited_for sync.Never = false

-- after how many milliseconds a change is written at the latest: a longer time than a tenth of a second is as that
abbrev pub period_of : Sync → ℕ
period_of sync.Always = 100
period_of (sync.Every milliseconds) = min milliseconds 100
period_of sync.Never = 100

-- journals are written, and replies wait, as is set
pub record IsSynced (set : Sync) (s : Syncing) : Type 0 where
  pub waits : s.replies_wait ≡ is_waited_for set
  pub period : as_nanos s.period ≡ period_of set * 1_000_000

-- settings are those of before, but for connections, which may be fewer
abbrev pub IsFitted : Settings → Settings → Type 0
IsFitted before after = (after ≡ record before { connections = after.connections }) × (after.connections ≤ before.connections)

-- a host of this number of accounts, with so many places for these and others, is set up by these settings
pub record IsSetUp (settings : Settings) (accounts places : ℕ) (s : Setup) : Type 0 where
  pub workers : s.workers ≡ unwrap_or settings.workers places
  pub connections : s.connections ≡ settings.connections
  pub each : s.limits.each ≡ settings.connections_each
  pub waiting : s.limits.waiting_each ≡ settings.waiting_each
  pub idle : as_nanos s.limits.idle ≡ settings.idle * 1_000_000
  pub idle_login : as_nanos s.limits.idle_login ≡ settings.idle_login * 1_000_000
  pub syncing : IsSynced settings.sync s.syncing
  pub codes : s.codes_each ≡ settings.codes_each
  pub memory : s.memory_each ≡ settings.memory_each
  pub disk : s.disk_each ≡ settings.disk_each
  pub here : s.accounts ≡ accounts
  pub in_all : s.places ≡ places
