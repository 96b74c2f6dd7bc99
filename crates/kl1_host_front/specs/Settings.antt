-- What a setting is set to.
use Rattle.std.specs.Prelude.{◌≡◌, ◌≤◌, ℕ, List, codes, Option, Some, option_and_then}
use Rattle.std.specs.String.{string_bytes}
use Rattle.std.specs.declared.alloc.Global.{Global}
use Rattle.std.specs.declared.string.String.{String}
use Rattle.toml.specs.Data.{Data, as_str}
use Rattle.kl1_host_front.specs.Quantities.{size_in, duration_in}
use Rattle.kl1_host_front.specs.Syncs.{sync_in}
use Rattle.kl1_host_front.specs.declared.sync.Sync.{Sync}
use Rattle.kl1_host_front.specs.declared.settings.Settings.{Settings}
use Rattle.kl1_host_front.specs.declared.settings.TheConstants.{MOST_WORKERS, MOST_CONNECTIONS, MOST_SPARE}

-- the text that a value is
abbrev pub IsText : Data → String Global → Type 0
IsText value text = as_str value ≡ Some (string_bytes text)

-- the size in bytes, the time in milliseconds, and the kind of `sync` that it is in words
abbrev pub IsSize : Data → ℕ → Type 0
IsSize value n = option_and_then size_in (as_str value) ≡ Some n

abbrev pub IsTime : Data → ℕ → Type 0
IsTime value n = (option_and_then duration_in (as_str value) ≡ Some n) × (1 ≤ n)

abbrev pub IsSync : Data → Sync → Type 0
IsSync value s = option_and_then sync_in (as_str value) ≡ Some s

-- of what a host was set to, what has this name is what a value says now, and nothing else is another
pub data IsSet (name : List ℕ) (value : Data) (old new : Settings) : Type 0 where
  listen : name ≡ codes "listen" → (text : String Global) → IsText value text → new ≡ record old { listen = text } → IsSet name value old new
  web : name ≡ codes "web" → (text : String Global) → IsText value text → new ≡ record old { web = Some text } → IsSet name value old new
  page : name ≡ codes "page" → (text : String Global) → IsText value text → new ≡ record old { page = Some text } → IsSet name value old new
  workers : name ≡ codes "workers" → (n : ℕ) → n ≤ MOST_WORKERS → new ≡ record old { workers = Some n } → IsSet name value old new
  sync : name ≡ codes "sync" → (s : Sync) → IsSync value s → new ≡ record old { sync = s } → IsSet name value old new
  idle : name ≡ codes "idle" → (n : ℕ) → IsTime value n → new ≡ record old { idle = n } → IsSet name value old new
  idle_login : name ≡ codes "idle_login" → (n : ℕ) → IsTime value n → new ≡ record old { idle_login = n } → IsSet name value old new
  connections : name ≡ codes "connections" → (n : ℕ) → n ≤ MOST_CONNECTIONS → new ≡ record old { connections = n } → IsSet name value old new
  connections_each : name ≡ codes "connections_each" → (n : ℕ) → n ≤ MOST_CONNECTIONS → new ≡ record old { connections_each = n } → IsSet name value old new
  waiting_each : name ≡ codes "waiting_each" → (n : ℕ) → n ≤ MOST_CONNECTIONS → new ≡ record old { waiting_each = n } → IsSet name value old new
  memory_each : name ≡ codes "memory_each" → (n : ℕ) → IsSize value n → new ≡ record old { memory_each = n } → IsSet name value old new
  codes_each : name ≡ codes "codes_each" → (n : ℕ) → IsSize value n → new ≡ record old { codes_each = n } → IsSet name value old new
  disk_each : name ≡ codes "disk_each" → (n : ℕ) → IsSize value n → new ≡ record old { disk_each = n } → IsSet name value old new
  spare_accounts : name ≡ codes "spare_accounts" → (n : ℕ) → n ≤ MOST_SPARE → new ≡ record old { spare_accounts = n } → IsSet name value old new
