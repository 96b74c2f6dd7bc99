-- What the system's limit on open files leaves for connections.
use Rattle.std.specs.Prelude.{ℕ, ◌+◌, ◌-◌, ◌*◌}
use Rattle.kl1_host_front.specs.declared.open_files.TheConstants.{FILES_KEPT, FILES_EACH}

-- how many connections may be open where so many files may be, beside those that are kept for the host and for each account
abbrev pub connections_within : ℕ → ℕ → ℕ
connections_within files accounts = files - (FILES_KEPT + FILES_EACH * accounts)
