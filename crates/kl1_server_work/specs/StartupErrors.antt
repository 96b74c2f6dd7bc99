-- What the server tells if it doesn't serve, and its status.
use Rattle.std.specs.Prelude.{ℕ, List, [], ◌∷◌, ◌++◌, codes}
use Rattle.kl1_server_work.specs.declared.startup_error.StartupError.{StartupError}
use Rattle.kl1_server_work.specs.declared.startup_error.StartupError.TheVariants as startup_error

-- what standard error is told
abbrev pub line_of : StartupError → List ℕ
line_of startup_error.Usage = codes "usage: kl1_server FILE ADDRESS WORKERS ACCEPT" ++ 10 ∷ []
line_of startup_error.Accounts = codes "kl1_server: bad accounts" ++ 10 ∷ []
line_of startup_error.Listen = codes "kl1_server: listen fault" ++ 10 ∷ []
line_of startup_error.Memory = codes "kl1_server: no memory" ++ 10 ∷ []

-- the program's status
abbrev pub status_of : StartupError → ℕ
status_of startup_error.Usage = 2
status_of startup_error.Accounts = 2
status_of startup_error.Listen = 1
status_of startup_error.Memory = 1
