-- What was seen of an account.
use Rattle.std.specs.Prelude.{Option, Some, None}
use Rattle.kl1_host_work.specs.declared.front.Sight.{Sight}

-- what was seen last: the later sight, if there is one
abbrev pub later : Option Sight → Option Sight → Option Sight
later None before = before
later (Some sight) before = Some sight
