-- How often a line of the log is told that would come often.
use Rattle.std.specs.Prelude.{ℕ, Bool, true, ◌+◌, ◌-◌, nat_lt, nat_le, if◌then◌else◌, Option, Some, None}
use Rattle.kl1_host_front.specs.declared.pace.TheConstants.{TOLD_AGAIN_AFTER, MOST_LEFT_OUT}
use Rattle.kl1_host_front.specs.declared.pace.Pace.{Pace}

-- no line was told
abbrev pub no_pace : Pace
no_pace = record { last = None; left_out = 0 }

-- a line is told if none was, or if so much time went by since the last
abbrev pub is_due : Option ℕ → ℕ → Bool
is_due None now = true
is_due (Some last) now = nat_le TOLD_AGAIN_AFTER (now - last)

-- with how many that were left out a line is told
abbrev pub told_of : Pace → ℕ → Option ℕ
told_of p now = if is_due p.last now then Some p.left_out else None

-- one more is left out, or it begins anew with the line that is told
abbrev pub pace_after : Pace → ℕ → Pace
pace_after p now =
    if is_due p.last now then record { last = Some now; left_out = 0 }
    else record { last = p.last; left_out = if nat_lt p.left_out MOST_LEFT_OUT then p.left_out + 1 else p.left_out }
