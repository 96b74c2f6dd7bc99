-- Lists of goals, as they are kept.
use Rattle.std.specs.Prelude.{ℕ, ◌==◌, nat_lt, not, ◌&&◌, Bool, true, false, if◌then◌else◌}
use Rattle.kl1_goals.specs.declared.task.Task.{Task}
use Rattle.kl1_goals.specs.declared.task.Task.TheVariants.{Monitor, Reduces, Substitutes}
use Rattle.kl1_goals.specs.declared.standing.Standing.{Standing}
use Rattle.kl1_goals.specs.declared.goal.Goal.{Goal}

-- whether a task is a monitor's
abbrev pub is_monitor_task : {N : Type 0} → Task N → Bool
is_monitor_task Monitor = true
is_monitor_task (Reduces x) = false
is_monitor_task (Substitutes x) = false

-- whether a goal is a monitor
abbrev pub is_monitor : {N : Type 0} → Goal N → Bool
is_monitor g = is_monitor_task g.task

-- a goal's number
abbrev pub number_of : {N : Type 0} → Goal N → ℕ
number_of g = g.number

-- whether a goal has a number
abbrev pub has_number : {N : Type 0} → ℕ → Goal N → Bool
has_number n g = g.number == n

-- whether a goal has another number
abbrev pub is_other : {N : Type 0} → ℕ → Goal N → Bool
is_other n g = not (g.number == n)

-- whether a goal has a greater number
abbrev pub is_after : {N : Type 0} → ℕ → Goal N → Bool
is_after n g = nat_lt n g.number

-- whether a goal is the monitor of a shoen
abbrev pub is_monitor_of : {N : Type 0} → ℕ → Goal N → Bool
is_monitor_of n g = g.shoen == n && is_monitor g

-- whether a goal is of a shoen, and not its monitor
abbrev pub is_goal_of : {N : Type 0} → ℕ → Goal N → Bool
is_goal_of n g = g.shoen == n && not (is_monitor g)

-- a goal, which stands so from now on if it has the number
abbrev pub stood_by : {N : Type 0} → ℕ → Standing → Goal N → Goal N
stood_by n s g = record g { standing = if g.number == n then s else g.standing }

-- whether a goal is of a shoen, as its monitor too
abbrev pub is_in : {N : Type 0} → ℕ → Goal N → Bool
is_in n g = g.shoen == n

-- a goal, which may step from now on, or may not, if it is of a shoen and not its monitor
abbrev pub enabled_in : {N : Type 0} → ℕ → Bool → Goal N → Goal N
enabled_in n b g = record g { is_enabled = if is_goal_of n g then b else g.is_enabled }

-- a goal, which stands so and may step, or may not, from now on if it has the number
abbrev pub looked_at : {N : Type 0} → ℕ → Standing → Bool → Goal N → Goal N
looked_at n s b g = record g { standing = if g.number == n then s else g.standing; is_enabled = if g.number == n then b else g.is_enabled }
