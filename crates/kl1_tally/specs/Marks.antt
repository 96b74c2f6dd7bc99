-- How many events and steps of an account stand among marks.
use Rattle.std.specs.Prelude.{ℕ, cond, List, sum_by}
use Rattle.kl1_tally.specs.declared.view.Mark.{Mark}
use Rattle.kl1_tally.specs.Numbers.{same}

-- 1 for a mark of an account, else 0
abbrev pub event_of : ℕ → Mark → ℕ
event_of k m = same k m.account

-- 1 for a mark of an account that is a step, else 0
abbrev pub step_of : ℕ → Mark → ℕ
step_of k m = cond m.step (same k m.account) 0

-- how many events of an account stand among some marks
abbrev pub events_at : ℕ → List Mark → ℕ
events_at k marks = sum_by (event_of k) marks

-- how many steps of an account stand among some marks
abbrev pub steps_at : ℕ → List Mark → ℕ
steps_at k marks = sum_by (step_of k) marks
