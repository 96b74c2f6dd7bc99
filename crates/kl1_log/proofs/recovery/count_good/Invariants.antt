use Rattle.std.proofs.Common.{◌≡◌, ◌<◌, ◌≤◌, ◌-◌, true, false, take}
use Rattle.std.specs.Prelude.{is_some}
use Rattle.kl1_model_server.specs.JournalText.{journal_of}
use Rattle.kl1_log.specs.Cuts.{whole_lines}
use Rattle.kl1_log.proofs.recovery.count_good.Given as goal

-- the first `good` lines are a journal, and the first `bad` aren't
abbrev pub invariant-loop-bad : goal.invariant-loop-bad
invariant-loop-bad l =
    (is_some (journal_of (take l.good (whole_lines l.text))) ≡ true) × (is_some (journal_of (take l.bad (whole_lines l.text))) ≡ false) × (l.good < l.bad) × (l.bad ≤ l.fn.high)

abbrev pub decreases-loop-bad : goal.decreases-loop-bad
decreases-loop-bad l = l.bad - l.good
