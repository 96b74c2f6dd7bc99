-- What is known of a goal that may be started, or be an answer.
use Rattle.kl1_user_account.proofs.Words.{◌≡◌, ℕ, ◌≤◌, ◌&&◌, Bool, true, length, arith, nat_le, and_parts, leb-true, Term, is_number, is_range, MOST_LINE_BYTES, MOST_PRIORITY, MONITOR_PRIORITY, is_goal, is_writable, may_start, start_line, may_answer, answer_line, is_numbered_by, has_substitutes, Rules}
use Rattle.kl1_model.specs.Meaning.{is_numbered}

-- of five tests that hold, the first, the second and the fourth
all_hold : (a b c d e : Bool) → (a && b && c && d && e) ≡ true → (a ≡ true) × ((b ≡ true) × (d ≡ true))
all_hold a b c d e m =
    let p = and_parts (a && b && c && d) e m in
    let q = and_parts (a && b && c) d p.0 in
    let r = and_parts (a && b) c q.0 in
    let s = and_parts a b r.0 in
    (s.0, (s.1, q.1))

-- a goal that may be started is a goal, its variables are numbered, and its priorities are below a monitor's
pub may_start_is : (allowance low high : ℕ) (goal : Term) → may_start allowance low high goal ≡ true → (is_goal goal ≡ true) × (is_numbered goal ≡ true) × (low ≤ MONITOR_PRIORITY) × (high ≤ MONITOR_PRIORITY)
may_start_is allowance low high goal m =
    let t = all_hold (is_number allowance && is_range low high) (is_goal goal) (is_writable goal) (is_numbered goal) (nat_le (length (start_line allowance low high goal)) MOST_LINE_BYTES) m in
    let u = and_parts (nat_le low high) (nat_le high MOST_PRIORITY) (and_parts (is_number allowance) (is_range low high) t.0).1 in
    let le : low ≤ high = leb-true low high u.0 in
    let most : high ≤ MOST_PRIORITY = leb-true high MOST_PRIORITY u.1 in
    (t.1.0, t.1.1, omega arith, omega arith)

-- so is one that may be an answer, as the rules want its variables numbered
pub may_answer_is : (rules : Rules) (n report : ℕ) (goal : Term) → may_answer rules n report goal ≡ true → (is_goal goal ≡ true) × (is_numbered_by rules goal ≡ true)
may_answer_is rules n report goal m =
    (all_hold (has_substitutes rules && is_number n && is_number report && nat_le 1 report) (is_goal goal) (is_writable goal) (is_numbered_by rules goal) (nat_le (length (answer_line n report goal)) MOST_LINE_BYTES) m).1
