-- The entry of each event that an account accepts has a line.
use Rattle.std.proofs.Common.{◌≡◌, ℕ, ◌≤◌, ◌+◌, ◌*◌, ◌&&◌, Bool, true, false, if◌then◌else◌, length, refl, arith}
use Rattle.std.specs.Prelude.{nat_le}
use Rattle.std.proofs.lemmas.Bool.{and_from, and_parts, lt-ltb, le-leb, leb-true}
use Rattle.kl1_model.specs.declared.limits.TheConstants.{NUMBER_LIMIT, MOST_PRIORITY, MOST_SOURCE_BYTES, MOST_LINE_BYTES}
use Rattle.kl1_model.specs.declared.rules.Rules.{Rules}
use Rattle.kl1_model.specs.Term.{Term}
use Rattle.kl1_model.specs.Goal.{is_goal}
use Rattle.kl1_model.specs.Meaning.{is_writable, is_numbered}
use Rattle.kl1_model.specs.State.{State, shoen_at, goal_at, has_substitutes, has_forgetting}
use Rattle.kl1_model.specs.Event.{Event, load, start, control, reduce, read, login, logout, reset, answer, forget, syntax, Transition, refuse, is_number, is_range, is_refused}
use Rattle.kl1_model.specs.Module.{read_module}
use Rattle.kl1_model.specs.Opening.{start_line, may_start}
use Rattle.kl1_model.specs.Choice.{is_in_run}
use Rattle.kl1_model.specs.Reduction.{reduce_goal}
use Rattle.kl1_model.specs.Sending.{may_send, send_to}
use Rattle.kl1_model.specs.Answering.{answer_line, is_numbered_by, may_answer, answer_to}
use Rattle.kl1_model.specs.Forgetting.{may_forget, forget_of}
use Rattle.kl1_model.specs.Step.{load_module, start_by, step}
use Rattle.kl1_model_server.specs.Journal.{loads, starts, sends, steps, answers, forgets}
use Rattle.kl1_journal_entries.specs.Lined.{is_lined, entry_of, lined_entry}
use Rattle.kl1_journal_entries.proofs.Sound.{if_true}

-- a test that an accepted event has passed
passed : (b : Bool) (x : Transition) (s : State) → is_refused (if b then x else refuse s syntax).reply ≡ false → b ≡ true
passed true x s h = refl
passed false x s h = cc

number_below : (n : ℕ) → n ≤ MOST_PRIORITY → is_number n ≡ true
number_below n small = lt-ltb n NUMBER_LIMIT (omega (arith, small))

-- a start that may start is lined
may_lined : (rules : Rules) (allowance low high : ℕ) (t : Term) → may_start allowance low high t ≡ true → is_lined rules (starts allowance low high t) ≡ true
may_lined rules allowance low high t may =
    let a = and_parts (is_number allowance && is_range low high && is_goal t && is_writable t && is_numbered t) (nat_le (length (start_line allowance low high t)) MOST_LINE_BYTES) may in
    let b = and_parts (is_number allowance && is_range low high && is_goal t && is_writable t) (is_numbered t) a.0 in
    let d = and_parts (is_number allowance && is_range low high && is_goal t) (is_writable t) b.0 in
    let e = and_parts (is_number allowance && is_range low high) (is_goal t) d.0 in
    let f = and_parts (is_number allowance) (is_range low high) e.0 in
    let g = and_parts (nat_le low high) (nat_le high MOST_PRIORITY) f.1 in
    let top = leb-true high MOST_PRIORITY g.1 in
    let numbers = and_from (is_number allowance && is_number low) (is_number high) (and_from (is_number allowance) (is_number low) f.0 (number_below low (omega (arith, leb-true low high g.0, top)))) (number_below high top) in
    and_from (is_number allowance && is_number low && is_number high && is_goal t && is_writable t && is_numbered t) (nat_le (length (start_line allowance low high t)) MOST_LINE_BYTES)
    (and_from (is_number allowance && is_number low && is_number high && is_goal t && is_writable t) (is_numbered t)
    (and_from (is_number allowance && is_number low && is_number high && is_goal t) (is_writable t) (and_from (is_number allowance && is_number low && is_number high) (is_goal t) numbers e.1) d.1) b.1) a.1

-- an answer that may be given is lined
answer_lined : (rules : Rules) (n report : ℕ) (t : Term) → may_answer rules n report t ≡ true → is_lined rules (answers n report t) ≡ true
answer_lined rules n report t may =
    let numbers = has_substitutes rules && is_number n && is_number report && nat_le 1 report in
    let a = and_parts (numbers && is_goal t && is_writable t && is_numbered_by rules t) (nat_le (length (answer_line n report t)) MOST_LINE_BYTES) may in
    let b = and_parts (numbers && is_goal t && is_writable t) (is_numbered_by rules t) a.0 in
    let d = and_parts (numbers && is_goal t) (is_writable t) b.0 in
    let e = and_parts numbers (is_goal t) d.0 in
    let f = and_parts (has_substitutes rules && is_number n && is_number report) (nat_le 1 report) e.0 in
    let g = and_parts (has_substitutes rules && is_number n) (is_number report) f.0 in
    let h = and_parts (has_substitutes rules) (is_number n) g.0 in
    and_from (is_number n && is_number report && is_goal t && is_writable t && is_numbered_by rules t) (nat_le (length (answer_line n report t)) MOST_LINE_BYTES)
    (and_from (is_number n && is_number report && is_goal t && is_writable t) (is_numbered_by rules t)
    (and_from (is_number n && is_number report && is_goal t) (is_writable t) (and_from (is_number n && is_number report) (is_goal t) (and_from (is_number n) (is_number report) h.1 g.1) e.1) d.1) b.1) a.1

-- an event that is accepted is lined, if it is an entry
pub accepted_entries : (s : State) (e : Event) → is_refused (step s e).reply ≡ false → lined_entry s.rules e ≡ entry_of e
accepted_entries s (load text) h =
    let few = leb-true (length text) MOST_SOURCE_BYTES (passed (nat_le (length text) MOST_SOURCE_BYTES) (load_module s (read_module text)) s h) in
    if_true (is_lined s.rules (loads text)) (loads text) (le-leb (5 + 2 * length text) MOST_LINE_BYTES (omega (arith, few)))
accepted_entries s (start allowance low high t) h =
    if_true (is_lined s.rules (starts allowance low high t)) (starts allowance low high t) (may_lined s.rules allowance low high t (passed (may_start allowance low high t) (start_by s allowance low high t) s h))
accepted_entries s (control n m) h = if_true (may_send n m) (sends n m) (passed (may_send n m) (send_to s n m (shoen_at n s.shoens)) s h)
accepted_entries s (reduce goal clause) h = if_true (is_number goal && is_number clause) (steps goal clause) (passed (is_number goal && is_number clause) (reduce_goal s (is_in_run s goal clause) clause (goal_at goal s.goals)) s h)
accepted_entries s (answer n report t) h =
    if_true (is_lined s.rules (answers n report t)) (answers n report t) (answer_lined s.rules n report t (passed (may_answer s.rules n report t) (answer_to s report t (shoen_at n s.shoens)) s h))
accepted_entries s (forget n count) h =
    let p = passed (has_forgetting s.rules && may_forget n count) (forget_of s n count (shoen_at n s.shoens)) s h in
    let a = and_parts (has_forgetting s.rules) (may_forget n count) p in
    let b = and_parts (is_number n) (is_number count) a.1 in
    if_true (is_lined s.rules (forgets n count)) (forgets n count) (and_from (has_forgetting s.rules && is_number n) (is_number count) (and_from (has_forgetting s.rules) (is_number n) a.0 b.0) b.1)
accepted_entries s (read q) h = refl
accepted_entries s login h = refl
accepted_entries s logout h = refl
accepted_entries s reset h = refl
