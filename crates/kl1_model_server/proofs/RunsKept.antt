-- How long the last run of a journal is after what is done to an account.
use Rattle.std.specs.Prelude.{◌≡◌, ℕ, suc, ◌≤◌, ◌==◌, nat_le, nat_lt, not, ◌&&◌, Bool, true, false, if◌then◌else◌, List, [], ◌∷◌, length, Option, Some, None, is_some}
use Rattle.std.proofs.Common.{refl, sym, ap, ◌∙◌, subst, arith}
use Rattle.std.proofs.lemmas.Bool.{false≢true, and_parts, ltb-true, eqb-true}
use Rattle.kl1_model.specs.declared.limits.TheConstants.{MOST_RUN, MOST_MODULES, MOST_SOURCE_BYTES}
use Rattle.kl1_model.specs.declared.message.Message.{Message}
use Rattle.kl1_model.specs.Term.{Term}
use Rattle.kl1_model.specs.Module.{Module, Reading, good, bad, read_module}
use Rattle.kl1_model.specs.Match.{module_of}
use Rattle.kl1_model.specs.State.{State, has_substitutes, has_forgetting, has_runs, Goal, Shoen, Origin, goal_at, shoen_at, names_of, names_of_module, with_names, is_living}
use Rattle.kl1_model.specs.Event.{Refusal, syntax, source, exists, no_shoen, shoen_ended, too_many_names, limit_passed, journal_full, answer_refused, load, start, control, reduce, answer, forget, loaded, opened, sent, reduced, forgot, Transition, refuse, is_number, is_refused, unless, are_too_many, is_full, with_entry, run_after, needs_entry, with_reduction}
use Rattle.kl1_model.specs.Opening.{may_start, has_room_to_start, start_goal}
use Rattle.kl1_model.specs.Sending.{may_send, has_room_to_send, sent_on, send_living, send_to}
use Rattle.kl1_model.specs.Answering.{may_answer, has_room_to_answer, asked_at, given, answered, answer_asked, answer_by, answer_living, answer_to}
use Rattle.kl1_model.specs.Reduction.{Action, action_of, acted, reduce_goal}
use Rattle.kl1_model.specs.Choice.{Chosen, first, is_first, is_in_run}
use Rattle.kl1_model.specs.Telling.{Asked, Given}
use Rattle.kl1_model.specs.Forgetting.{may_forget, gone, may_go, forget_by, forget_of}
use Rattle.kl1_model.specs.Step.{load_module, start_by, step}
use Rattle.kl1_model.specs.code.Steps.{send_by, answer_in, reduced_by, with_module}
use Rattle.kl1_model_server.specs.Journal.{chosen_step, first_step}
use Rattle.kl1_model_server.proofs.RulesKept.{acted_run}

-- ---- events that are no reductions

-- what isn't refused left no run as the last entry
abbrev pub Unrun : Transition → Type 0
Unrun x = is_refused x.reply ≡ false → x.state.run ≡ 0

unrun_refused : (s : State) (r : Refusal) → Unrun (refuse s r)
unrun_refused s r a = absurd (false≢true (sym a))

unrun_or : (c : Bool) (s : State) (x : Transition) (r : Refusal) → Unrun x → Unrun (if c then x else refuse s r)
unrun_or true s x r u = u
unrun_or false s x r u = unrun_refused s r

unrun_by : (c : Bool) (s : State) (r : Refusal) (x : Transition) → Unrun x → Unrun (if c then refuse s r else x)
unrun_by true s r x u = unrun_refused s r
unrun_by false s r x u = u

unrun_unless : (s : State) (rs : List (Bool × Refusal)) (x : Transition) → Unrun x → Unrun (unless s rs x)
unrun_unless s [] x u = u
unrun_unless s (r ∷ rs) x u = unrun_by r.0 s r.1 (unless s rs x) (unrun_unless s rs x u)

load_unrun : (s : State) (r : Reading Module) → Unrun (load_module s r)
load_unrun s (bad line) = unrun_refused s (source line)
load_unrun s (good m) =
    unrun_unless s
    ((is_some (module_of s.modules m.name), exists) ∷ (are_too_many s.rules (with_names s.names (names_of_module m)), too_many_names)
    ∷ (not (nat_lt (length s.modules) MOST_MODULES), limit_passed) ∷ (is_full s, journal_full) ∷ []) (record { state = with_entry (with_module s m); reply = loaded m.name }) (λ a. refl)

pub loads_unrun : (s : State) (text : List ℕ) → Unrun (step s (load text))
loads_unrun s text = unrun_or (nat_le (length text) MOST_SOURCE_BYTES) s (load_module s (read_module text)) syntax (load_unrun s (read_module text))

pub starts_unrun : (s : State) (allowance low high : ℕ) (t : Term) → Unrun (step s (start allowance low high t))
starts_unrun s allowance low high t =
    unrun_or (may_start allowance low high t) s (start_by s allowance low high t) syntax
    (unrun_unless s
    ((are_too_many s.rules (with_names s.names (names_of t)), too_many_names) ∷ (not (has_room_to_start s t), limit_passed) ∷ (is_full s, journal_full) ∷ [])
    (record { state = with_entry (start_goal s allowance low high t); reply = opened (suc s.last_shoen) }) (λ a. refl))

send_by_unrun : (s : State) (n : ℕ) (m : Message) (h : Shoen) (o : Option Origin) → Unrun (send_by s n m h o)
send_by_unrun s n m h None = unrun_refused s no_shoen
send_by_unrun s n m h (Some o) =
    unrun_or (is_living h.life) s (send_living s n m o) shoen_ended
    (unrun_unless s ((not (has_room_to_send s m), limit_passed) ∷ (is_full s, journal_full) ∷ []) (record { state = with_entry (sent_on n m o.control s); reply = sent }) (λ a. refl))

send_unrun : (s : State) (n : ℕ) (m : Message) (o : Option Shoen) → Unrun (send_to s n m o)
send_unrun s n m None = unrun_refused s no_shoen
send_unrun s n m (Some h) = send_by_unrun s n m h h.origin

pub sends_unrun : (s : State) (n : ℕ) (m : Message) → Unrun (step s (control n m))
sends_unrun s n m = unrun_or (may_send n m) s (send_to s n m (shoen_at n s.shoens)) syntax (send_unrun s n m (shoen_at n s.shoens))

answer_by_unrun : (s : State) (g : Given) (t : Term) (o : Option Asked) → Unrun (answer_by s g t o)
answer_by_unrun s g t None = unrun_refused s answer_refused
answer_by_unrun s g t (Some a) = unrun_unless s ((g.tells_gone, answer_refused) ∷ []) (record { state = with_entry (answered a.new g t s); reply = sent }) (λ e. refl)

asked_unrun : (s : State) (t : Term) (o : Option Asked) → Unrun (answer_asked s t o)
asked_unrun s t o =
    let g = given s o t in
    unrun_unless s
    ((are_too_many s.rules (with_names s.names (names_of t)), too_many_names) ∷ (not (has_room_to_answer s g.new t), limit_passed) ∷ (is_full s, journal_full) ∷ [])
    (answer_by s g t o) (answer_by_unrun s g t o)

answer_in_unrun : (s : State) (report : ℕ) (t : Term) (h : Shoen) (o : Option Origin) → Unrun (answer_in s report t h o)
answer_in_unrun s report t h None = unrun_refused s no_shoen
answer_in_unrun s report t h (Some o) = unrun_or (is_living h.life) s (answer_living s report t o) shoen_ended (asked_unrun s t (asked_at o report))

answer_unrun : (s : State) (report : ℕ) (t : Term) (o : Option Shoen) → Unrun (answer_to s report t o)
answer_unrun s report t None = unrun_refused s no_shoen
answer_unrun s report t (Some h) = answer_in_unrun s report t h h.origin

pub answers_unrun : (s : State) (n report : ℕ) (t : Term) → Unrun (step s (answer n report t))
answers_unrun s n report t =
    unrun_or (may_answer s.rules n report t) s (answer_to s report t (shoen_at n s.shoens)) syntax (answer_unrun s report t (shoen_at n s.shoens))

forget_by_unrun : (s : State) (n count : ℕ) (h : Shoen) (o : Option Origin) → Unrun (forget_by s n count h o)
forget_by_unrun s n count h None = unrun_refused s no_shoen
forget_by_unrun s n count h (Some o) =
    unrun_unless s ((is_full s, journal_full) ∷ (not (may_go count h o), answer_refused) ∷ []) (record { state = with_entry (gone n count o s); reply = forgot }) (λ a. refl)

forget_unrun : (s : State) (n count : ℕ) (o : Option Shoen) → Unrun (forget_of s n count o)
forget_unrun s n count None = unrun_refused s no_shoen
forget_unrun s n count (Some h) = forget_by_unrun s n count h h.origin

pub forgets_unrun : (s : State) (n count : ℕ) → Unrun (step s (forget n count))
forgets_unrun s n count = unrun_or (has_forgetting s.rules && may_forget n count) s (forget_of s n count (shoen_at n s.shoens)) syntax (forget_unrun s n count (shoen_at n s.shoens))

-- ---- reductions

-- how long the last run is after a reduction
abbrev pub run_with : Bool → State → ℕ
run_with in_run s = if in_run then run_after s.run else 0

-- what isn't refused made the last run this long
abbrev RunsTo : ℕ → Transition → Type 0
RunsTo n x = is_refused x.reply ≡ false → x.state.run ≡ n

noted_run : (c : Bool) (s : State) (n : ℕ) (r : Refusal) (x : Transition) → RunsTo n x → RunsTo n (if c then refuse s r else x)
noted_run true s n r x u = λ a. absurd (false≢true (sym a))
noted_run false s n r x u = u

reduced_run : (s : State) (r : Bool) (g : Goal) (o : Option Action) → RunsTo (run_with r s) (reduced_by s r g o)
reduced_run s r g None = λ a. absurd (false≢true (sym a))
reduced_run s r g (Some a) =
    noted_run (needs_entry r s && is_full s) s (run_with r s) journal_full (record { state = acted g a (with_reduction r s); reply = reduced }) (λ b. acted_run g a (with_reduction r s))

reduce_run : (s : State) (r : Bool) (clause : ℕ) (o : Option Goal) → RunsTo (run_with r s) (reduce_goal s r clause o)
reduce_run s r clause None = λ a. absurd (false≢true (sym a))
reduce_run s r clause (Some g) = reduced_run s r g (action_of s g clause)

may_run : (c : Bool) (s : State) (n : ℕ) (x : Transition) (r : Refusal) → RunsTo n x → RunsTo n (if c then x else refuse s r)
may_run true s n x r u = u
may_run false s n x r u = λ a. absurd (false≢true (sym a))

-- how long the last run is after a reduction that isn't refused
pub reduction_run : (s : State) (goal clause : ℕ) → is_refused (step s (reduce goal clause)).reply ≡ false → (step s (reduce goal clause)).state.run ≡ run_with (is_in_run s goal clause) s
reduction_run s goal clause =
    let r = is_in_run s goal clause in
    may_run (is_number goal && is_number clause) s (run_with r s) (reduce_goal s r clause (goal_at goal s.goals)) syntax (reduce_run s r clause (goal_at goal s.goals))

few_after : (c : Bool) (n : ℕ) → nat_lt n MOST_RUN ≡ c → (if c then suc n else 1) ≤ MOST_RUN
few_after true n h = let less = ltb-true n MOST_RUN h in omega (arith, less)
few_after false n h = omega arith

few_with : (r : Bool) (s : State) → run_with r s ≤ MOST_RUN
few_with true s = few_after (nat_lt s.run MOST_RUN) s.run refl
few_with false s = omega arith

-- a run isn't too long
pub step_run : (s : State) (goal clause : ℕ) → is_refused (step s (reduce goal clause)).reply ≡ false → (step s (reduce goal clause)).state.run ≤ MOST_RUN
step_run s goal clause a = subst (λ n. n ≤ MOST_RUN) (sym (reduction_run s goal clause a)) (few_with (is_in_run s goal clause) s)

-- a run that goes on had one reduction less
pub run_goes_on : (n m : ℕ) → run_after n ≡ suc (suc m) → n ≡ suc m
run_goes_on n m = by_case (nat_lt n MOST_RUN)
  where
    by_case : (c : Bool) → (if c then suc n else 1) ≡ suc (suc m) → n ≡ suc m
    by_case true h = omega (arith, h)
    by_case false h = absurd (omega (arith, h))

-- and there was room in it
pub run_has_room : (n m : ℕ) → run_after n ≡ suc (suc m) → nat_lt n MOST_RUN ≡ true
run_has_room n m = by_case (nat_lt n MOST_RUN)
  where
    by_case : (c : Bool) → (if c then suc n else 1) ≡ suc (suc m) → c ≡ true
    by_case true h = refl
    by_case false h = absurd (omega (arith, h))

chosen_first : (s : State) (goal clause : ℕ) (o : Option Chosen) → elim o [ None ↦ false | Some c ↦ c.goal == goal && c.clause == clause ] ≡ true →
    chosen_step s o ≡ step s (reduce goal clause)
chosen_first s goal clause None h = absurd (false≢true h)
chosen_first s goal clause (Some c) h =
    let both = and_parts (c.goal == goal) (c.clause == clause) h in
    ap (λ g. step s (reduce g c.clause)) (eqb-true c.goal goal both.0) ∙ ap (λ k. step s (reduce goal k)) (eqb-true c.clause clause both.1)

-- a reduction in a run is the first step
pub run_is_first : (s : State) (goal clause : ℕ) → is_in_run s goal clause ≡ true → first_step s ≡ step s (reduce goal clause)
run_is_first s goal clause h = chosen_first s goal clause (first s) (and_parts (has_runs s.rules) (is_first s goal clause) h).1

-- and the rules have runs
pub run_has_rules : (s : State) (goal clause : ℕ) → is_in_run s goal clause ≡ true → has_runs s.rules ≡ true
run_has_rules s goal clause h = (and_parts (has_runs s.rules) (is_first s goal clause) h).0
