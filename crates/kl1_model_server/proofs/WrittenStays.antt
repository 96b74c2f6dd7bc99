-- Each event leaves an account with a journal that has a text.
use Rattle.std.specs.Prelude.{◌≡◌, ℕ, zero, suc, ◌+◌, ◌-◌, ◌≤◌, ◌<◌, nat_le, nat_lt, not, ◌&&◌, Bool, true, false, if◌then◌else◌, List, [], ◌∷◌, ◌++◌, length, codes, decimal, Option, Some, None, is_some}
use Rattle.std.specs.List.{list_all, AllByRecursion}
use Rattle.std.proofs.Common.{refl, sym, ap, ◌∙◌, subst, arith}
use Rattle.std.proofs.lemmas.Bool.{and_parts, leb-true, ltb-true}
use Rattle.kl1_model.specs.declared.limits.TheConstants.{NUMBER_LIMIT, MOST_RUN, MOST_SOURCE_BYTES, MOST_LINE_BYTES, MOST_PRIORITY, MOST_MODULES, MOST_SESSIONS, MOST_DEPTH}
use Rattle.kl1_model.specs.declared.rules.Rules.{Rules}
use Rattle.kl1_model.specs.Text.{is_text}
use Rattle.kl1_model.specs.declared.message.Message.{Message}
use Rattle.kl1_model.specs.Term.{Term, variable}
use Rattle.kl1_model.specs.Meaning.{depth, highest, is_narrow, is_writable, is_numbered}
use Rattle.kl1_model.specs.Print.{print}
use Rattle.kl1_model.specs.Telling.{is_told_term, Asked, Given}
use Rattle.kl1_model.specs.Forgetting.{may_forget, gone, may_go, forget_by, forget_of}
use Rattle.kl1_model.specs.Goal.{is_goal}
use Rattle.kl1_model.specs.Nodes.{goal_nodes}
use Rattle.kl1_model.specs.Module.{Module, Reading, good, bad, read_module}
use Rattle.kl1_model.specs.Match.{module_of}
use Rattle.kl1_model.specs.State.{State, has_substitutes, has_told, has_forgetting, limits_of, Goal, Shoen, Origin, goal_at, shoen_at, names_of, names_of_module, with_names, is_living}
use Rattle.kl1_model.specs.Event.{Refusal, syntax, exists, shoen_ended, too_many_names, limit_passed, journal_full, sessions_refused, answer_refused, Event, load, start, control, reduce, read, login, logout, reset, answer, forget, loaded, opened, sent, reduced, welcome, bye, forgot, Transition, refuse, is_number, is_range, is_refused, unless, are_too_many, is_full, needs_entry, with_entry, with_reduction}
use Rattle.kl1_model.specs.Opening.{start_line, may_start, has_room_to_start, with_next_variables, started_shoen, start_goal}
use Rattle.kl1_model.specs.Sending.{may_send, has_room_to_send, sent_on, send_living, send_to}
use Rattle.kl1_model.specs.Answering.{answer_line, may_answer, has_room_to_answer, asked_at, given, is_numbered_by, answered, answer_asked, answer_by, answer_living, answer_to}
use Rattle.kl1_model.specs.Reduction.{Action, action_of, acted, reduce_goal}
use Rattle.kl1_model.specs.Choice.{is_in_run}
use Rattle.kl1_model.specs.Step.{load_module, start_by, step}
use Rattle.kl1_model.specs.code.Steps.{send_by, answer_in, reduced_by, with_module}
use Rattle.kl1_model_server.specs.Journal.{Entry, loads, starts, sends, steps, answers, forgets, runs, last_run_of, run_longer, entry_step, Journal, without_last, entered, stepped, with_event}
use Rattle.kl1_model_server.specs.laws.TextLaws.{HasLine, AreNames, IsWritten, HasBytes, FreshIsWritten, WrittenStays}
use Rattle.kl1_model_server.proofs.Besides.{stays_beside}
use Rattle.kl1_model_server.proofs.Replays.{reading_stays, rules_stay}
use Rattle.kl1_model_server.proofs.RulesKept.{kept_of, open_alike, sent_alike}
use Rattle.kl1_model_server.proofs.TextEntries.{length_hex}
use Rattle.kl1_model_server.proofs.NewNames.{with_names_new, no_names, names_are_texts}
use Rattle.kl1_model_server.proofs.SpelledTexts.{MayAct, actions_name_texts}
use Rattle.kl1_model_server.proofs.RunsKept.{step_run}
use Rattle.kl1_model_server.proofs.NamesKept.{IsNamed, twice_not, same_names, open_has, acted_named, sent_has}
use Rattle.kl1_model_server.proofs.ModuleNames.{module_names_are_texts}

pub fresh_is_written : FreshIsWritten
fresh_is_written rules name = record {
  rules = refl;
  journal = record { sessions = leb-true 0 MOST_SESSIONS refl; names = no_names rules; image = refl; entries = tt };
  names = no_names rules;
  sessions = leb-true 0 MOST_SESSIONS refl;
}

-- ---- the names of an account

-- what may be refused
named_if : (c : Bool) (r : Refusal) (s : State) (x : Transition) → (c ≡ true → IsNamed x.state) → IsNamed s → IsNamed (if c then x else refuse s r).state
named_if true r s x go h = go refl
named_if false r s x go h = h

-- what may be refused if a test says so
named_unless : (c : Bool) (r : Refusal) (s : State) (x : Transition) → IsNamed x.state → IsNamed s → IsNamed (if c then refuse s r else x).state
named_unless true r s x n h = h
named_unless false r s x n h = n

-- what may be refused by several tests
unless_named : (s : State) (rs : List (Bool × Refusal)) (x : Transition) → IsNamed x.state → IsNamed s → IsNamed (unless s rs x).state
unless_named s [] x n h = n
unless_named s (r ∷ rs) x n h = named_unless r.0 r.1 s (unless s rs x) (unless_named s rs x n h) h

-- what is refused if names are too many, and then by other tests
room_named : (c : Bool) (s : State) (rs : List (Bool × Refusal)) (x : Transition) → (not c ≡ true → IsNamed x.state) → IsNamed s → IsNamed (unless s ((c, too_many_names) ∷ rs) x).state
room_named true s rs x go h = h
room_named false s rs x go h = unless_named s rs x (go refl) h

-- names that come to those used, if there is room for them
more_named : (rules : Rules) (names others : List (List ℕ)) → AreNames rules names → list_all is_text others ≡ true → not (are_too_many rules (with_names names others)) ≡ true → AreNames rules (with_names names others)
more_named rules names others h texts room = record { few = leb-true (length (with_names names others)) (limits_of rules).names (twice_not (nat_le (length (with_names names others)) (limits_of rules).names) room); new = with_names_new names others h.new texts }

load_named : (s : State) (r : Reading Module) → ((m : Module) → r ≡ good m → list_all is_text (names_of_module m) ≡ true) → IsNamed s → IsNamed (load_module s r).state
load_named s (bad line) texts h = h
load_named s (good m) texts h =
    let names = with_names s.names (names_of_module m) in
    let x : Transition = record { state = with_entry (with_module s m); reply = loaded m.name } in
    let rest = (not (nat_lt (length s.modules) MOST_MODULES), limit_passed) ∷ (is_full s, journal_full) ∷ [] in
    named_unless (is_some (module_of s.modules m.name)) exists s (unless s ((are_too_many s.rules names, too_many_names) ∷ rest) x)
    (room_named (are_too_many s.rules names) s rest x (λ room. more_named s.rules s.names (names_of_module m) h (texts m refl) room) h) h

-- the facts of a start
may_start_line : (rules : Rules) (allowance low high : ℕ) (t : Term) → may_start allowance low high t ≡ true → HasLine rules (starts allowance low high t)
may_start_line rules allowance low high t h =
    let numbers = is_number allowance && is_range low high in
    let last = nat_le (length (start_line allowance low high t)) MOST_LINE_BYTES in
    let five = and_parts (numbers && is_goal t && is_writable t && is_numbered t) last h in
    let four = and_parts (numbers && is_goal t && is_writable t) (is_numbered t) five.0 in
    let three = and_parts (numbers && is_goal t) (is_writable t) four.0 in
    let two = and_parts numbers (is_goal t) three.0 in
    let one = and_parts (is_number allowance) (is_range low high) two.0 in
    let range = and_parts (nat_le low high) (nat_le high MOST_PRIORITY) one.1 in
    let least = leb-true low high range.0 in
    let most = leb-true high MOST_PRIORITY range.1 in
    (ltb-true allowance NUMBER_LIMIT one.0, omega arith, omega arith, two.1, three.1, four.1, leb-true (length (start_line allowance low high t)) MOST_LINE_BYTES five.1)

-- the goal of a start is one that a text can write
start_narrow : (rules : Rules) (allowance low high : ℕ) (t : Term) → may_start allowance low high t ≡ true → is_narrow t ≡ true
start_narrow rules allowance low high t h = (and_parts (is_narrow t) (nat_le (depth t) MOST_DEPTH) (may_start_line rules allowance low high t h).4).0

start_named : (s : State) (allowance low high : ℕ) (t : Term) → IsNamed s → IsNamed (step s (start allowance low high t)).state
start_named s allowance low high t h =
    let names = with_names s.names (names_of t) in
    let x : Transition = record { state = with_entry (start_goal s allowance low high t); reply = opened (suc s.last_shoen) } in
    let rest = (not (has_room_to_start s t), limit_passed) ∷ (is_full s, journal_full) ∷ [] in
    let goal = with_next_variables s.last_variable t in
    let count = s.last_variable + highest t in
    let u = record s { names = names; last_variable = suc (suc count); variables = s.variables + suc (suc (highest t)); nodes = s.nodes + goal_nodes t } in
    let shoen = started_shoen s allowance low high goal (variable (suc count)) (variable (suc (suc count))) in
    named_if (may_start allowance low high t) syntax s (start_by s allowance low high t) (λ may.
    room_named (are_too_many s.rules names) s rest x (λ room.
    let n : IsNamed u = more_named s.rules s.names (names_of t) h (names_are_texts t (start_narrow s.rules allowance low high t may)) room in
    same_names u (start_goal s allowance low high t) (open_has shoen goal u) (open_alike shoen goal u) n) h) h

send_by_named : (s : State) (n : ℕ) (m : Message) (h : Shoen) (o : Option Origin) → IsNamed s → IsNamed (send_by s n m h o).state
send_by_named s n m h None is = is
send_by_named s n m h (Some o) is =
    let x : Transition = record { state = with_entry (sent_on n m o.control s); reply = sent } in
    named_if (is_living h.life) shoen_ended s (send_living s n m o) (λ living.
    unless_named s ((not (has_room_to_send s m), limit_passed) ∷ (is_full s, journal_full) ∷ []) x (same_names s (sent_on n m o.control s) (sent_has n m o.control s) (sent_alike n m o.control s) is) is) is

send_named : (s : State) (n : ℕ) (m : Message) (o : Option Shoen) → IsNamed s → IsNamed (send_to s n m o).state
send_named s n m None is = is
send_named s n m (Some h) is = send_by_named s n m h h.origin is

-- the facts of an answer
may_answer_line : (rules : Rules) (n report : ℕ) (t : Term) → may_answer rules n report t ≡ true → HasLine rules (answers n report t)
may_answer_line rules n report t h =
    let numbers = has_substitutes rules && is_number n && is_number report && nat_le 1 report in
    let last = nat_le (length (answer_line n report t)) MOST_LINE_BYTES in
    let five = and_parts (numbers && is_goal t && is_writable t && is_numbered_by rules t) last h in
    let four = and_parts (numbers && is_goal t && is_writable t) (is_numbered_by rules t) five.0 in
    let three = and_parts (numbers && is_goal t) (is_writable t) four.0 in
    let two = and_parts numbers (is_goal t) three.0 in
    let both = and_parts (has_substitutes rules && is_number n && is_number report) (nat_le 1 report) two.0 in
    let first = and_parts (has_substitutes rules && is_number n) (is_number report) both.0 in
    let one = and_parts (has_substitutes rules) (is_number n) first.0 in
    let few = leb-true (length (answer_line n report t)) MOST_LINE_BYTES five.1 in
    (ltb-true n NUMBER_LIMIT one.1, ltb-true report NUMBER_LIMIT first.1, two.1, three.1, four.1, few)

answer_by_named : (s : State) (g : Given) (t : Term) (o : Option Asked) → IsNamed s → AreNames s.rules (with_names s.names (names_of t)) → IsNamed (answer_by s g t o).state
answer_by_named s g t None h is = h
answer_by_named s g t (Some a) h is = unless_named s ((g.tells_gone, answer_refused) ∷ []) (record { state = with_entry (answered a.new g t s); reply = sent }) (record { few = is.few; new = is.new }) h

asked_named : (s : State) (t : Term) (o : Option Asked) → is_narrow t ≡ true → IsNamed s → IsNamed (answer_asked s t o).state
asked_named s t o narrow is =
    let names = with_names s.names (names_of t) in
    let g = given s o t in
    let rest = (not (has_room_to_answer s g.new t), limit_passed) ∷ (is_full s, journal_full) ∷ [] in
    room_named (are_too_many s.rules names) s rest (answer_by s g t o) (λ room. answer_by_named s g t o is (more_named s.rules s.names (names_of t) is (names_are_texts t narrow) room)) is

answer_in_named : (s : State) (report : ℕ) (t : Term) (h : Shoen) (o : Option Origin) → is_narrow t ≡ true → IsNamed s → IsNamed (answer_in s report t h o).state
answer_in_named s report t h None narrow is = is
answer_in_named s report t h (Some o) narrow is = named_if (is_living h.life) shoen_ended s (answer_living s report t o) (λ living. asked_named s t (asked_at o report) narrow is) is

answer_named : (s : State) (report : ℕ) (t : Term) (o : Option Shoen) → is_narrow t ≡ true → IsNamed s → IsNamed (answer_to s report t o).state
answer_named s report t None narrow is = is
answer_named s report t (Some h) narrow is = answer_in_named s report t h h.origin narrow is

-- the goal of an answer is one that a text can write
answer_narrow : (rules : Rules) (n report : ℕ) (t : Term) → may_answer rules n report t ≡ true → is_narrow t ≡ true
answer_narrow rules n report t h = (and_parts (is_narrow t) (nat_le (depth t) MOST_DEPTH) (may_answer_line rules n report t h).3).0

gone_named : (s : State) (n count : ℕ) (o : Origin) → IsNamed s → IsNamed (with_entry (gone n count o s))
gone_named s n zero o h = record { few = h.few; new = h.new }
gone_named s n (suc count) o h = record { few = h.few; new = h.new }

forget_by_named : (s : State) (n count : ℕ) (h : Shoen) (o : Option Origin) → IsNamed s → IsNamed (forget_by s n count h o).state
forget_by_named s n count h None is = is
forget_by_named s n count h (Some o) is = unless_named s ((is_full s, journal_full) ∷ (not (may_go count h o), answer_refused) ∷ []) (record { state = with_entry (gone n count o s); reply = forgot }) (gone_named s n count o is) is

forget_named : (s : State) (n count : ℕ) (o : Option Shoen) → IsNamed s → IsNamed (forget_of s n count o).state
forget_named s n count None is = is
forget_named s n count (Some h) is = forget_by_named s n count h h.origin is

reduced_named : (s : State) (r : Bool) (g : Goal) (o : Option Action) → MayAct o → IsNamed s → IsNamed (reduced_by s r g o).state
reduced_named s r g None texts h = h
reduced_named s r g (Some a) texts h =
    unless_named s ((needs_entry r s && is_full s, journal_full) ∷ []) (record { state = acted g a (with_reduction r s); reply = reduced })
    (acted_named g a (with_reduction r s) texts (record { few = h.few; new = h.new })) h

reduce_named : (s : State) (r : Bool) (clause : ℕ) (g : Option Goal) → IsNamed s → IsNamed (reduce_goal s r clause g).state
reduce_named s r clause None h = h
reduce_named s r clause (Some g) h = reduced_named s r g (action_of s g clause) (actions_name_texts s g clause) h

-- each event leaves names that may have been used
pub step_named : (s : State) (e : Event) → IsNamed s → IsNamed (step s e).state
step_named s (load text) h = named_if (nat_le (length text) MOST_SOURCE_BYTES) syntax s (load_module s (read_module text)) (λ short. load_named s (read_module text) (module_names_are_texts text) h) h
step_named s (start allowance low high t) h = start_named s allowance low high t h
step_named s (control n m) h = named_if (may_send n m) syntax s (send_to s n m (shoen_at n s.shoens)) (λ may. send_named s n m (shoen_at n s.shoens) h) h
step_named s (reduce goal clause) h =
    let r = is_in_run s goal clause in
    named_if (is_number goal && is_number clause) syntax s (reduce_goal s r clause (goal_at goal s.goals)) (λ may. reduce_named s r clause (goal_at goal s.goals) h) h
step_named s (read q) h = same_names s (step s (read q)).state (ap (λ (z : State). z.names) (reading_stays s q)) (ap kept_of (reading_stays s q)) h
step_named s login h = named_if (nat_lt s.sessions MOST_SESSIONS) sessions_refused s (record { state = record s { sessions = suc s.sessions }; reply = welcome s.own_name }) (λ may. record { few = h.few; new = h.new }) h
step_named s logout h = named_if (nat_lt 0 s.sessions) sessions_refused s (record { state = record s { sessions = s.sessions - 1 }; reply = bye }) (λ may. record { few = h.few; new = h.new }) h
step_named s reset h = h
step_named s (answer n report t) h = named_if (may_answer s.rules n report t) syntax s (answer_to s report t (shoen_at n s.shoens)) (λ may. answer_named s report t (shoen_at n s.shoens) (answer_narrow s.rules n report t may) h) h
step_named s (forget n count) h = named_if (has_forgetting s.rules && may_forget n count) syntax s (forget_of s n count (shoen_at n s.shoens)) (λ may. forget_named s n count (shoen_at n s.shoens) h) h

-- ---- the sessions of an account

entry_sessions : (s : State) (e : Entry) → (entry_step s e).state.sessions ≡ s.sessions
entry_sessions s e = ap (λ (x : Transition). x.state.sessions) (stays_beside s.own_name s.sessions s e)

few_or : (c : Bool) (s : State) (x : Transition) (r : Refusal) → (c ≡ true → x.state.sessions ≤ MOST_SESSIONS) → s.sessions ≤ MOST_SESSIONS → (if c then x else refuse s r).state.sessions ≤ MOST_SESSIONS
few_or true s x r go h = go refl
few_or false s x r go h = h

entry_few : (s : State) (e : Entry) → s.sessions ≤ MOST_SESSIONS → (entry_step s e).state.sessions ≤ MOST_SESSIONS
entry_few s e h = subst (λ n. n ≤ MOST_SESSIONS) (sym (entry_sessions s e)) h

step_few : (s : State) (e : Event) → s.sessions ≤ MOST_SESSIONS → (step s e).state.sessions ≤ MOST_SESSIONS
step_few s (load text) h = entry_few s (loads text) h
step_few s (start allowance low high t) h = entry_few s (starts allowance low high t) h
step_few s (control n m) h = entry_few s (sends n m) h
step_few s (reduce goal clause) h = entry_few s (steps goal clause) h
step_few s (read q) h = subst (λ n. n ≤ MOST_SESSIONS) (sym (ap (λ (z : State). z.sessions) (reading_stays s q))) h
step_few s login h = few_or (nat_lt s.sessions MOST_SESSIONS) s (record { state = record s { sessions = suc s.sessions }; reply = welcome s.own_name }) sessions_refused (λ may. ltb-true s.sessions MOST_SESSIONS may) h
step_few s logout h = few_or (nat_lt 0 s.sessions) s (record { state = record s { sessions = s.sessions - 1 }; reply = bye }) sessions_refused (λ may. let few : s.sessions - 1 ≤ MOST_SESSIONS = omega arith in few) h
step_few s reset h = h
step_few s (answer n report t) h = entry_few s (answers n report t) h
step_few s (forget n count) h = entry_few s (forgets n count) h

-- ---- the journal of an account

-- what isn't refused passed the test
passed : (c : Bool) (s : State) (x : Transition) (r : Refusal) → is_refused (if c then x else refuse s r).reply ≡ false → c ≡ true
passed true s x r h = refl
passed false s x r h = cc

added : (rules : Rules) (es : List Entry) (e : Entry) → AllByRecursion (HasLine rules) es → HasLine rules e → AllByRecursion (HasLine rules) (es ++ e ∷ [])
added rules [] e h is = (is, tt)
added rules (d ∷ ds) e h is = (h.0, added rules ds e h.1 is)

entry_written : (j : Journal) (e : Entry) → HasLine j.rules e → IsWritten j → IsWritten (entered j e)
entry_written j e is w = record { sessions = w.sessions; names = w.names; image = w.image; entries = added j.rules j.entries e w.entries is }

removed : (rules : Rules) (es : List Entry) → AllByRecursion (HasLine rules) es → AllByRecursion (HasLine rules) (without_last es)
removed rules [] h = tt
removed rules (e ∷ []) h = tt
removed rules (e ∷ f ∷ es) h = (h.0, removed rules (f ∷ es) h.1)

-- a run that is one longer, or a new one
longer_by : (rules : Rules) (b : Bool) (es : List Entry) (n : ℕ) → nat_lt (suc n) MOST_RUN ≡ b → AllByRecursion (HasLine rules) es → AllByRecursion (HasLine rules) (if b then without_last es ++ runs (suc (suc n)) ∷ [] else es ++ runs 1 ∷ [])
longer_by rules true es n room h = let few = ltb-true (suc n) MOST_RUN room in added rules (without_last es) (runs (suc (suc n))) (removed rules es h) (omega arith, omega arith)
longer_by rules false es n room h = added rules es (runs 1) h (omega arith, omega arith)

longer_lines : (rules : Rules) (es : List Entry) (l : ℕ) → AllByRecursion (HasLine rules) es → AllByRecursion (HasLine rules) (run_longer es l)
longer_lines rules es zero h = added rules es (runs 1) h (omega arith, omega arith)
longer_lines rules es (suc n) h = longer_by rules (nat_lt (suc n) MOST_RUN) es n refl h

-- a reduction more, in a run or not
stepped_written : (j : Journal) (goal clause n : ℕ) → goal < NUMBER_LIMIT → clause < NUMBER_LIMIT → n ≤ MOST_RUN → IsWritten j → IsWritten (stepped j goal clause n)
stepped_written j goal clause zero g c few w = entry_written j (steps goal clause) (g, c) w
stepped_written j goal clause (suc zero) g c few w = entry_written j (runs 1) (omega arith, omega arith) w
stepped_written j goal clause (suc (suc n)) g c few w =
    record { sessions = w.sessions; names = w.names; image = w.image; entries = longer_lines j.rules j.entries (last_run_of j.entries) w.entries }

accepted_written : (j : Journal) (s : State) (e : Event) → HasBytes e → is_refused (step s e).reply ≡ false → IsNamed (step s e).state → (step s e).state.sessions ≤ MOST_SESSIONS → j.rules ≡ s.rules → IsWritten j → IsWritten (with_event j e (step s e).state)
accepted_written j s (load text) bytes a named few same w =
    entry_written j (loads text) (bytes, omega (arith, length_hex text, leb-true (length text) MOST_SOURCE_BYTES (passed (nat_le (length text) MOST_SOURCE_BYTES) s (load_module s (read_module text)) syntax a))) w
accepted_written j s (start allowance low high t) bytes a named few same w =
    entry_written j (starts allowance low high t) (may_start_line j.rules allowance low high t (passed (may_start allowance low high t) s _ syntax a)) w
accepted_written j s (control n m) bytes a named few same w = entry_written j (sends n m) (passed (may_send n m) s (send_to s n m (shoen_at n s.shoens)) syntax a) w
accepted_written j s (reduce goal clause) bytes a named few same w =
    let r = is_in_run s goal clause in
    let both = and_parts (is_number goal) (is_number clause) (passed (is_number goal && is_number clause) s (reduce_goal s r clause (goal_at goal s.goals)) syntax a) in
    stepped_written j goal clause (step s (reduce goal clause)).state.run (ltb-true goal NUMBER_LIMIT both.0) (ltb-true clause NUMBER_LIMIT both.1) (step_run s goal clause a) w
accepted_written j s (read q) bytes a named few same w = w
accepted_written j s login bytes a named few same w = record { sessions = few; names = w.names; image = w.image; entries = w.entries }
accepted_written j s logout bytes a named few same w = record { sessions = few; names = w.names; image = w.image; entries = w.entries }
accepted_written j s reset bytes a named few same w = record { sessions = few; names = named; image = refl; entries = tt }
accepted_written j s (answer n report t) bytes a named few same w =
    let may = passed (may_answer s.rules n report t) s (answer_to s report t (shoen_at n s.shoens)) syntax a in
    entry_written j (answers n report t) (subst (λ rules. HasLine rules (answers n report t)) (sym same) (may_answer_line s.rules n report t may)) w
accepted_written j s (forget n count) bytes a named few same w =
    let may = and_parts (has_forgetting s.rules) (may_forget n count) (passed (has_forgetting s.rules && may_forget n count) s (forget_of s n count (shoen_at n s.shoens)) syntax a) in
    let both = and_parts (is_number n) (is_number count) may.1 in
    entry_written j (forgets n count) (ap has_forgetting same ∙ may.0, ltb-true n NUMBER_LIMIT both.0, ltb-true count NUMBER_LIMIT both.1) w

noted_written : (c : Bool) (j : Journal) (s : State) (e : Event) → HasBytes e → is_refused (step s e).reply ≡ c → IsNamed (step s e).state → (step s e).state.sessions ≤ MOST_SESSIONS → j.rules ≡ s.rules → IsWritten j → IsWritten (if c then j else with_event j e (step s e).state)
noted_written true j s e bytes a named few same w = w
noted_written false j s e bytes a named few same w = accepted_written j s e bytes a named few same w

stepped_rules : (j : Journal) (goal clause n : ℕ) → (stepped j goal clause n).rules ≡ j.rules
stepped_rules j goal clause zero = refl
stepped_rules j goal clause (suc zero) = refl
stepped_rules j goal clause (suc (suc n)) = refl

event_rules : (j : Journal) (s : State) (e : Event) → j.rules ≡ s.rules → (with_event j e (step s e).state).rules ≡ (step s e).state.rules
event_rules j s (load text) same = same ∙ sym (rules_stay s (load text))
event_rules j s (start allowance low high t) same = same ∙ sym (rules_stay s (start allowance low high t))
event_rules j s (control n m) same = same ∙ sym (rules_stay s (control n m))
event_rules j s (reduce goal clause) same = stepped_rules j goal clause (step s (reduce goal clause)).state.run ∙ same ∙ sym (rules_stay s (reduce goal clause))
event_rules j s (read q) same = same ∙ sym (rules_stay s (read q))
event_rules j s login same = same ∙ sym (rules_stay s login)
event_rules j s logout same = same ∙ sym (rules_stay s logout)
event_rules j s reset same = refl
event_rules j s (answer n report t) same = same ∙ sym (rules_stay s (answer n report t))
event_rules j s (forget n count) same = same ∙ sym (rules_stay s (forget n count))

noted_rules : (c : Bool) (j : Journal) (s : State) (e : Event) → j.rules ≡ s.rules → (if c then j else with_event j e (step s e).state).rules ≡ (step s e).state.rules
noted_rules true j s e same = same ∙ sym (rules_stay s e)
noted_rules false j s e same = event_rules j s e same

pub written_stays : WrittenStays
written_stays k e bytes w =
    let x = step k.state e in
    let named = step_named k.state e w.names in
    let few = step_few k.state e w.sessions in
    record {
      journal = noted_written (is_refused x.reply) k.journal k.state e bytes refl named few w.rules w.journal;
      rules = noted_rules (is_refused x.reply) k.journal k.state e w.rules;
      names = named;
      sessions = few;
    }
