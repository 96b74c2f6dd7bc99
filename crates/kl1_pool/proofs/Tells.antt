-- What an event makes of what a book tells.
use Rattle.std.proofs.Common.{◌≡◌, ℕ, zero, suc, ◌+◌, ◌-◌, ◌<◌, ◌^◌, nat_le, nat_lt, not, ◌&&◌, Bool, true, false, if◌then◌else◌, List, [], ◌∷◌, ◌++◌, map, take, drop, length, refl, sym, ap, ◌∙◌, subst, arith}
use Rattle.std.specs.Prelude.{Option, Some, None, is_some}
use Rattle.kl1_model.specs.declared.limits.TheConstants.{MOST_LISTED, MOST_MODULES, MOST_RUN, MOST_SESSIONS, MOST_SOURCE_BYTES}
use Rattle.kl1_model.specs.Term.{Term}
use Rattle.kl1_model.specs.Print.{cut_print}
use Rattle.kl1_model.specs.declared.message.Message.{Message}
use Rattle.kl1_model.specs.declared.rules.Rules.{Rules}
use Rattle.kl1_model.specs.Module.{Module, Reading, good, bad, read_module}
use Rattle.kl1_model.specs.Match.{module_of}
use Rattle.kl1_model.specs.State.{Goal, Origin, Shoen, State, goal_at, shoen_at, has_forgetting, names_of, names_of_module, with_names, is_living}
use Rattle.kl1_model.specs.Event as model
use Rattle.kl1_model.specs.Event.{Transition, refuse, unless, are_too_many, is_full, needs_entry, is_number, with_entry, with_reduction}
use Rattle.kl1_model.specs.Choice.{is_in_run}
use Rattle.kl1_model.specs.Reduction.{Action, reduce_goal, acted, action_of}
use Rattle.kl1_model.specs.Opening.{may_start, has_room_to_start, start_goal}
use Rattle.kl1_model.specs.Sending.{may_send, has_room_to_send, send_to, send_living, sent_on}
use Rattle.kl1_model.specs.Answering.{may_answer, has_room_to_answer, asked_at, given, answered, answer_by, answer_asked, answer_living, answer_to}
use Rattle.kl1_model.specs.Asking.{elements_of, reply_to, origin_at, kept_at}
use Rattle.kl1_model.specs.Forgetting.{may_forget, may_go, gone, forget_by, forget_of}
use Rattle.kl1_model.specs.Telling.{Asked, Given}
use Rattle.kl1_model.specs.Step.{load_module, start_by, step}
use Rattle.kl1_model.specs.code.Steps.{reduced_by, send_by, answer_in, value_of, status_of, reports_of, with_module}
use Rattle.kl1_model_server.specs.Journal.{Entry, loads, starts, sends, steps, answers, forgets, runs, run_length, last_run_of, run_longer, without_last, entered, stepped, Journal, noted, new_journal}
use Rattle.kl1_model_server.specs.Journal.{Kept, Done, done}
use Rattle.kl1_tally.specs.Seats.{Book}
use Rattle.kl1_pool.specs.declared.totals_before_reset.TotalsBeforeReset.{TotalsBeforeReset}
use Rattle.kl1_command.specs.Told.{events_by, steps_by}
use Rattle.kl1_pool.specs.Counted.{events_in, reduces_in, IsCounted, with_more, past_by, is_run, ended, HasRoom}

-- what holds of both sides of a choice holds of it
pub by_choice : (P : Transition → Type 0) (c : Bool) (x y : Transition) → P x → P y → P (if c then x else y)
by_choice P true x y h k = h
by_choice P false x y h k = k

-- what isn't refused holds, and what is refused does
pub by_unless : (P : Transition → Type 0) (s : State) (rs : List (Bool × model.Refusal)) (x : Transition) → ((r : model.Refusal) → P (refuse s r)) → P x → P (model.unless s rs x)
by_unless P s [] x refuses h = h
by_unless P s (r ∷ rs) x refuses h = by_choice P r.0 (refuse s r.1) (unless s rs x) (refuses r.1) (by_unless P s rs x refuses h)

-- events among more entries
pub events_more : (es fs : List Entry) → events_in (es ++ fs) ≡ events_in es + events_in fs
events_more [] fs = let e : events_in fs ≡ 0 + events_in fs = omega arith in e
events_more (loads text ∷ es) fs = let h = events_more es fs in let e : suc (events_in (es ++ fs)) ≡ suc (events_in es) + events_in fs = omega (arith, h) in e
events_more (starts allowance low high t ∷ es) fs = let h = events_more es fs in let e : suc (events_in (es ++ fs)) ≡ suc (events_in es) + events_in fs = omega (arith, h) in e
events_more (sends n m ∷ es) fs = let h = events_more es fs in let e : suc (events_in (es ++ fs)) ≡ suc (events_in es) + events_in fs = omega (arith, h) in e
events_more (answers n report t ∷ es) fs = let h = events_more es fs in let e : suc (events_in (es ++ fs)) ≡ suc (events_in es) + events_in fs = omega (arith, h) in e
events_more (forgets n count ∷ es) fs = let h = events_more es fs in let e : suc (events_in (es ++ fs)) ≡ suc (events_in es) + events_in fs = omega (arith, h) in e
events_more (steps goal clause ∷ es) fs = let h = events_more es fs in let e : suc (events_in (es ++ fs)) ≡ suc (events_in es) + events_in fs = omega (arith, h) in e
events_more (runs n ∷ es) fs = let h = events_more es fs in let e : n + events_in (es ++ fs) ≡ n + events_in es + events_in fs = omega (arith, h) in e

-- reductions among more entries
pub reduces_more : (es fs : List Entry) → reduces_in (es ++ fs) ≡ reduces_in es + reduces_in fs
reduces_more [] fs = let e : reduces_in fs ≡ 0 + reduces_in fs = omega arith in e
reduces_more (loads text ∷ es) fs = reduces_more es fs
reduces_more (starts allowance low high t ∷ es) fs = reduces_more es fs
reduces_more (sends n m ∷ es) fs = reduces_more es fs
reduces_more (answers n report t ∷ es) fs = reduces_more es fs
reduces_more (forgets n count ∷ es) fs = reduces_more es fs
reduces_more (steps goal clause ∷ es) fs = let h = reduces_more es fs in let e : suc (reduces_in (es ++ fs)) ≡ suc (reduces_in es) + reduces_in fs = omega (arith, h) in e
reduces_more (runs n ∷ es) fs = let h = reduces_more es fs in let e : n + reduces_in (es ++ fs) ≡ n + reduces_in es + reduces_in fs = omega (arith, h) in e

-- a book tells what it did and what the reply to an event adds, which is no run's
abbrev pub Counts : TotalsBeforeReset → Journal → Book → model.Event → Transition → Type 0
Counts p j b e x = IsCounted (past_by p j x.reply) (noted j e x) (with_more b (events_by x.reply) (steps_by x.reply)) × (is_run x.reply ≡ false)

-- nothing more
no_more : (p : TotalsBeforeReset) (j : Journal) (b : Book) → IsCounted p j b → IsCounted p j (with_more b 0 0)
no_more p j b h = record { events = omega (arith, h.events); steps = omega (arith, h.steps); few = omega (arith, h.few) }

-- nothing more, in another number of sessions
in_sessions : (p : TotalsBeforeReset) (j : Journal) (b : Book) (n : ℕ) → IsCounted p j b → IsCounted p (record j { sessions = n }) (with_more b 0 0)
in_sessions p j b n h = record { events = omega (arith, h.events); steps = omega (arith, h.steps); few = omega (arith, h.few) }

-- one entry more, which is one event
one_more : (p : TotalsBeforeReset) (j : Journal) (b : Book) (entry : Entry) (n : ℕ) → events_in (entry ∷ []) ≡ 1 → reduces_in (entry ∷ []) ≡ n → IsCounted p j b → b.events < 2 ^ 63 → IsCounted p (entered j entry) (with_more b 1 n)
one_more p j b entry n one is h room = record {
  events = let e = events_more j.entries (entry ∷ []) in let z : b.events + 1 ≡ p.events + events_in (j.entries ++ entry ∷ []) = omega (arith, h.events, e, one) in z;
  steps = let e = reduces_more j.entries (entry ∷ []) in let z : b.steps + n ≡ p.steps + reduces_in (j.entries ++ entry ∷ []) = omega (arith, h.steps, e, is) in z;
  few = omega (arith, room);
}

-- the last run one reduction longer
run_counts : (p : TotalsBeforeReset) (j : Journal) (b : Book) (m : ℕ) → without_last j.entries ++ runs (suc m) ∷ [] ≡ j.entries → IsCounted p j b → b.events < 2 ^ 63 → IsCounted p (record j { entries = without_last j.entries ++ runs (suc (suc m)) ∷ [] }) (with_more b 1 1)
run_counts p j b m last h room =
    let front = without_last j.entries in record {
      events =
          let was = events_more front (runs (suc m) ∷ []) in
          let same = ap events_in last in
          let now = events_more front (runs (suc (suc m)) ∷ []) in
          let z : b.events + 1 ≡ p.events + events_in (front ++ runs (suc (suc m)) ∷ []) = omega (arith, h.events, was, same, now) in z;
      steps =
          let was = reduces_more front (runs (suc m) ∷ []) in
          let same = ap reduces_in last in
          let now = reduces_more front (runs (suc (suc m)) ∷ []) in
          let z : b.steps + 1 ≡ p.steps + reduces_in (front ++ runs (suc (suc m)) ∷ []) = omega (arith, h.steps, was, same, now) in z;
      few = omega (arith, room);
    }

-- an entry that is so long as a run is a run of this length
run_is : (e : Entry) (n : ℕ) → run_length e ≡ suc n → runs (suc n) ∷ [] ≡ e ∷ []
run_is (loads text) n h = absurd (let z : 0 ≡ suc n = h in omega (arith, z))
run_is (starts allowance low high t) n h = absurd (let z : 0 ≡ suc n = h in omega (arith, z))
run_is (sends k m) n h = absurd (let z : 0 ≡ suc n = h in omega (arith, z))
run_is (steps goal clause) n h = absurd (let z : 0 ≡ suc n = h in omega (arith, z))
run_is (answers k report t) n h = absurd (let z : 0 ≡ suc n = h in omega (arith, z))
run_is (forgets k count) n h = absurd (let z : 0 ≡ suc n = h in omega (arith, z))
run_is (runs k) n h = let z : k ≡ suc n = h in ap (λ (m : ℕ). runs m ∷ []) (sym z)

-- so the last of entries
last_is : (es : List Entry) (n : ℕ) → last_run_of es ≡ suc n → without_last es ++ runs (suc n) ∷ [] ≡ es
last_is [] n h = absurd (let z : 0 ≡ suc n = h in omega (arith, z))
last_is (e ∷ []) n h = run_is e n h
last_is (e ∷ f ∷ es) n h = ap (λ (xs : List Entry). e ∷ xs) (last_is (f ∷ es) n h)

-- one first reduction more
longer_counts : (p : TotalsBeforeReset) (j : Journal) (b : Book) (l : ℕ) → last_run_of j.entries ≡ l → IsCounted p j b → b.events < 2 ^ 63 → IsCounted p (record j { entries = run_longer j.entries l }) (with_more b 1 1)
longer_counts p j b zero is h room = one_more p j b (runs 1) 1 refl refl h room
longer_counts p j b (suc m) is h room = by (nat_lt (suc m) MOST_RUN)
  where
    by : (c : Bool) → IsCounted p (record j { entries = if c then without_last j.entries ++ runs (suc (suc m)) ∷ [] else j.entries ++ runs 1 ∷ [] }) (with_more b 1 1)
    by true = run_counts p j b m (last_is j.entries m is) h room
    by false = one_more p j b (runs 1) 1 refl refl h room

-- one reduction more, by the length of the last run after it
stepped_counts : (p : TotalsBeforeReset) (j : Journal) (b : Book) (goal clause n : ℕ) → IsCounted p j b → b.events < 2 ^ 63 → IsCounted p (stepped j goal clause n) (with_more b 1 1)
stepped_counts p j b goal clause zero h room = one_more p j b (steps goal clause) 1 refl refl h room
stepped_counts p j b goal clause (suc zero) h room = one_more p j b (runs 1) 1 refl refl h room
stepped_counts p j b goal clause (suc (suc m)) h room = longer_counts p j b (last_run_of j.entries) refl h room

-- a journal that begins anew
begun_anew : (p : TotalsBeforeReset) (j : Journal) (b : Book) (rules : Rules) (names : List (List ℕ)) (n : ℕ) → IsCounted p j b → IsCounted (past_by p j model.was_reset) (new_journal rules names n) (with_more b 0 0)
begun_anew p j b rules names n h = record { events = omega (arith, h.events); steps = omega (arith, h.steps); few = omega (arith, h.few) }

loaded_counts : (p : TotalsBeforeReset) (j : Journal) (b : Book) (text : List ℕ) (s : State) (r : Reading Module) → IsCounted p j b → b.events < 2 ^ 63 → Counts p j b (model.load text) (load_module s r)
loaded_counts p j b text s (bad line) h room = (no_more p j b h, refl)
loaded_counts p j b text s (good m) h room =
    let names = with_names s.names (names_of_module m) in
    by_unless (Counts p j b (model.load text)) s
    ((is_some (module_of s.modules m.name), model.exists) ∷ (are_too_many s.rules names, model.too_many_names) ∷ (not (nat_lt (length s.modules) MOST_MODULES), model.limit_passed) ∷ (is_full s, model.journal_full) ∷ [])
    (record { state = with_entry (with_module s m); reply = model.loaded m.name }) (λ r. (no_more p j b h, refl)) (one_more p j b (loads text) 0 refl refl h room, refl)

started_counts : (p : TotalsBeforeReset) (j : Journal) (b : Book) (s : State) (allowance low high : ℕ) (t : Term) → IsCounted p j b → b.events < 2 ^ 63 → Counts p j b (model.start allowance low high t) (step s (model.start allowance low high t))
started_counts p j b s allowance low high t h room =
    let P : Transition → Type 0 = Counts p j b (model.start allowance low high t) in
    by_choice P (may_start allowance low high t) (start_by s allowance low high t) (refuse s model.syntax)
    (by_unless P s
    ((are_too_many s.rules (with_names s.names (names_of t)), model.too_many_names) ∷ (not (has_room_to_start s t), model.limit_passed) ∷ (is_full s, model.journal_full) ∷ [])
    (record { state = with_entry (start_goal s allowance low high t); reply = model.opened (suc s.last_shoen) }) (λ r. (no_more p j b h, refl)) (one_more p j b (starts allowance low high t) 0 refl refl h room, refl))
    (no_more p j b h, refl)

sent_counts : (p : TotalsBeforeReset) (j : Journal) (b : Book) (s : State) (n : ℕ) (m : Message) (to : Shoen) (origin : Option Origin) → IsCounted p j b → b.events < 2 ^ 63 → Counts p j b (model.control n m) (send_by s n m to origin)
sent_counts p j b s n m to None h room = (no_more p j b h, refl)
sent_counts p j b s n m to (Some o) h room =
    let P : Transition → Type 0 = Counts p j b (model.control n m) in
    by_choice P (is_living to.life) (send_living s n m o) (refuse s model.shoen_ended)
    (by_unless P s ((not (has_room_to_send s m), model.limit_passed) ∷ (is_full s, model.journal_full) ∷ []) (record { state = with_entry (sent_on n m o.control s); reply = model.sent }) (λ r. (no_more p j b h, refl)) (one_more p j b (sends n m) 0 refl refl h room, refl))
    (no_more p j b h, refl)

told_counts : (p : TotalsBeforeReset) (j : Journal) (b : Book) (s : State) (n : ℕ) (m : Message) (to : Option Shoen) → IsCounted p j b → b.events < 2 ^ 63 → Counts p j b (model.control n m) (send_to s n m to)
told_counts p j b s n m None h room = (no_more p j b h, refl)
told_counts p j b s n m (Some to) h room = sent_counts p j b s n m to to.origin h room

given_counts : (p : TotalsBeforeReset) (j : Journal) (b : Book) (s : State) (n report : ℕ) (t : Term) (g : Given) (a : Option Asked) → IsCounted p j b → b.events < 2 ^ 63 → Counts p j b (model.answer n report t) (answer_by s g t a)
given_counts p j b s n report t g None h room = (no_more p j b h, refl)
given_counts p j b s n report t g (Some a) h room =
    by_unless (Counts p j b (model.answer n report t)) s ((g.tells_gone, model.answer_refused) ∷ []) (record { state = with_entry (answered a.new g t s); reply = model.sent }) (λ r. (no_more p j b h, refl)) (one_more p j b (answers n report t) 0 refl refl h room, refl)

asked_counts : (p : TotalsBeforeReset) (j : Journal) (b : Book) (s : State) (n report : ℕ) (t : Term) (a : Option Asked) → IsCounted p j b → b.events < 2 ^ 63 → Counts p j b (model.answer n report t) (answer_asked s t a)
asked_counts p j b s n report t a h room =
    let g = given s a t in
    by_unless (Counts p j b (model.answer n report t)) s
    ((are_too_many s.rules (with_names s.names (names_of t)), model.too_many_names) ∷ (not (has_room_to_answer s g.new t), model.limit_passed) ∷ (is_full s, model.journal_full) ∷ [])
    (answer_by s g t a) (λ r. (no_more p j b h, refl)) (given_counts p j b s n report t g a h room)

answered_counts : (p : TotalsBeforeReset) (j : Journal) (b : Book) (s : State) (n report : ℕ) (t : Term) (to : Shoen) (origin : Option Origin) → IsCounted p j b → b.events < 2 ^ 63 → Counts p j b (model.answer n report t) (answer_in s report t to origin)
answered_counts p j b s n report t to None h room = (no_more p j b h, refl)
answered_counts p j b s n report t to (Some o) h room =
    by_choice (Counts p j b (model.answer n report t)) (is_living to.life) (answer_living s report t o) (refuse s model.shoen_ended) (asked_counts p j b s n report t (asked_at o report) h room) (no_more p j b h, refl)

replied_counts : (p : TotalsBeforeReset) (j : Journal) (b : Book) (s : State) (n report : ℕ) (t : Term) (to : Option Shoen) → IsCounted p j b → b.events < 2 ^ 63 → Counts p j b (model.answer n report t) (answer_to s report t to)
replied_counts p j b s n report t None h room = (no_more p j b h, refl)
replied_counts p j b s n report t (Some to) h room = answered_counts p j b s n report t to to.origin h room

gone_counts : (p : TotalsBeforeReset) (j : Journal) (b : Book) (s : State) (n count : ℕ) (of : Shoen) (origin : Option Origin) → IsCounted p j b → b.events < 2 ^ 63 → Counts p j b (model.forget n count) (forget_by s n count of origin)
gone_counts p j b s n count of None h room = (no_more p j b h, refl)
gone_counts p j b s n count of (Some o) h room =
    by_unless (Counts p j b (model.forget n count)) s ((is_full s, model.journal_full) ∷ (not (may_go count of o), model.answer_refused) ∷ []) (record { state = with_entry (gone n count o s); reply = model.forgot }) (λ r. (no_more p j b h, refl)) (one_more p j b (forgets n count) 0 refl refl h room, refl)

forgot_counts : (p : TotalsBeforeReset) (j : Journal) (b : Book) (s : State) (n count : ℕ) (of : Option Shoen) → IsCounted p j b → b.events < 2 ^ 63 → Counts p j b (model.forget n count) (forget_of s n count of)
forgot_counts p j b s n count None h room = (no_more p j b h, refl)
forgot_counts p j b s n count (Some of) h room = gone_counts p j b s n count of of.origin h room

acted_counts : (p : TotalsBeforeReset) (j : Journal) (b : Book) (s : State) (goal clause : ℕ) (in_run : Bool) (g : Goal) (a : Option Action) → IsCounted p j b → b.events < 2 ^ 63 → Counts p j b (model.reduce goal clause) (reduced_by s in_run g a)
acted_counts p j b s goal clause in_run g None h room = (no_more p j b h, refl)
acted_counts p j b s goal clause in_run g (Some a) h room =
    let after = acted g a (with_reduction in_run s) in
    by_unless (Counts p j b (model.reduce goal clause)) s ((needs_entry in_run s && is_full s, model.journal_full) ∷ []) (record { state = after; reply = model.reduced }) (λ r. (no_more p j b h, refl)) (stepped_counts p j b goal clause after.run h room, refl)

reduced_counts : (p : TotalsBeforeReset) (j : Journal) (b : Book) (s : State) (goal clause : ℕ) (in_run : Bool) (g : Option Goal) → IsCounted p j b → b.events < 2 ^ 63 → Counts p j b (model.reduce goal clause) (reduce_goal s in_run clause g)
reduced_counts p j b s goal clause in_run None h room = (no_more p j b h, refl)
reduced_counts p j b s goal clause in_run (Some g) h room = acted_counts p j b s goal clause in_run g (action_of s g clause) h room

value_counts : (p : TotalsBeforeReset) (j : Journal) (b : Book) (q : model.Query) (s : State) (o : Option Origin) → IsCounted p j b → Counts p j b (model.read q) (value_of s o)
value_counts p j b q s None h = (no_more p j b h, refl)
value_counts p j b q s (Some o) h = (no_more p j b h, refl)

status_counts : (p : TotalsBeforeReset) (j : Journal) (b : Book) (q : model.Query) (s : State) (o : Option Shoen) → IsCounted p j b → Counts p j b (model.read q) (status_of s o)
status_counts p j b q s None h = (no_more p j b h, refl)
status_counts p j b q s (Some o) h = (no_more p j b h, refl)

-- reports are told, or refused
reports_by : (p : TotalsBeforeReset) (j : Journal) (b : Book) (q : model.Query) (s : State) (c : Bool) (texts : List (List ℕ)) → IsCounted p j b → Counts p j b (model.read q) (record { state = s; reply = if c then model.listed texts else model.refused model.answer_refused })
reports_by p j b q s true texts h = (no_more p j b h, refl)
reports_by p j b q s false texts h = (no_more p j b h, refl)

reports_count : (p : TotalsBeforeReset) (j : Journal) (b : Book) (q : model.Query) (s : State) (from : ℕ) (o : Option Origin) → IsCounted p j b → Counts p j b (model.read q) (reports_of s from o)
reports_count p j b q s from None h = (no_more p j b h, refl)
reports_count p j b q s from (Some o) h = reports_by p j b q s (nat_lt o.forgotten from) (map cut_print (take MOST_LISTED (drop (from - 1 - o.forgotten) (elements_of o.reports)))) h

answer_counts : (p : TotalsBeforeReset) (j : Journal) (b : Book) (q : model.Query) (s : State) → IsCounted p j b → Counts p j b (model.read q) (reply_to s q)
answer_counts p j b (model.value n) s h =
    by_choice (Counts p j b (model.read (model.value n))) (is_number n) (value_of s (origin_at n s.shoens)) (refuse s model.syntax) (value_counts p j b (model.value n) s (origin_at n s.shoens) h) (no_more p j b h, refl)
answer_counts p j b (model.status n) s h =
    by_choice (Counts p j b (model.read (model.status n))) (is_number n) (status_of s (kept_at n s.shoens)) (refuse s model.syntax) (status_counts p j b (model.status n) s (kept_at n s.shoens) h) (no_more p j b h, refl)
answer_counts p j b (model.reports n from) s h =
    by_choice (Counts p j b (model.read (model.reports n from))) (is_number n && is_number from && nat_le 1 from) (reports_of s from (origin_at n s.shoens)) (refuse s model.syntax) (reports_count p j b (model.reports n from) s from (origin_at n s.shoens) h) (no_more p j b h, refl)
answer_counts p j b model.modules s h = (no_more p j b h, refl)
answer_counts p j b model.is_quiet s h = (no_more p j b h, refl)

-- what a book tells after an event, if it has room
pub step_counts : (p : TotalsBeforeReset) (j : Journal) (b : Book) (s : State) (e : model.Event) → IsCounted p j b → HasRoom b e → Counts p j b e (step s e)
step_counts p j b s (model.load text) h room =
    by_choice (Counts p j b (model.load text)) (nat_le (length text) MOST_SOURCE_BYTES) (load_module s (read_module text)) (refuse s model.syntax) (loaded_counts p j b text s (read_module text) h (room refl)) (no_more p j b h, refl)
step_counts p j b s (model.start allowance low high t) h room = started_counts p j b s allowance low high t h (room refl)
step_counts p j b s (model.control n m) h room =
    by_choice (Counts p j b (model.control n m)) (may_send n m) (send_to s n m (shoen_at n s.shoens)) (refuse s model.syntax) (told_counts p j b s n m (shoen_at n s.shoens) h (room refl)) (no_more p j b h, refl)
step_counts p j b s (model.answer n report t) h room =
    by_choice (Counts p j b (model.answer n report t)) (may_answer s.rules n report t) (answer_to s report t (shoen_at n s.shoens)) (refuse s model.syntax) (replied_counts p j b s n report t (shoen_at n s.shoens) h (room refl)) (no_more p j b h, refl)
step_counts p j b s (model.forget n count) h room =
    by_choice (Counts p j b (model.forget n count)) (has_forgetting s.rules && may_forget n count) (forget_of s n count (shoen_at n s.shoens)) (refuse s model.syntax) (forgot_counts p j b s n count (shoen_at n s.shoens) h (room refl)) (no_more p j b h, refl)
step_counts p j b s (model.reduce goal clause) h room =
    by_choice (Counts p j b (model.reduce goal clause)) (is_number goal && is_number clause) (reduce_goal s (is_in_run s goal clause) clause (goal_at goal s.goals)) (refuse s model.syntax) (reduced_counts p j b s goal clause (is_in_run s goal clause) (goal_at goal s.goals) h (room refl)) (no_more p j b h, refl)
step_counts p j b s (model.read q) h room = answer_counts p j b q s h
step_counts p j b s model.login h room =
    by_choice (Counts p j b model.login) (nat_lt s.sessions MOST_SESSIONS) (record { state = record s { sessions = suc s.sessions }; reply = model.welcome s.own_name }) (refuse s model.sessions_refused) (in_sessions p j b (suc s.sessions) h, refl) (no_more p j b h, refl)
step_counts p j b s model.logout h room =
    by_choice (Counts p j b model.logout) (nat_lt 0 s.sessions) (record { state = record s { sessions = s.sessions - 1 }; reply = model.bye }) (refuse s model.sessions_refused) (in_sessions p j b (s.sessions - 1) h, refl) (no_more p j b h, refl)
step_counts p j b s model.reset h room = (begun_anew p j b s.rules s.names s.sessions h, refl)

-- so by what was done to an account with its journal
pub done_counts : (p : TotalsBeforeReset) (b : Book) (k : Kept) (e : model.Event) (d : Done) → done k e ≡ d → IsCounted p k.journal b → HasRoom b e →
    IsCounted (past_by p k.journal d.reply) d.kept.journal (with_more b (events_by d.reply) (steps_by d.reply)) × (is_run d.reply ≡ false)
done_counts p b k e d is h room =
    subst (λ (x : Done). IsCounted (past_by p k.journal x.reply) x.kept.journal (with_more b (events_by x.reply) (steps_by x.reply)) × (is_run x.reply ≡ false)) is (step_counts p k.journal b k.state e h room)

-- the past after a reply, if a book tells what it has and a journal
pub ended_is : (p : TotalsBeforeReset) (j : Journal) (b : Book) (r : model.Reply) → IsCounted p j b → ended p b r ≡ past_by p j r
ended_is p j b (model.loaded name) h = refl
ended_is p j b (model.opened n) h = refl
ended_is p j b model.sent h = refl
ended_is p j b model.reduced h = refl
ended_is p j b (model.ran n) h = refl
ended_is p j b (model.shown text) h = refl
ended_is p j b (model.status_is c charged allowance alive) h = refl
ended_is p j b (model.listed texts) h = refl
ended_is p j b (model.quiet_is a) h = refl
ended_is p j b (model.welcome name) h = refl
ended_is p j b model.bye h = refl
ended_is p j b model.forgot h = refl
ended_is p j b model.was_reset h = ap (λ (n : ℕ). let z : TotalsBeforeReset = record { events = n; steps = b.steps } in z) h.events ∙ ap (λ (n : ℕ). let z : TotalsBeforeReset = record { events = p.events + events_in j.entries; steps = n } in z) h.steps
ended_is p j b (model.refused r) h = refl
