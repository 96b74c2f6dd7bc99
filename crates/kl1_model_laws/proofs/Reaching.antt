-- What holds of a fresh account, and is kept by what each event does, holds of each account that events make of a fresh one.
use Rattle.std.proofs.Common.{◌≡◌, ℕ, suc, ◌-◌, ◌==◌, not, ◌&&◌, Bool, true, false, if◌then◌else◌, List, [], ◌∷◌, refl, subst}
use Rattle.std.specs.Prelude.{nat_lt, nat_le, length, Option, Some, None, is_some, option_map}
use Rattle.std.proofs.lemmas.Option.{none-some, same_Some}
use Rattle.kl1_model.specs.declared.rules.Rules.{Rules}
use Rattle.kl1_model.specs.declared.limits.TheConstants.{MOST_MODULES, MOST_SESSIONS, MOST_SOURCE_BYTES}
use Rattle.kl1_model.specs.declared.message.Message.{Message}
use Rattle.kl1_model.specs.Term.{Term}
use Rattle.kl1_model.specs.Module.{Module, Reading, good, bad, read_module}
use Rattle.kl1_model.specs.Match.{module_of, call_of}
use Rattle.kl1_model.specs.State.{Task, monitor, reduces, substitutes, Goal, Origin, Shoen, State, fresh, fresh_with, goal_at, shoen_at, names_of, names_of_module, with_names, has_forgetting, is_living}
use Rattle.kl1_model.specs.Event.{exists, shoen_ended, syntax, too_many_names, limit_passed, journal_full, sessions_refused, Query, value, status, reports, modules, is_quiet, Event, load, start, control, reduce, read, login, logout, reset, answer, forget, loaded, opened, sent, reduced, welcome, bye, Refusal, forgot, answer_refused, Transition, refuse, is_number, unless, are_too_many, is_full, needs_entry, with_entry, with_reduction}
use Rattle.kl1_model.specs.Look.{goal_look}
use Rattle.kl1_model.specs.Tree.{is_enabled}
use Rattle.kl1_model.specs.Control.{Control, awaits_message, tells, tells_other, ends, breaks_off, control_of}
use Rattle.kl1_model.specs.Opening.{may_start, has_room_to_start, start_goal}
use Rattle.kl1_model.specs.Reduction.{Move, Action, moves, reads, term_move, read_action, task_action, action_of, acted, reduce_goal}
use Rattle.kl1_model.specs.Sending.{may_send, has_room_to_send, sent_on, send_living, send_to}
use Rattle.kl1_model.specs.Asking.{origin_at, kept_at, reply_to}
use Rattle.kl1_model.specs.Answering.{may_answer, has_room_to_answer, asked_at, given, answered, answer_by, answer_living, answer_to}
use Rattle.kl1_model.specs.Telling.{Asked}
use Rattle.kl1_model.specs.Forgetting.{may_forget, gone, may_go, forget_by, forget_of}
use Rattle.kl1_model.specs.Choice.{is_in_run}
use Rattle.kl1_model.specs.Step.{load_module, start_by, step}
use Rattle.kl1_model.specs.code.Steps.{substitute_move, monitor_action, reduced_by, send_by, value_of, status_of, reports_of, answer_in, with_module}
use Rattle.kl1_model.specs.laws.TreeLaws.{IsTree}
use Rattle.kl1_model.proofs.TreeSteps.{fresh_is_tree, trees_stay}
use Rattle.kl1_model_laws.specs.Reached.{after, reached}

-- what is done to an account keeps a fact of it
pub record Keeping (P : State → Type 0) : Type 0 where
  pub fresh : (rules : Rules) (name : List ℕ) (names : List (List ℕ)) (sessions : ℕ) → P (fresh_with rules name names sessions)
  pub seats : (s : State) (n : ℕ) → P s → P (record s { sessions = n })
  pub loads : (s : State) (source : List ℕ) (m : Module) → read_module source ≡ good m → P s → P (with_entry (with_module s m))
  pub starts : (s : State) (allowance low high : ℕ) (t : Term) → IsTree s → may_start allowance low high t ≡ true → has_room_to_start s t ≡ true → P s → P (with_entry (start_goal s allowance low high t))
  pub sends : (s : State) (n : ℕ) (m : Message) (h : Shoen) (o : Origin) → IsTree s → shoen_at n s.shoens ≡ Some h → h.origin ≡ Some o → P s → P (with_entry (sent_on n m o.control s))
  pub moving : (s : State) (r : Bool) (n clause : ℕ) (g : Goal) (t : Term) (m : Move) → IsTree s → goal_at n s.goals ≡ Some g → g.task ≡ reduces t → term_move s.rules s.modules t clause (call_of t) ≡ Some m → is_enabled s g ≡ true → P s → P (acted g (moves t m) (with_reduction r s))
  pub substituting : (s : State) (r : Bool) (n : ℕ) (g : Goal) (t : Term) (m : Move) → IsTree s → goal_at n s.goals ≡ Some g → g.task ≡ substitutes t → substitute_move (goal_look t) ≡ Some m → is_enabled s g ≡ true → P s → P (acted g (moves t m) (with_reduction r s))
  pub answers : (s : State) (n report : ℕ) (a : Asked) (t : Term) (h : Shoen) (o : Origin) → IsTree s → shoen_at n s.shoens ≡ Some h → h.origin ≡ Some o → may_answer s.rules n report t ≡ true → has_room_to_answer s (given s (Some a) t).new t ≡ true → asked_at o report ≡ Some a → P s → P (with_entry (answered a.new (given s (Some a) t) t s))
  pub forgets : (s : State) (n count : ℕ) (h : Shoen) (o : Origin) → IsTree s → shoen_at n s.shoens ≡ Some h → h.origin ≡ Some o → may_go count h o ≡ true → P s → P (with_entry (gone n count o s))
  pub reading : (s : State) (r : Bool) (n : ℕ) (g : Goal) (h : Shoen) (c : Control) → IsTree s → goal_at n s.goals ≡ Some g → shoen_at g.shoen s.shoens ≡ Some h → control_of h.control ≡ c → P s → P (acted g (reads c) (with_reduction r s))

some_if : {A : Type 0} (c : Bool) (o : Option A) (a : A) → (if c then o else None) ≡ Some a → o ≡ Some a
some_if true o a e = e
some_if false o a e = absurd (none-some a e)

is_if : {A : Type 0} (c : Bool) (o : Option A) (a : A) → (if c then o else None) ≡ Some a → c ≡ true
is_if true o a e = refl
is_if false o a e = absurd (none-some a e)

module _ (P : State → Type 0) (k : Keeping P) where
  -- an outcome of an account of which the fact holds
  abbrev Holds : Transition → Type 0
  Holds x = P x.state

  holds_if : (c : Bool) (s : State) (x : Transition) (r : Refusal) → P s → (c ≡ true → Holds x) → Holds (if c then x else refuse s r)
  holds_if true s x r p f = f refl
  holds_if false s x r p f = p

  holds_or : (c : Bool) (s : State) (x : Transition) (r : Refusal) → P s → Holds x → Holds (if c then refuse s r else x)
  holds_or true s x r p f = p
  holds_or false s x r p f = f

  holds_unless : (s : State) (rs : List (Bool × Refusal)) (x : Transition) → P s → Holds x → Holds (unless s rs x)
  holds_unless s [] x p f = f
  holds_unless s (r ∷ rs) x p f = holds_or r.0 s (unless s rs x) r.1 p (holds_unless s rs x p f)

  -- what is refused first by one test, then if there is no room, and then if the journal is full
  holds_room : (s : State) (c room full : Bool) (q r u : Refusal) (x : Transition) → P s → (room ≡ true → Holds x) → Holds (unless s ((c, q) ∷ (not room, r) ∷ (full, u) ∷ []) x)
  holds_room s true room full q r u x p f = p
  holds_room s false true full q r u x p f = holds_or full s x u p (f refl)
  holds_room s false false full q r u x p f = p

  holds_load : (s : State) (source : List ℕ) (x : Reading Module) → read_module source ≡ x → P s → Holds (load_module s x)
  holds_load s source (bad line) e p = p
  holds_load s source (good m) e p =
      holds_unless s
      ((is_some (module_of s.modules m.name), exists) ∷ (are_too_many s.rules (with_names s.names (names_of_module m)), too_many_names)
      ∷ (not (nat_lt (length s.modules) MOST_MODULES), limit_passed) ∷ (is_full s, journal_full) ∷ []) (record { state = with_entry (with_module s m); reply = loaded m.name }) p
      (k.loads s source m e p)

  holds_start : (s : State) (allowance low high : ℕ) (t : Term) → IsTree s → P s → Holds (step s (start allowance low high t))
  holds_start s allowance low high t tree p =
      holds_if (may_start allowance low high t) s (start_by s allowance low high t) syntax p λ may.
      holds_room s (are_too_many s.rules (with_names s.names (names_of t))) (has_room_to_start s t) (is_full s) too_many_names limit_passed journal_full
      (record { state = with_entry (start_goal s allowance low high t); reply = opened (suc s.last_shoen) }) p λ room. k.starts s allowance low high t tree may room p

  holds_by : (s : State) (n : ℕ) (m : Message) (h : Shoen) (o : Option Origin) → h.origin ≡ o → shoen_at n s.shoens ≡ Some h → IsTree s → P s → Holds (send_by s n m h o)
  holds_by s n m h None e there tree p = p
  holds_by s n m h (Some o) e there tree p =
      holds_if (is_living h.life) s (send_living s n m o) shoen_ended p λ _.
      holds_unless s ((not (has_room_to_send s m), limit_passed) ∷ (is_full s, journal_full) ∷ []) (record { state = with_entry (sent_on n m o.control s); reply = sent }) p
      (k.sends s n m h o tree there e p)

  holds_send : (s : State) (n : ℕ) (m : Message) (o : Option Shoen) → shoen_at n s.shoens ≡ o → IsTree s → P s → Holds (send_to s n m o)
  holds_send s n m None e tree p = p
  holds_send s n m (Some h) e tree p = holds_by s n m h h.origin refl e tree p

  -- an answer that may be given
  record Answers (s : State) (n report : ℕ) (t : Term) : Type 0 where
    tree : IsTree s
    may : may_answer s.rules n report t ≡ true
    holds : P s

  answers_by : (s : State) (n report : ℕ) (t : Term) (h : Shoen) (o : Origin) (v : Option Asked) → asked_at o report ≡ v → h.origin ≡ Some o → shoen_at n s.shoens ≡ Some h → has_room_to_answer s (given s v t).new t ≡ true → Answers s n report t → Holds (answer_by s (given s v t) t v)
  answers_by s n report t h o None e origin there room a = a.holds
  answers_by s n report t h o (Some v) e origin there room a =
      let g = given s (Some v) t in
      holds_unless s ((g.tells_gone, answer_refused) ∷ []) (record { state = with_entry (answered v.new g t s); reply = sent }) a.holds
      (k.answers s n report v t h o a.tree there origin a.may room e a.holds)

  answers_in : (s : State) (n report : ℕ) (t : Term) (h : Shoen) (o : Option Origin) → h.origin ≡ o → shoen_at n s.shoens ≡ Some h → Answers s n report t → Holds (answer_in s report t h o)
  answers_in s n report t h None e there a = a.holds
  answers_in s n report t h (Some o) e there a =
      let v = asked_at o report in
      holds_if (is_living h.life) s (answer_living s report t o) shoen_ended a.holds λ _.
      holds_room s (are_too_many s.rules (with_names s.names (names_of t))) (has_room_to_answer s (given s v t).new t) (is_full s) too_many_names limit_passed journal_full
      (answer_by s (given s v t) t v) a.holds λ room. answers_by s n report t h o v refl e there room a

  answers_to : (s : State) (n report : ℕ) (t : Term) (o : Option Shoen) → shoen_at n s.shoens ≡ o → Answers s n report t → Holds (answer_to s report t o)
  answers_to s n report t None e a = a.holds
  answers_to s n report t (Some h) e a = answers_in s n report t h h.origin refl e a

  holds_may : (c : Bool) (s : State) (x : Transition) (r : Refusal) → P s → (c ≡ true → Holds x) → Holds (if not c then refuse s r else x)
  holds_may true s x r p f = f refl
  holds_may false s x r p f = p

  forgets_by : (s : State) (n count : ℕ) (h : Shoen) (o : Option Origin) → h.origin ≡ o → shoen_at n s.shoens ≡ Some h → IsTree s → P s → Holds (forget_by s n count h o)
  forgets_by s n count h None e there tree p = p
  forgets_by s n count h (Some o) e there tree p =
      let x : Transition = record { state = with_entry (gone n count o s); reply = forgot } in
      holds_or (is_full s) s (if not (may_go count h o) then refuse s answer_refused else x) journal_full p
      (holds_may (may_go count h o) s x answer_refused p λ may. k.forgets s n count h o tree there e may p)

  forgets_of : (s : State) (n count : ℕ) (o : Option Shoen) → shoen_at n s.shoens ≡ o → IsTree s → P s → Holds (forget_of s n count o)
  forgets_of s n count None e tree p = p
  forgets_of s n count (Some h) e tree p = forgets_by s n count h h.origin refl e tree p

  -- an account in which a goal has done what it can
  abbrev Acts : State → Bool → Goal → Action → Type 0
  Acts s r g a = P (acted g a (with_reduction r s))

  -- a goal that may be reduced
  record Ready (s : State) (n : ℕ) (g : Goal) : Type 0 where
    there : goal_at n s.goals ≡ Some g
    tree : IsTree s
    enabled : is_enabled s g ≡ true
    holds : P s

  acts_read : (s : State) (b : Bool) (n : ℕ) (g : Goal) (h : Shoen) (a : Action) (c : Control) → control_of h.control ≡ c → read_action c ≡ Some a → shoen_at g.shoen s.shoens ≡ Some h → Ready s n g → Acts s b g a
  acts_read s b n g h a (awaits_message v) e is found r = absurd (none-some a is)
  acts_read s b n g h a (tells m rest) e is found r = subst (Acts s b g) (same_Some (reads (tells m rest)) a is) (k.reading s b n g h (tells m rest) r.tree r.there found e r.holds)
  acts_read s b n g h a (tells_other m rest) e is found r = subst (Acts s b g) (same_Some (reads (tells_other m rest)) a is) (k.reading s b n g h (tells_other m rest) r.tree r.there found e r.holds)
  acts_read s b n g h a ends e is found r = subst (Acts s b g) (same_Some (reads ends) a is) (k.reading s b n g h ends r.tree r.there found e r.holds)
  acts_read s b n g h a (breaks_off t) e is found r = subst (Acts s b g) (same_Some (reads (breaks_off t)) a is) (k.reading s b n g h (breaks_off t) r.tree r.there found e r.holds)

  acts_monitor : (s : State) (b : Bool) (n clause : ℕ) (g : Goal) (a : Action) (o : Option Shoen) → shoen_at g.shoen s.shoens ≡ o → monitor_action o clause ≡ Some a → Ready s n g → Acts s b g a
  acts_monitor s b n clause g a None found is r = absurd (none-some a is)
  acts_monitor s b n clause g a (Some h) found is r = acts_read s b n g h a (control_of h.control) refl (some_if (clause == 0) (read_action (control_of h.control)) a is) found r

  acts_move : (s : State) (b : Bool) (n clause : ℕ) (g : Goal) (a : Action) (t : Term) (o : Option Move) → term_move s.rules s.modules t clause (call_of t) ≡ o → option_map (moves t) o ≡ Some a → g.task ≡ reduces t → Ready s n g → Acts s b g a
  acts_move s b n clause g a t None e is task r = absurd (none-some a is)
  acts_move s b n clause g a t (Some m) e is task r = subst (Acts s b g) (same_Some (moves t m) a is) (k.moving s b n clause g t m r.tree r.there task e r.enabled r.holds)

  acts_substitute : (s : State) (b : Bool) (n : ℕ) (g : Goal) (a : Action) (t : Term) (o : Option Move) → substitute_move (goal_look t) ≡ o → option_map (moves t) o ≡ Some a → g.task ≡ substitutes t → Ready s n g → Acts s b g a
  acts_substitute s b n g a t None e is task r = absurd (none-some a is)
  acts_substitute s b n g a t (Some m) e is task r = subst (Acts s b g) (same_Some (moves t m) a is) (k.substituting s b n g t m r.tree r.there task e r.enabled r.holds)

  acts_task : (s : State) (b : Bool) (n clause : ℕ) (g : Goal) (a : Action) (task : Task) → g.task ≡ task → task_action s g.shoen task clause ≡ Some a → Ready s n g → Acts s b g a
  acts_task s b n clause g a monitor e is r = acts_monitor s b n clause g a (shoen_at g.shoen s.shoens) refl is r
  acts_task s b n clause g a (reduces t) e is r = acts_move s b n clause g a t (term_move s.rules s.modules t clause (call_of t)) refl is e r
  acts_task s b n clause g a (substitutes t) e is r = acts_substitute s b n g a t (substitute_move (goal_look t)) refl (some_if (clause == 0) (option_map (moves t) (substitute_move (goal_look t))) a is) e r

  holds_action : (s : State) (b : Bool) (n clause : ℕ) (g : Goal) (o : Option Action) → action_of s g clause ≡ o → goal_at n s.goals ≡ Some g → IsTree s → P s → Holds (reduced_by s b g o)
  holds_action s b n clause g None e there tree p = p
  holds_action s b n clause g (Some a) e there tree p =
      holds_or (needs_entry b s && is_full s) s (record { state = acted g a (with_reduction b s); reply = reduced }) journal_full p
      (acts_task s b n clause g a g.task refl (some_if (is_enabled s g) (task_action s g.shoen g.task clause) a e)
      (record { there = there; tree = tree; enabled = is_if (is_enabled s g) (task_action s g.shoen g.task clause) a e; holds = p }))

  holds_goal : (s : State) (b : Bool) (n clause : ℕ) (o : Option Goal) → goal_at n s.goals ≡ o → IsTree s → P s → Holds (reduce_goal s b clause o)
  holds_goal s b n clause None e tree p = p
  holds_goal s b n clause (Some g) e tree p = holds_action s b n clause g (action_of s g clause) refl e tree p

  holds_value : (s : State) (o : Option Origin) → P s → Holds (value_of s o)
  holds_value s None p = p
  holds_value s (Some o) p = p

  holds_status : (s : State) (o : Option Shoen) → P s → Holds (status_of s o)
  holds_status s None p = p
  holds_status s (Some h) p = p

  holds_reports : (s : State) (from : ℕ) (o : Option Origin) → P s → Holds (reports_of s from o)
  holds_reports s from None p = p
  holds_reports s from (Some o) p = p

  holds_answer : (s : State) (q : Query) → P s → Holds (reply_to s q)
  holds_answer s (value n) p = holds_if (is_number n) s (value_of s (origin_at n s.shoens)) syntax p λ _. holds_value s (origin_at n s.shoens) p
  holds_answer s (status n) p = holds_if (is_number n) s (status_of s (kept_at n s.shoens)) syntax p λ _. holds_status s (kept_at n s.shoens) p
  holds_answer s (reports n from) p =
      holds_if (is_number n && is_number from && nat_le 1 from) s (reports_of s from (origin_at n s.shoens)) syntax p λ _. holds_reports s from (origin_at n s.shoens) p
  holds_answer s modules p = p
  holds_answer s is_quiet p = p

  pub holds_step : (s : State) (e : Event) → IsTree s → P s → P (step s e).state
  holds_step s (load text) tree p = holds_if (nat_le (length text) MOST_SOURCE_BYTES) s (load_module s (read_module text)) syntax p λ _. holds_load s text (read_module text) refl p
  holds_step s (start allowance low high t) tree p = holds_start s allowance low high t tree p
  holds_step s (control n m) tree p = holds_if (may_send n m) s (send_to s n m (shoen_at n s.shoens)) syntax p λ _. holds_send s n m (shoen_at n s.shoens) refl tree p
  holds_step s (reduce goal clause) tree p =
      holds_if (is_number goal && is_number clause) s (reduce_goal s (is_in_run s goal clause) clause (goal_at goal s.goals)) syntax p λ _. holds_goal s (is_in_run s goal clause) goal clause (goal_at goal s.goals) refl tree p
  holds_step s (read q) tree p = holds_answer s q p
  holds_step s login tree p = holds_if (nat_lt s.sessions MOST_SESSIONS) s (record { state = record s { sessions = suc s.sessions }; reply = welcome s.own_name }) sessions_refused p λ _. k.seats s (suc s.sessions) p
  holds_step s logout tree p = holds_if (nat_lt 0 s.sessions) s (record { state = record s { sessions = s.sessions - 1 }; reply = bye }) sessions_refused p λ _. k.seats s (s.sessions - 1) p
  holds_step s reset tree p = k.fresh s.rules s.own_name s.names s.sessions
  holds_step s (answer n report t) tree p =
      holds_if (may_answer s.rules n report t) s (answer_to s report t (shoen_at n s.shoens)) syntax p λ may.
      answers_to s n report t (shoen_at n s.shoens) refl (record { tree = tree; may = may; holds = p })
  holds_step s (forget n count) tree p = holds_if (has_forgetting s.rules && may_forget n count) s (forget_of s n count (shoen_at n s.shoens)) syntax p λ _. forgets_of s n count (shoen_at n s.shoens) refl tree p

  holds_after : (s : State) (es : List Event) → IsTree s → P s → P (after s es)
  holds_after s [] tree p = p
  holds_after s (e ∷ es) tree p = holds_after (step s e).state es (trees_stay s e tree) (holds_step s e tree p)

  pub holds_reached : (rules : Rules) (name : List ℕ) (es : List Event) → P (reached rules name es)
  holds_reached rules name es = holds_after (fresh rules name) es (fresh_is_tree rules name) (k.fresh rules name [] 0)
