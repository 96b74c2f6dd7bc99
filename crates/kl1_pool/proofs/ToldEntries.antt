-- What the replies to entries that are accepted tell to be counted.
use Rattle.std.proofs.Common.{◌≡◌, ℕ, suc, nat_le, nat_lt, not, ◌&&◌, Bool, false, [], ◌∷◌, length, refl, ap, sym, ◌∙◌}
use Rattle.std.specs.Prelude.{Option, Some, None, is_some}
use Rattle.kl1_model.specs.declared.limits.TheConstants.{MOST_MODULES, MOST_SOURCE_BYTES}
use Rattle.kl1_model.specs.Term.{Term}
use Rattle.kl1_model.specs.declared.message.Message.{Message}
use Rattle.kl1_model.specs.Module.{Module, Reading, good, bad, read_module}
use Rattle.kl1_model.specs.Match.{module_of}
use Rattle.kl1_model.specs.State.{Goal, Origin, Shoen, State, goal_at, shoen_at, has_forgetting, names_of, names_of_module, with_names, is_living}
use Rattle.kl1_model.specs.Event as model
use Rattle.kl1_model.specs.Event.{Transition, refuse, are_too_many, is_full, needs_entry, is_number, with_entry, with_reduction, is_refused}
use Rattle.kl1_model.specs.Choice.{is_in_run}
use Rattle.kl1_model.specs.Reduction.{Action, reduce_goal, acted, action_of}
use Rattle.kl1_model.specs.Opening.{may_start, has_room_to_start, start_goal}
use Rattle.kl1_model.specs.Sending.{may_send, has_room_to_send, send_to, send_living, sent_on}
use Rattle.kl1_model.specs.Answering.{may_answer, has_room_to_answer, asked_at, given, answered, answer_by, answer_asked, answer_living, answer_to}
use Rattle.kl1_model.specs.Forgetting.{may_forget, may_go, gone, forget_by, forget_of}
use Rattle.kl1_model.specs.Telling.{Asked, Given}
use Rattle.kl1_model.specs.Step.{load_module, start_by, step}
use Rattle.kl1_model.specs.code.Steps.{reduced_by, send_by, answer_in, with_module}
use Rattle.kl1_model_server.specs.Journal.{Entry}
use Rattle.kl1_journal_entries.specs.Lined.{entry_of}
use Rattle.kl1_command.specs.Told.{Told, told_by}
use Rattle.kl1_pool.specs.Restoring.{told_of}
use Rattle.kl1_pool.proofs.Tells.{by_choice, by_unless}

-- if it isn't refused, it tells this
abbrev Tells : Told → Transition → Type 0
Tells t x = is_refused x.reply ≡ false → told_by x.reply ≡ t

refused : (t : Told) (s : State) (r : model.Refusal) → Tells t (refuse s r)
refused t s r h = cc

-- an event of its own, without a step
abbrev one : Told
one = record { events = 1; steps = 0; is_reset = false }

-- a reduction
abbrev one_step : Told
one_step = record { events = 1; steps = 1; is_reset = false }

loaded : (s : State) (r : Reading Module) → Tells one (load_module s r)
loaded s (bad line) = refused one s (model.source line)
loaded s (good m) =
    by_unless (Tells one) s
    ((is_some (module_of s.modules m.name), model.exists) ∷ (are_too_many s.rules (with_names s.names (names_of_module m)), model.too_many_names) ∷ (not (nat_lt (length s.modules) MOST_MODULES), model.limit_passed) ∷ (is_full s, model.journal_full) ∷ [])
    (record { state = with_entry (with_module s m); reply = model.loaded m.name }) (refused one s) (λ h. refl)

started : (s : State) (allowance low high : ℕ) (t : Term) → Tells one (step s (model.start allowance low high t))
started s allowance low high t =
    by_choice (Tells one) (may_start allowance low high t) (start_by s allowance low high t) (refuse s model.syntax)
    (by_unless (Tells one) s
    ((are_too_many s.rules (with_names s.names (names_of t)), model.too_many_names) ∷ (not (has_room_to_start s t), model.limit_passed) ∷ (is_full s, model.journal_full) ∷ [])
    (record { state = with_entry (start_goal s allowance low high t); reply = model.opened (suc s.last_shoen) }) (refused one s) (λ h. refl))
    (refused one s model.syntax)

sent : (s : State) (n : ℕ) (m : Message) (to : Shoen) (origin : Option Origin) → Tells one (send_by s n m to origin)
sent s n m to None = refused one s model.no_shoen
sent s n m to (Some o) =
    by_choice (Tells one) (is_living to.life) (send_living s n m o) (refuse s model.shoen_ended)
    (by_unless (Tells one) s ((not (has_room_to_send s m), model.limit_passed) ∷ (is_full s, model.journal_full) ∷ []) (record { state = with_entry (sent_on n m o.control s); reply = model.sent }) (refused one s) (λ h. refl))
    (refused one s model.shoen_ended)

sent_to : (s : State) (n : ℕ) (m : Message) (to : Option Shoen) → Tells one (send_to s n m to)
sent_to s n m None = refused one s model.no_shoen
sent_to s n m (Some to) = sent s n m to to.origin

told_given : (s : State) (t : Term) (g : Given) (a : Option Asked) → Tells one (answer_by s g t a)
told_given s t g None h = cc
told_given s t g (Some a) h =
    by_unless (Tells one) s ((g.tells_gone, model.answer_refused) ∷ []) (record { state = with_entry (answered a.new g t s); reply = model.sent }) (refused one s) (λ k. refl) h

told_asked : (s : State) (t : Term) (a : Option Asked) → Tells one (answer_asked s t a)
told_asked s t a =
    let g = given s a t in
    by_unless (Tells one) s
    ((are_too_many s.rules (with_names s.names (names_of t)), model.too_many_names) ∷ (not (has_room_to_answer s g.new t), model.limit_passed) ∷ (is_full s, model.journal_full) ∷ [])
    (answer_by s g t a) (refused one s) (told_given s t g a)

told_answered : (s : State) (report : ℕ) (t : Term) (to : Shoen) (origin : Option Origin) → Tells one (answer_in s report t to origin)
told_answered s report t to None = refused one s model.no_shoen
told_answered s report t to (Some o) =
    by_choice (Tells one) (is_living to.life) (answer_living s report t o) (refuse s model.shoen_ended) (told_asked s t (asked_at o report)) (refused one s model.shoen_ended)

answered_to : (s : State) (report : ℕ) (t : Term) (to : Option Shoen) → Tells one (answer_to s report t to)
answered_to s report t None = refused one s model.no_shoen
answered_to s report t (Some to) = told_answered s report t to to.origin

told_gone : (s : State) (n count : ℕ) (of : Shoen) (origin : Option Origin) → Tells one (forget_by s n count of origin)
told_gone s n count of None = refused one s model.no_shoen
told_gone s n count of (Some o) =
    by_unless (Tells one) s ((is_full s, model.journal_full) ∷ (not (may_go count of o), model.answer_refused) ∷ []) (record { state = with_entry (gone n count o s); reply = model.forgot }) (refused one s) (λ h. refl)

forgot_of : (s : State) (n count : ℕ) (of : Option Shoen) → Tells one (forget_of s n count of)
forgot_of s n count None = refused one s model.no_shoen
forgot_of s n count (Some of) = told_gone s n count of of.origin

acted_on : (s : State) (in_run : Bool) (g : Goal) (a : Option Action) → Tells one_step (reduced_by s in_run g a)
acted_on s in_run g None h = cc
acted_on s in_run g (Some a) h =
    by_unless (Tells one_step) s ((needs_entry in_run s && is_full s, model.journal_full) ∷ []) (record { state = acted g a (with_reduction in_run s); reply = model.reduced }) (refused one_step s) (λ h. refl) h

reduced : (s : State) (in_run : Bool) (clause : ℕ) (g : Option Goal) → Tells one_step (reduce_goal s in_run clause g)
reduced s in_run clause None h = cc
reduced s in_run clause (Some g) h = acted_on s in_run g (action_of s g clause) h

entry_is : {x : Entry} {t : Told} (y : Entry) → Some x ≡ Some y → told_of (x ∷ []) 0 ≡ t → t ≡ told_of (y ∷ []) 0
entry_is {x} {t} y same is = sym is ∙ ap (λ (z : Entry). told_of (z ∷ []) 0) (let e : x ≡ y = cc in e)

-- the reply to an event that is an entry, and is accepted, tells what is counted of that entry
pub told_event : (s : State) (e : model.Event) (y : Entry) → entry_of e ≡ Some y → is_refused (step s e).reply ≡ false → told_by (step s e).reply ≡ told_of (y ∷ []) 0
told_event s (model.load text) y is h =
    by_choice (Tells one) (nat_le (length text) MOST_SOURCE_BYTES) (load_module s (read_module text)) (refuse s model.syntax) (loaded s (read_module text)) (refused one s model.syntax) h ∙ entry_is y is refl
told_event s (model.start allowance low high t) y is h = started s allowance low high t h ∙ entry_is y is refl
told_event s (model.control n m) y is h =
    by_choice (Tells one) (may_send n m) (send_to s n m (shoen_at n s.shoens)) (refuse s model.syntax) (sent_to s n m (shoen_at n s.shoens)) (refused one s model.syntax) h ∙ entry_is y is refl
told_event s (model.answer n report t) y is h =
    by_choice (Tells one) (may_answer s.rules n report t) (answer_to s report t (shoen_at n s.shoens)) (refuse s model.syntax) (answered_to s report t (shoen_at n s.shoens)) (refused one s model.syntax) h ∙ entry_is y is refl
told_event s (model.forget n count) y is h =
    by_choice (Tells one) (has_forgetting s.rules && may_forget n count) (forget_of s n count (shoen_at n s.shoens)) (refuse s model.syntax) (forgot_of s n count (shoen_at n s.shoens)) (refused one s model.syntax) h ∙ entry_is y is refl
told_event s (model.reduce goal clause) y is h =
    by_choice (Tells one_step) (is_number goal && is_number clause) (reduce_goal s (is_in_run s goal clause) clause (goal_at goal s.goals)) (refuse s model.syntax) (reduced s (is_in_run s goal clause) clause (goal_at goal s.goals)) (refused one_step s model.syntax) h ∙ entry_is y is refl
told_event s (model.read q) y is h = cc
told_event s model.login y is h = cc
told_event s model.logout y is h = cc
told_event s model.reset y is h = cc
