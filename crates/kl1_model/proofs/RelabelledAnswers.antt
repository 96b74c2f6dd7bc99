-- Loads, starts, messages and answers, with other numbers.
use Rattle.std.proofs.Common.{◌≡◌, ℕ, zero, suc, ◌+◌, ◌-◌, not, ◌&&◌, Bool, true, false, if◌then◌else◌, List, [], ◌∷◌, refl, sym, ap, ap₂, ◌∙◌, subst}
use Rattle.std.specs.Prelude.{nat_le, nat_lt, bytes_eq, codes, map, length, slice_get, Option, Some, None, option_map, option_and_then, is_some}
use Rattle.kl1_model.specs.declared.limits.TheConstants.{MOST_MODULES}
use Rattle.kl1_model.specs.declared.message.Message.{Message}
use Rattle.kl1_model.specs.declared.message.Message.TheVariants.{Stop, Start, Abort, Allow}
use Rattle.kl1_model.specs.Term.{Term, variable, integer, atom, structure, none, more}
use Rattle.kl1_model.specs.Meaning.{cell, highest}
use Rattle.kl1_model.specs.Nodes.{goal_nodes, structures_of}
use Rattle.kl1_model.specs.Module.{Module, Reading, good, bad}
use Rattle.kl1_model.specs.Match.{module_of}
use Rattle.kl1_model.specs.Control.{message_term, message_nodes}
use Rattle.kl1_model.specs.State.{Origin, Shoen, State, has_told, limits_of, names_of, names_of_module, with_names, replace_in_state, change_shoen, is_living}
use Rattle.kl1_model.specs.Event.{Refusal, syntax, exists, no_shoen, shoen_ended, too_many_names, limit_passed, journal_full, answer_refused, start, loaded, opened, sent, Transition, unless, are_too_many, is_full, with_entry}
use Rattle.kl1_model.specs.Report.{report}
use Rattle.kl1_model.specs.Opening.{may_start, open_shoen, with_next_variables, started_shoen, has_room_to_start, start_goal}
use Rattle.kl1_model.specs.Sending.{has_room_to_send, with_control_tail, sent_on, send_living, send_to}
use Rattle.kl1_model.specs.Telling.{Asked, Given, given_told}
use Rattle.kl1_model.specs.Answering.{has_room_to_answer, asked, asked_at, given, answered, answer_by, answer_with, answer_asked, answer_living, answer_to}
use Rattle.kl1_model.specs.Asking.{elements_of}
use Rattle.kl1_model.specs.Step.{load_module, start_by, step}
use Rattle.kl1_model.specs.code.Steps.{send_by, answer_in, with_module}
use Rattle.kl1_model.specs.laws.RelabelLaws.{renamed, origin_renamed, shoen_renamed, asked_renamed, ShiftsFrom}
use Rattle.kl1_model.proofs.Renaming.{next_number, shifts_next, shifts_later}
use Rattle.kl1_model.proofs.RelabelledStates.{like, Fits, Becomes, same, changed, replaced, alive_is}
use Rattle.kl1_model.proofs.RelabelledEffects.{open_is, term_instance, Turns, turns_refused, turns_or, turns_done, turns_unless}

-- ---- loads and starts

pub loads_is : (g : ℕ → ℕ) (b : Bool) (w : List ℕ) (r : Reading Module) (s : State) → Fits g b w s → Turns g b (load_module (like g w s) r) (load_module s r)
loads_is g b w (bad line) s fit = (w, (refl, fit))
loads_is g b w (good m) s fit =
    turns_unless g b w
    ((is_some (module_of s.modules m.name), exists) ∷ (are_too_many s.rules (with_names s.names (names_of_module m)), too_many_names)
    ∷ (not (nat_lt (length s.modules) MOST_MODULES), limit_passed) ∷ (is_full s, journal_full) ∷ [])
    (record { state = with_entry (with_module (like g w s) m); reply = loaded m.name }) (record { state = with_entry (with_module s m); reply = loaded m.name }) s fit (w, (refl, record { up = fit.up; on = fit.on; work = fit.work }))

next_variables : (g : ℕ → ℕ) (last : ℕ) (t : Term) → ShiftsFrom g last → with_next_variables (g last) t ≡ renamed g (with_next_variables last t)
next_variables g last t on = term_instance g (λ v. variable (last + v)) (λ v. variable (g last + v)) t (λ v. ap variable (sym (on v)))

-- a start whose goal's variables have this as the last
abbrev start_with : State → ℕ → ℕ → ℕ → Term → Term → ℕ → ℕ → State
start_with s allowance low high t goal one two =
    open_shoen (started_shoen s allowance low high goal (variable one) (variable two)) goal
    (record s {
      names = with_names s.names (names_of t);
      last_variable = two;
      variables = s.variables + suc (suc (highest t));
      nodes = s.nodes + goal_nodes t;
    })

start_is : (g : ℕ → ℕ) (b : Bool) (w : List ℕ) (allowance low high : ℕ) (t : Term) (s : State) → Fits g b w s → Becomes g b w (start_goal (like g w s) allowance low high t) (start_goal s allowance low high t)
start_is g b w allowance low high t s fit =
    let on = fit.on in
    let last = s.last_variable in
    let goal = with_next_variables last t in
    let count = last + highest t in
    let on_count = shifts_later g last (highest t) on in
    let on_one = shifts_next g count on_count in
    let one : suc (g last + highest t) ≡ g (suc count) = ap suc (sym (on (highest t))) ∙ sym (next_number g count on_count) in
    let two : suc (suc (g last + highest t)) ≡ g (suc (suc count)) = ap suc one ∙ sym (next_number g (suc count) on_one) in
    let u : State = record s { names = with_names s.names (names_of t); last_variable = suc (suc count); variables = s.variables + suc (suc (highest t)); nodes = s.nodes + goal_nodes t } in
    let h = started_shoen s allowance low high goal (variable (suc count)) (variable (suc (suc count))) in
    let r = open_is g b w h goal u (record { up = fit.up; on = shifts_next g (suc count) on_one; work = fit.work }) in
    record {
      is =
          ap (λ x. start_with (like g w s) allowance low high t x (suc (g last + highest t)) (suc (suc (g last + highest t)))) (next_variables g last t on)
          ∙ ap₂ (start_with (like g w s) allowance low high t (renamed g goal)) one two
          ∙ r.is;
      fits = r.fits;
    }

entered : (g : ℕ → ℕ) (b : Bool) (w : List ℕ) (t s : State) → Becomes g b w t s → Becomes g b w (with_entry t) (with_entry s)
entered g b w t s done = let fit = done.fits in record { is = ap with_entry done.is; fits = record { up = fit.up; on = fit.on; work = fit.work } }

room_to_start : (g : ℕ → ℕ) (b : Bool) (w : List ℕ) (s : State) (t : Term) → has_room_to_start (like g w s) t ≡ has_room_to_start s t
room_to_start g b w s t =
    ap (λ n. nat_lt n (limits_of s.rules).goals && nat_le (s.variables + suc (suc (highest t))) (limits_of s.rules).variables && nat_le (s.nodes + goal_nodes t) (limits_of s.rules).nodes && nat_lt s.last_shoen (limits_of s.rules).shoens) (alive_is g b w s)

pub starts_is : (g : ℕ → ℕ) (b : Bool) (w : List ℕ) (allowance low high : ℕ) (t : Term) (s : State) → Fits g b w s → Turns g b (step (like g w s) (start allowance low high t)) (step s (start allowance low high t))
starts_is g b w allowance low high t s fit =
    let u = like g w s in
    let y : Transition = record { state = with_entry (start_goal u allowance low high t); reply = opened (suc s.last_shoen) } in
    let x : Transition = record { state = with_entry (start_goal s allowance low high t); reply = opened (suc s.last_shoen) } in
    let rows : Bool → List (Bool × Refusal) = λ c. (are_too_many s.rules (with_names s.names (names_of t)), too_many_names) ∷ (not c, limit_passed) ∷ (is_full s, journal_full) ∷ [] in
    turns_or g b w (may_start allowance low high t) syntax (start_by u allowance low high t) (start_by s allowance low high t) s fit
    (subst (λ c. Turns g b (unless u (rows c) y) (start_by s allowance low high t)) (sym (room_to_start g b w s t))
    (turns_unless g b w (rows (has_room_to_start s t)) y x s fit
    (turns_done g b w (with_entry (start_goal u allowance low high t)) (with_entry (start_goal s allowance low high t)) (opened (suc s.last_shoen))
    (entered g b w (start_goal u allowance low high t) (start_goal s allowance low high t) (start_is g b w allowance low high t s fit)))))

-- ---- messages from the console

origin_with_is : (g : ℕ → ℕ) (t : Term) (o : Option Origin) → option_map (λ (o : Origin). record o { control = renamed g t }) (option_map (origin_renamed g) o) ≡ option_map (origin_renamed g) (option_map (λ (o : Origin). record o { control = t }) o)
origin_with_is g t None = refl
origin_with_is g t (Some o) = refl

control_tail_is : (g : ℕ → ℕ) (t : Term) (h : Shoen) → with_control_tail (renamed g t) (shoen_renamed g h) ≡ shoen_renamed g (with_control_tail t h)
control_tail_is g t h = ap (λ (o : Option Origin). let k : Shoen = record (shoen_renamed g h) { origin = o } in k) (origin_with_is g t h.origin)

-- a message on a control stream, with this next variable
abbrev sent_with : ℕ → Message → ℕ → ℕ → State → State
sent_with n m v next s = change_shoen n (with_control_tail (variable next)) (record (replace_in_state v (cell (message_term m) (variable next)) s) { last_variable = next; variables = suc s.variables; nodes = s.nodes + message_nodes m })

message_is : (g : ℕ → ℕ) (m : Message) → renamed g (message_term m) ≡ message_term m
message_is g Stop = refl
message_is g Start = refl
message_is g Abort = refl
message_is g (Allow n) = refl

sent_is : (g : ℕ → ℕ) (b : Bool) (w : List ℕ) (n : ℕ) (m : Message) (t : Term) (s : State) → Fits g b w s → Becomes g b w (sent_on n m (renamed g t) (like g w s)) (sent_on n m t s)
sent_is g b w n m (integer i) s fit = same g b w s fit
sent_is g b w n m (atom a) s fit = same g b w s fit
sent_is g b w n m (structure f ts) s fit = same g b w s fit
sent_is g b w n m (variable v) s fit =
    let up = fit.up in
    let on = fit.on in
    let next = suc s.last_variable in
    let after : State = record (replace_in_state v (cell (message_term m) (variable next)) s) { last_variable = next; variables = suc s.variables; nodes = s.nodes + message_nodes m } in
    let put : State → State = λ t. change_shoen n (with_control_tail (variable (g next))) (record t { last_variable = g next; variables = suc s.variables; nodes = s.nodes + message_nodes m }) in
    record {
      is =
          ap (λ k. sent_with n m (g v) k (like g w s)) (sym (next_number g s.last_variable on))
          ∙ ap (λ x. put (replace_in_state (g v) (cell x (variable (g next))) (like g w s))) (sym (message_is g m))
          ∙ ap put (replaced g b w v (cell (message_term m) (variable next)) s up)
          ∙ changed g b w n (with_control_tail (variable next)) (with_control_tail (variable (g next))) after (control_tail_is g (variable next));
      fits = record { up = up; on = shifts_next g s.last_variable on; work = fit.work };
    }

send_by_is : (g : ℕ → ℕ) (b : Bool) (w : List ℕ) (n : ℕ) (m : Message) (h : Shoen) (o : Option Origin) (s : State) → Fits g b w s →
    Turns g b (send_by (like g w s) n m (shoen_renamed g h) (option_map (origin_renamed g) o)) (send_by s n m h o)
send_by_is g b w n m h None s fit = turns_refused g b w s no_shoen fit
send_by_is g b w n m h (Some o) s fit =
    let u = like g w s in
    let y : Transition = record { state = with_entry (sent_on n m (renamed g o.control) u); reply = sent } in
    let x : Transition = record { state = with_entry (sent_on n m o.control s); reply = sent } in
    turns_or g b w (is_living h.life) shoen_ended (send_living u n m (origin_renamed g o)) (send_living s n m o) s fit
    (turns_unless g b w ((not (has_room_to_send s m), limit_passed) ∷ (is_full s, journal_full) ∷ []) y x s fit
    (turns_done g b w (with_entry (sent_on n m (renamed g o.control) u)) (with_entry (sent_on n m o.control s)) sent (entered g b w (sent_on n m (renamed g o.control) u) (sent_on n m o.control s) (sent_is g b w n m o.control s fit))))

pub send_is : (g : ℕ → ℕ) (b : Bool) (w : List ℕ) (n : ℕ) (m : Message) (o : Option Shoen) (s : State) → Fits g b w s → Turns g b (send_to (like g w s) n m (option_map (shoen_renamed g) o)) (send_to s n m o)
send_is g b w n m None s fit = turns_refused g b w s no_shoen fit
send_is g b w n m (Some h) s fit = send_by_is g b w n m h h.origin s fit

-- ---- answers

abbrev pub elements_renamed : (ℕ → ℕ) → List Term → List Term
elements_renamed g ts = map (renamed g) ts

elements_if : (g : ℕ → ℕ) (c : Bool) (t : Term) (ts us : List Term) → us ≡ elements_renamed g ts → (if c then renamed g t ∷ us else []) ≡ elements_renamed g (if c then t ∷ ts else [])
elements_if g true t ts us e = ap (λ (l : List Term). renamed g t ∷ l) e
elements_if g false t ts us e = refl

pub elements_are : (g : ℕ → ℕ) (t : Term) → elements_of (renamed g t) ≡ elements_renamed g (elements_of t)
elements_are g (variable v) = refl
elements_are g (integer i) = refl
elements_are g (atom a) = refl
elements_are g (structure f none) = refl
elements_are g (structure f (more h none)) = refl
elements_are g (structure f (more h (more t none))) = elements_if g (bytes_eq f (codes ".")) h (elements_of t) (elements_of (renamed g t)) (elements_are g t)
elements_are g (structure f (more h (more t (more u us)))) = refl

got_is : (g : ℕ → ℕ) (ts : List Term) (n : ℕ) → slice_get (elements_renamed g ts) n ≡ option_map (renamed g) (slice_get ts n)
got_is g [] n = refl
got_is g (t ∷ ts) zero = refl
got_is g (t ∷ ts) (suc n) = got_is g ts n

if_asked : (g : ℕ → ℕ) (c : Bool) (a : Asked) → (if c then Some (asked_renamed g a) else None) ≡ option_map (asked_renamed g) (if c then Some a else None)
if_asked g true a = refl
if_asked g false a = refl

asked_is : (g : ℕ → ℕ) (t : Term) → asked (renamed g t) ≡ option_map (asked_renamed g) (asked t)
asked_is g (variable v) = refl
asked_is g (integer i) = refl
asked_is g (atom a) = refl
asked_is g (structure f none) = refl
asked_is g (structure f (more a none)) = refl
asked_is g (structure f (more a (more b none))) = refl
asked_is g (structure f (more a (more b (more (variable v) none)))) = if_asked g (bytes_eq f (codes "exception")) (record { goal = b; new = v })
asked_is g (structure f (more a (more b (more (integer i) none)))) = refl
asked_is g (structure f (more a (more b (more (atom c) none)))) = refl
asked_is g (structure f (more a (more b (more (structure h us) none)))) = refl
asked_is g (structure f (more a (more b (more (variable v) (more d us))))) = refl
asked_is g (structure f (more a (more b (more (integer i) (more d us))))) = refl
asked_is g (structure f (more a (more b (more (atom c) (more d us))))) = refl
asked_is g (structure f (more a (more b (more (structure h ts) (more d us))))) = refl

asked_by : (g : ℕ → ℕ) (o : Option Term) → option_and_then asked (option_map (renamed g) o) ≡ option_map (asked_renamed g) (option_and_then asked o)
asked_by g None = refl
asked_by g (Some t) = asked_is g t

none_or : (g : ℕ → ℕ) (c : Bool) (x y : Option Asked) → x ≡ option_map (asked_renamed g) y → (if c then None else x) ≡ option_map (asked_renamed g) (if c then None else y)
none_or g true x y e = refl
none_or g false x y e = e

pub asked_at_is : (g : ℕ → ℕ) (o : Origin) (report : ℕ) → asked_at (origin_renamed g o) report ≡ option_map (asked_renamed g) (asked_at o report)
asked_at_is g o report =
    let n = report - 1 - o.forgotten in
    none_or g (nat_le report o.forgotten) (option_and_then asked (slice_get (elements_of (renamed g o.reports)) n)) (option_and_then asked (slice_get (elements_of o.reports) n))
    (ap (λ (l : List Term). option_and_then asked (slice_get l n)) (elements_are g o.reports) ∙ ap (option_and_then asked) (got_is g (elements_of o.reports) n) ∙ asked_by g (slice_get (elements_of o.reports) n))

-- an account with a term in place of a variable, and this last variable
abbrev answered_with : ℕ → Term → ℕ → Term → ℕ → State → State
answered_with v u new t last s = record (replace_in_state v u s) { names = with_names s.names (names_of t); last_variable = last; variables = s.variables + new; nodes = s.nodes + structures_of t }

answered_is : (g : ℕ → ℕ) (b : Bool) (w : List ℕ) (v : ℕ) (x : Given) (u t : Term) (s : State) → Fits g b w s → renamed g u ≡ x.goal → Becomes g b w (answered (g v) x t (like g w s)) (answered v (record x { goal = u }) t s)
answered_is g b w v x u t s fit e =
    let up = fit.up in
    let on = fit.on in
    let last = s.last_variable in
    record {
      is =
          ap₂ (λ z n. answered_with (g v) z x.new t n (like g w s)) (sym e) (sym (on x.new))
          ∙ ap (λ z. let y : State = record z { names = with_names s.names (names_of t); last_variable = g (last + x.new); variables = s.variables + x.new; nodes = s.nodes + structures_of t } in y) (replaced g b w v u s up);
      fits = record { up = up; on = shifts_later g last x.new on; work = fit.work };
    }

answer_by_is : (g : ℕ → ℕ) (b : Bool) (w : List ℕ) (x : Given) (u t : Term) (o : Option Asked) (s : State) → Fits g b w s → renamed g u ≡ x.goal →
    Turns g b (answer_by (like g w s) x t (option_map (asked_renamed g) o)) (answer_by s (record x { goal = u }) t o)
answer_by_is g b w x u t None s fit e = turns_refused g b w s answer_refused fit
answer_by_is g b w x u t (Some a) s fit e =
    let y : Transition = record { state = with_entry (answered (g a.new) x t (like g w s)); reply = sent } in
    let z : Transition = record { state = with_entry (answered a.new (record x { goal = u }) t s); reply = sent } in
    turns_unless g b w ((x.tells_gone, answer_refused) ∷ []) y z s fit
    (turns_done g b w (with_entry (answered (g a.new) x t (like g w s))) (with_entry (answered a.new (record x { goal = u }) t s)) sent
    (entered g b w (answered (g a.new) x t (like g w s)) (answered a.new (record x { goal = u }) t s) (answered_is g b w a.new x u t s fit e)))

pub answer_turns : (g : ℕ → ℕ) (b : Bool) (w : List ℕ) (x : Given) (u t : Term) (o : Option Asked) (s : State) → Fits g b w s → renamed g u ≡ x.goal →
    Turns g b (answer_with (like g w s) x t (option_map (asked_renamed g) o)) (answer_with s (record x { goal = u }) t o)
answer_turns g b w x u t o s fit e =
    turns_unless g b w ((are_too_many s.rules (with_names s.names (names_of t)), too_many_names) ∷ (not (has_room_to_answer s x.new t), limit_passed) ∷ (is_full s, journal_full) ∷ [])
    (answer_by (like g w s) x t (option_map (asked_renamed g) o)) (answer_by s (record x { goal = u }) t o) s fit (answer_by_is g b w x u t o s fit e)

given_by : (g : ℕ → ℕ) (b : Bool) (w : List ℕ) (c : Bool) (s : State) (o : Option Asked) (t : Term) → has_told s.rules ≡ c → c ≡ false → Fits g b w s →
    Turns g b (answer_asked (like g w s) t (option_map (asked_renamed g) o)) (answer_asked s t o)
given_by g b w true s o t e f fit = absurd (cc)
given_by g b w false s o t e f fit =
    let x : Given = record { goal = with_next_variables (g s.last_variable) t; new = highest t; tells_gone = false } in
    let u = with_next_variables s.last_variable t in
    let there : given (like g w s) (option_map (asked_renamed g) o) t ≡ x = ap (λ c. if c then given_told (option_map (asked_renamed g) o) (g s.last_variable) t else x) e in
    let here : given s o t ≡ record x { goal = u } = ap (λ c. if c then given_told o s.last_variable t else record x { goal = u }) e in
    let turns = answer_turns g b w x u t o s fit (sym (next_variables g s.last_variable t fit.on)) in
    subst (λ y. Turns g b (answer_with (like g w s) y t (option_map (asked_renamed g) o)) (answer_asked s t o)) (sym there)
    (subst (λ y. Turns g b (answer_with (like g w s) x t (option_map (asked_renamed g) o)) (answer_with s y t o)) (sym here) turns)

answer_in_is : (g : ℕ → ℕ) (b : Bool) (w : List ℕ) (report : ℕ) (t : Term) (h : Shoen) (o : Option Origin) (s : State) → has_told s.rules ≡ false → Fits g b w s →
    Turns g b (answer_in (like g w s) report t (shoen_renamed g h) (option_map (origin_renamed g) o)) (answer_in s report t h o)
answer_in_is g b w report t h None s f fit = turns_refused g b w s no_shoen fit
answer_in_is g b w report t h (Some o) s f fit =
    turns_or g b w (is_living h.life) shoen_ended (answer_living (like g w s) report t (origin_renamed g o)) (answer_living s report t o) s fit
    (subst (λ a. Turns g b (answer_asked (like g w s) t a) (answer_living s report t o)) (sym (asked_at_is g o report)) (given_by g b w (has_told s.rules) s (asked_at o report) t refl f fit))

pub answers_is : (g : ℕ → ℕ) (b : Bool) (w : List ℕ) (report : ℕ) (t : Term) (o : Option Shoen) (s : State) → has_told s.rules ≡ false → Fits g b w s → Turns g b (answer_to (like g w s) report t (option_map (shoen_renamed g) o)) (answer_to s report t o)
answers_is g b w report t None s f fit = turns_refused g b w s no_shoen fit
answers_is g b w report t (Some h) s f fit = answer_in_is g b w report t h h.origin s f fit
