-- A step of an account with other numbers for its variables in the same order is the step of the account, with these numbers.
use Rattle.std.proofs.Common.{◌≡◌, ℕ, zero, suc, ◌+◌, ◌-◌, not, ◌&&◌, Bool, true, false, if◌then◌else◌, List, [], ◌∷◌, refl, sym, ap, ap₂, ◌∙◌, subst}
use Rattle.std.specs.Prelude.{nat_le, nat_lt, bytes_eq, codes, map, take, length, Option, Some, None, option_map, is_some}
use Rattle.std.specs.List.{list_any}
use Rattle.kl1_model.specs.declared.limits.TheConstants.{MOST_SOURCE_BYTES, MOST_SESSIONS}
use Rattle.kl1_model.specs.Term.{Term, variable, integer, atom, structure, none, more}
use Rattle.kl1_model.specs.Module.{read_module}
use Rattle.kl1_model.specs.State.{Origin, Shoen, State, has_forgetting, fresh_with, shoen_at, change_shoen, is_living}
use Rattle.kl1_model.specs.Tree.{is_on_path}
use Rattle.kl1_model.specs.Event.{Refusal, syntax, no_shoen, journal_full, sessions_refused, answer_refused, Event, load, start, control, reduce, read, login, logout, reset, answer, forget, was_reset, forgot, Transition, unless, is_full, with_entry}
use Rattle.kl1_model.specs.Report.{report}
use Rattle.kl1_model.specs.Sending.{may_send, send_to}
use Rattle.kl1_model.specs.Answering.{may_answer, answer_with, answer_to}
use Rattle.kl1_model.specs.Asking.{elements_of}
use Rattle.kl1_model.specs.Forgetting.{may_forget, without_cells, waits, can_go, without_reports, with_origin, empty_place, gone_below, gone, may_go, forget_by, forget_of}
use Rattle.kl1_model.specs.Step.{load_module, step}
use Rattle.kl1_model.specs.laws.RelabelLaws.{renamed, origin_renamed, shoen_renamed, relabelled, transition_relabelled, asked_renamed, IsIncreasing, ShiftsFrom, IsBlind, is_reset, StepRelabelled, ShiftsStay, FirstRelabelled, QuietRelabelled, RunRelabelled, AnswerRelabelled}
use Rattle.kl1_model.proofs.RelabelledStates.{like, Fits, map_same, any_same, shoen_found, on_path_is, changed}
use Rattle.kl1_model.proofs.RelabelledChoices.{quiet_is, first_is, run_is}
use Rattle.kl1_model.proofs.RelabelledEffects.{renamed_if, length_is, transition_like, Turns, turns_refused, turns_or, turns_done, turns_unless, reduces_is}
use Rattle.kl1_model.proofs.RelabelledAnswers.{loads_is, starts_is, send_is, elements_renamed, elements_are, answer_turns, answers_is}

-- ---- letting go

cells_are : (g : ℕ → ℕ) (n : ℕ) (t : Term) → without_cells n (renamed g t) ≡ renamed g (without_cells n t)
cells_are g zero t = refl
cells_are g (suc n) (variable v) = refl
cells_are g (suc n) (integer i) = refl
cells_are g (suc n) (atom a) = refl
cells_are g (suc n) (structure f none) = refl
cells_are g (suc n) (structure f (more h none)) = refl
cells_are g (suc n) (structure f (more h (more t none))) =
    let s = structure f (more h (more t none)) in
    renamed_if g (bytes_eq f (codes ".")) (without_cells n (renamed g t)) (renamed g s) (without_cells n t) s (cells_are g n t) refl
cells_are g (suc n) (structure f (more h (more t (more u us)))) = refl

reports_go : (g : ℕ → ℕ) (count : ℕ) (o : Origin) → without_reports count (origin_renamed g o) ≡ origin_renamed g (without_reports count o)
reports_go g count o = ap (λ t. let p : Origin = record (origin_renamed g o) { forgotten = count; reports = t } in p) (cells_are g (count - o.forgotten) o.reports)

if_place : (g : ℕ → ℕ) (c d : Bool) (h : Shoen) → d ≡ c → (if d then empty_place (shoen_renamed g h) else shoen_renamed g h) ≡ shoen_renamed g (if c then empty_place h else h)
if_place g true true h e = refl
if_place g true false h e = absurd (cc)
if_place g false true h e = absurd (cc)
if_place g false false h e = refl

gone_is : (g : ℕ → ℕ) (b : Bool) (w : List ℕ) (n count : ℕ) (o : Origin) (s : State) → gone n count (origin_renamed g o) (like g w s) ≡ like g w (gone n count o s)
gone_is g b w n zero o s =
    let all = map (shoen_renamed g) s.shoens in
    ap (λ (hs : List Shoen). let t : State = record (like g w s) { shoens = hs } in t)
    (map_same (shoen_renamed g) (gone_below s.shoens n) (gone_below all n)
    (λ h. if_place g (not (is_living h.life) && is_on_path s.shoens n h.number) (not (is_living h.life) && is_on_path all n h.number) h (ap (λ b. not (is_living h.life) && b) (on_path_is g s.shoens n h.number))) s.shoens)
gone_is g b w n (suc count) o s =
    ap (λ p. change_shoen n (with_origin p) (like g w s)) (reports_go g (suc count) o)
    ∙ changed g b w n (with_origin (without_reports (suc count) o)) (with_origin (origin_renamed g (without_reports (suc count) o))) s (λ h. refl)

if_some : (g : ℕ → ℕ) (c : Bool) (v : ℕ) → is_some (if c then Some (g v) else None) ≡ is_some (if c then Some v else None)
if_some g true v = refl
if_some g false v = refl

waits_is : (g : ℕ → ℕ) (t : Term) → waits (renamed g t) ≡ waits t
waits_is g (variable v) = refl
waits_is g (integer i) = refl
waits_is g (atom a) = refl
waits_is g (structure f none) = refl
waits_is g (structure f (more a none)) = refl
waits_is g (structure f (more a (more b none))) = refl
waits_is g (structure f (more a (more b (more (variable v) none)))) = if_some g (bytes_eq f (codes "exception")) v
waits_is g (structure f (more a (more b (more (integer i) none)))) = refl
waits_is g (structure f (more a (more b (more (atom c) none)))) = refl
waits_is g (structure f (more a (more b (more (structure h us) none)))) = refl
waits_is g (structure f (more a (more b (more (variable v) (more d us))))) = refl
waits_is g (structure f (more a (more b (more (integer i) (more d us))))) = refl
waits_is g (structure f (more a (more b (more (atom c) (more d us))))) = refl
waits_is g (structure f (more a (more b (more (structure h ts) (more d us))))) = refl

taken_is : (g : ℕ → ℕ) (n : ℕ) (ts : List Term) → take n (elements_renamed g ts) ≡ elements_renamed g (take n ts)
taken_is g zero ts = refl
taken_is g (suc n) [] = refl
taken_is g (suc n) (t ∷ ts) = ap (λ (l : List Term). renamed g t ∷ l) (taken_is g n ts)

can_go_is : (g : ℕ → ℕ) (count : ℕ) (h : Shoen) (o : Origin) → can_go count (shoen_renamed g h) (origin_renamed g o) ≡ can_go count h o
can_go_is g count h o =
    let there = elements_of o.reports in
    let by : List Term → Bool = λ there. nat_lt o.forgotten count && nat_le count (o.forgotten + length there) && not (is_living h.life && list_any waits (take (count - o.forgotten) there)) in
    ap by (elements_are g o.reports)
    ∙ ap₂ (λ n b. nat_lt o.forgotten count && nat_le count (o.forgotten + n) && not (is_living h.life && b)) (length_is g there)
    (ap (list_any waits) (taken_is g (count - o.forgotten) there) ∙ any_same (renamed g) waits waits (waits_is g) (take (count - o.forgotten) there))

may_go_is : (g : ℕ → ℕ) (count : ℕ) (h : Shoen) (o : Origin) → may_go count (shoen_renamed g h) (origin_renamed g o) ≡ may_go count h o
may_go_is g zero h o = refl
may_go_is g (suc count) h o = can_go_is g (suc count) h o

forget_by_is : (g : ℕ → ℕ) (b : Bool) (w : List ℕ) (n count : ℕ) (h : Shoen) (o : Option Origin) (s : State) → Fits g b w s → Turns g b (forget_by (like g w s) n count (shoen_renamed g h) (option_map (origin_renamed g) o)) (forget_by s n count h o)
forget_by_is g b w n count h None s fit = turns_refused g b w s no_shoen fit
forget_by_is g b w n count h (Some o) s fit =
    let y : Transition = record { state = with_entry (gone n count (origin_renamed g o) (like g w s)); reply = forgot } in
    let x : Transition = record { state = with_entry (gone n count o s); reply = forgot } in
    let rows : Bool → List (Bool × Refusal) = λ c. (is_full s, journal_full) ∷ (not c, answer_refused) ∷ [] in
    subst (λ c. Turns g b (unless (like g w s) (rows c) y) (forget_by s n count h (Some o))) (sym (may_go_is g count h o))
    (turns_unless g b w (rows (may_go count h o)) y x s fit
    (turns_done g b w (with_entry (gone n count (origin_renamed g o) (like g w s))) (with_entry (gone n count o s)) forgot
    (record { is = ap with_entry (gone_is g b w n count o s); fits = gone_fits n count o s fit })))
  where
    gone_fits : (n count : ℕ) (o : Origin) (s : State) → Fits g b w s → Fits g b w (with_entry (gone n count o s))
    gone_fits n zero o s fit = record { up = fit.up; on = fit.on; work = fit.work }
    gone_fits n (suc count) o s fit = record { up = fit.up; on = fit.on; work = fit.work }

forgets_is : (g : ℕ → ℕ) (b : Bool) (w : List ℕ) (n count : ℕ) (o : Option Shoen) (s : State) → Fits g b w s → Turns g b (forget_of (like g w s) n count (option_map (shoen_renamed g) o)) (forget_of s n count o)
forgets_is g b w n count None s fit = turns_refused g b w s no_shoen fit
forgets_is g b w n count (Some h) s fit = forget_by_is g b w n count h h.origin s fit

-- ---- steps

pub turns : (g : ℕ → ℕ) (b : Bool) (w : List ℕ) (s : State) (e : Event) → Fits g b w s → IsBlind s e → is_reset e ≡ false → Turns g b (step (like g w s) e) (step s e)
turns g b w s (load text) fit blind r = turns_or g b w (nat_le (length text) MOST_SOURCE_BYTES) syntax (load_module (like g w s) (read_module text)) (load_module s (read_module text)) s fit (loads_is g b w (read_module text) s fit)
turns g b w s (start allowance low high t) fit blind r = starts_is g b w allowance low high t s fit
turns g b w s (control n m) fit blind r =
    turns_or g b w (may_send n m) syntax (send_to (like g w s) n m (shoen_at n (map (shoen_renamed g) s.shoens))) (send_to s n m (shoen_at n s.shoens)) s fit
    (subst (λ o. Turns g b (send_to (like g w s) n m o) (send_to s n m (shoen_at n s.shoens))) (sym (shoen_found g n s.shoens)) (send_is g b w n m (shoen_at n s.shoens) s fit))
turns g b w s (reduce goal clause) fit blind r = reduces_is g b w goal clause s fit
turns g b w s (read q) fit blind r = absurd blind
turns g b w s login fit blind r = turns_or g b w (nat_lt s.sessions MOST_SESSIONS) sessions_refused _ _ s fit (w, (refl, record { up = fit.up; on = fit.on; work = fit.work }))
turns g b w s logout fit blind r = turns_or g b w (nat_lt 0 s.sessions) sessions_refused _ _ s fit (w, (refl, record { up = fit.up; on = fit.on; work = fit.work }))
turns g b w s reset fit blind r = absurd (cc)
turns g b w s (answer n report t) fit blind r =
    turns_or g b w (may_answer s.rules n report t) syntax (answer_to (like g w s) report t (shoen_at n (map (shoen_renamed g) s.shoens))) (answer_to s report t (shoen_at n s.shoens)) s fit
    (subst (λ o. Turns g b (answer_to (like g w s) report t o) (answer_to s report t (shoen_at n s.shoens))) (sym (shoen_found g n s.shoens)) (answers_is g b w report t (shoen_at n s.shoens) s blind fit))
turns g b w s (forget n count) fit blind r =
    turns_or g b w (has_forgetting s.rules && may_forget n count) syntax (forget_of (like g w s) n count (shoen_at n (map (shoen_renamed g) s.shoens))) (forget_of s n count (shoen_at n s.shoens)) s fit
    (subst (λ o. Turns g b (forget_of (like g w s) n count o) (forget_of s n count (shoen_at n s.shoens))) (sym (shoen_found g n s.shoens)) (forgets_is g b w n count (shoen_at n s.shoens) s fit))

exact : (g : ℕ → ℕ) (x y : Transition) → Turns g true y x → y ≡ transition_relabelled g x
exact g x y t = t.1.0 ∙ ap (λ w. transition_like g w x) t.1.1.work

reset_is : (g : ℕ → ℕ) (s : State) → g 0 ≡ 0 → step (relabelled g s) reset ≡ transition_relabelled g (step s reset)
reset_is g s z = ap (λ n. let x : Transition = record { state = record (fresh_with s.rules s.own_name s.names s.sessions) { last_variable = n }; reply = was_reset } in x) (sym z)

by_reset : (g : ℕ → ℕ) (s : State) (e : Event) (c : Bool) → is_reset e ≡ c → IsIncreasing g → g 0 ≡ 0 → ShiftsFrom g s.last_variable → IsBlind s e → step (relabelled g s) e ≡ transition_relabelled g (step s e)
by_reset g s e false r up z on blind = exact g (step s e) (step (relabelled g s) e) (turns g true s.work s e (record { up = up; on = on; work = refl }) blind r)
by_reset g s reset true r up z on blind = reset_is g s z
by_reset g s (load text) true r up z on blind = absurd (cc)
by_reset g s (start allowance low high t) true r up z on blind = absurd (cc)
by_reset g s (control n m) true r up z on blind = absurd (cc)
by_reset g s (reduce goal clause) true r up z on blind = absurd (cc)
by_reset g s (read q) true r up z on blind = absurd (cc)
by_reset g s login true r up z on blind = absurd (cc)
by_reset g s logout true r up z on blind = absurd (cc)
by_reset g s (answer n report t) true r up z on blind = absurd (cc)
by_reset g s (forget n count) true r up z on blind = absurd (cc)

pub step_relabelled : StepRelabelled
step_relabelled g s e up z on blind = by_reset g s e (is_reset e) refl up z on blind

pub shifts_stay : ShiftsStay
shifts_stay g s e up on blind r = (turns g true s.work s e (record { up = up; on = on; work = refl }) blind r).1.1.on

pub answer_relabelled : AnswerRelabelled
answer_relabelled g s a t u there up on e =
    exact g (answer_with s (record there { goal = u }) t a) (answer_with (relabelled g s) there t (option_map (asked_renamed g) a)) (answer_turns g true s.work there u t a s (record { up = up; on = on; work = refl }) e)

pub first_relabelled : FirstRelabelled
first_relabelled g s up = first_is g true s.work s up refl

pub quiet_relabelled : QuietRelabelled
quiet_relabelled g s up = quiet_is g true s.work s up refl

pub run_relabelled : RunRelabelled
run_relabelled g s goal clause up = run_is g true s.work s goal clause up refl
