-- The order in which reductions were done that are charged makes no difference.
use Rattle.std.proofs.Common.{◌≡◌, ℕ, suc, ◌+◌, ◌==◌, not, ◌&&◌, Bool, true, false, if◌then◌else◌, List, [], ◌∷◌, refl, sym, ap, ap₂, ◌∙◌, arith}
use Rattle.std.specs.Prelude.{nat_le, map, count_by, cond, Option, Some, None, option_map}
use Rattle.std.proofs.lemmas.Bool.{eq-eqb, eqb-true}
use Rattle.kl1_model.specs.declared.life.Life.{Life}
use Rattle.kl1_model.specs.declared.life.Life.TheVariants.{Living, Terminated, Aborted, Forgotten}
use Rattle.kl1_model.specs.declared.condition.Condition.TheVariants.{Stopped, Exhausted, Running}
use Rattle.kl1_model.specs.Term.{Term, variable, integer, atom, structure, Terms, none, more}
use Rattle.kl1_model.specs.Print.{cut_print}
use Rattle.kl1_model.specs.State.{Task, monitor, reduces, substitutes, Goal, Origin, Shoen, State, names_of, with_names, shoen_at, is_living}
use Rattle.kl1_model.specs.Tree.{charged_of, goals_below}
use Rattle.kl1_model.specs.Event as event
use Rattle.kl1_model.specs.Event.{syntax, shoen_ended, too_many_names, limit_passed, journal_full, answer_refused, Query, value, status, reports, modules, is_quiet, Event, load, start, control, reduce, read, login, logout, reset, answer, forget, shown, status_is, sent, Reply, Refusal, Transition, refuse, is_number, unless, are_too_many, is_full, with_entry}
use Rattle.kl1_model.specs.Choice.{first, quiet}
use Rattle.kl1_model.specs.Telling.{Asked, Given}
use Rattle.kl1_model.specs.Answering.{may_answer, has_room_to_answer, asked_at, given, answered, answer_by, answer_asked, answer_living, answer_to}
use Rattle.kl1_model.specs.Asking.{origin_at, kept_at, condition_of, reply_about, reports_from, reply_to}
use Rattle.kl1_model.specs.Step.{step}
use Rattle.kl1_model.specs.code.Steps.{answer_in, condition_by}
use Rattle.kl1_model.specs.laws.RelabelLaws.{renamed, each_renamed, task_renamed, goal_renamed, origin_renamed, shoen_renamed, IsBlind, is_reset}
use Rattle.kl1_model.specs.laws.WorkLaws.{with_work, SameCounts, OrderOfWorkIsNothing, OrderOfWorkIsNotSeen}
use Rattle.kl1_model.proofs.RelabelledStates.{count_cons, AreAlike, like, Fits, charged_is}
use Rattle.kl1_model.proofs.RelabelledChoices.{quiet_is, first_is}
use Rattle.kl1_model.proofs.RelabelledSteps.{turns}

-- ---- the same counts

-- a list without the first that is this
abbrev without_first : ℕ → List ℕ → List ℕ
without_first x [] = []
without_first x (m ∷ ms) = if m == x then ms else m ∷ without_first x ms

out_by : (f : ℕ → Bool) (x m : ℕ) (ms : List ℕ) (b : Bool) → m == x ≡ b → (m == x ≡ false → count_by f ms ≡ count_by f (x ∷ without_first x ms)) →
    count_by f (m ∷ ms) ≡ count_by f (x ∷ (if b then ms else m ∷ without_first x ms))
out_by f x m ms true h e = count_cons f m ms ∙ ap (λ y. cond (f y) 1 0 + count_by f ms) (eqb-true m x h) ∙ sym (count_cons f x ms)
out_by f x m ms false h e =
    let ws = without_first x ms in
    let one = count_cons f m ms in
    let two = e h in
    let three = count_cons f x ws in
    let four = count_cons f x (m ∷ ws) in
    let five = count_cons f m ws in
    omega (arith, one, two, three, four, five)

first_out : (f : ℕ → Bool) (x : ℕ) (w : List ℕ) (c : ℕ) → count_by (λ m. m == x) w ≡ suc c → count_by f w ≡ count_by f (x ∷ without_first x w)
first_out f x [] c e = absurd (omega (arith, e))
first_out f x (m ∷ ms) c e = out_by f x m ms (m == x) refl
    (λ h.
    let front = count_cons (λ k. k == x) m ms ∙ ap (λ b. cond b 1 0 + count_by (λ k. k == x) ms) h in
    let rest : count_by (λ k. k == x) ms ≡ suc c = omega (arith, front, e) in
    first_out f x ms c rest)

is_empty : (w : List ℕ) → SameCounts [] w → w ≡ []
is_empty [] a = refl
is_empty (m ∷ ms) a =
    let none : 0 ≡ count_by (λ x. x == m) (m ∷ ms) = a m in
    let front = count_cons (λ x. x == m) m ms ∙ ap (λ b. cond b 1 0 + count_by (λ x. x == m) ms) (eq-eqb m m refl) in
    absurd (omega (arith, none, front))

counts_all : (v w : List ℕ) → SameCounts v w → AreAlike false v w
counts_all [] w a = λ f. ap (count_by f) (is_empty w a)
counts_all (x ∷ xs) w a =
    let c = count_by (λ m. m == x) xs in
    let front = count_cons (λ m. m == x) x xs ∙ ap (λ b. cond b 1 0 + c) (eq-eqb x x refl) in
    let all = a x in
    let there : count_by (λ m. m == x) w ≡ suc c = omega (arith, all, front) in
    let ws = without_first x w in
    let rest : SameCounts xs ws = λ n.
    let one = a n in
    let two = first_out (λ m. m == n) x w c there in
    let three = count_cons (λ m. m == n) x xs in
    let four = count_cons (λ m. m == n) x ws in
    omega (arith, one, two, three, four) in
    λ f. first_out f x w c there ∙ count_cons f x ws ∙ ap (λ k. cond (f x) 1 0 + k) (counts_all xs ws rest f) ∙ sym (count_cons f x xs)

-- ---- numbers as they are

abbrev as_is : ℕ → ℕ
as_is v = v

mutual
  term_as_is : (t : Term) → renamed as_is t ≡ t
  term_as_is (variable v) = refl
  term_as_is (integer i) = refl
  term_as_is (atom a) = refl
  term_as_is (structure f ts) = ap (structure f) (terms_as_is ts)

  terms_as_is : (ts : Terms) → each_renamed as_is ts ≡ ts
  terms_as_is none = refl
  terms_as_is (more t ts) = ap₂ more (term_as_is t) (terms_as_is ts)

task_as_is : (t : Task) → task_renamed as_is t ≡ t
task_as_is monitor = refl
task_as_is (reduces t) = ap reduces (term_as_is t)
task_as_is (substitutes t) = ap substitutes (term_as_is t)

origin_as_is : (o : Option Origin) → option_map (origin_renamed as_is) o ≡ o
origin_as_is None = refl
origin_as_is (Some o) =
    ap (λ t. let p : Origin = record { goal = t; forgotten = o.forgotten; reports = renamed as_is o.reports; control = renamed as_is o.control } in Some p) (term_as_is o.goal)
    ∙ ap₂ (λ t u. let p : Origin = record { goal = o.goal; forgotten = o.forgotten; reports = t; control = u } in Some p) (term_as_is o.reports) (term_as_is o.control)

goals_as_is : (ks : List Goal) → map (goal_renamed as_is) ks ≡ ks
goals_as_is [] = refl
goals_as_is (k ∷ ks) = ap₂ (λ (t : Task) (l : List Goal). (record k { task = t }) ∷ l) (task_as_is k.task) (goals_as_is ks)

shoen_as_is : (h : Shoen) → shoen_renamed as_is h ≡ h
shoen_as_is h =
    ap₂ (λ t u. let k : Shoen = record h { control = t; tail = u; origin = option_map (origin_renamed as_is) h.origin } in k) (term_as_is h.control) (term_as_is h.tail)
    ∙ ap (λ (o : Option Origin). let k : Shoen = record h { origin = o } in k) (origin_as_is h.origin)

shoens_as_is : (hs : List Shoen) → map (shoen_renamed as_is) hs ≡ hs
shoens_as_is [] = refl
shoens_as_is (h ∷ hs) = ap₂ (λ (k : Shoen) (l : List Shoen). k ∷ l) (shoen_as_is h) (shoens_as_is hs)

state_as_is : (w : List ℕ) (s : State) → like as_is w s ≡ with_work w s
state_as_is w s = ap₂ (λ (gs : List Goal) (hs : List Shoen). let t : State = record s { goals = gs; shoens = hs; work = w } in t) (goals_as_is s.goals) (shoens_as_is s.shoens)

fits : (w : List ℕ) (s : State) → SameCounts s.work w → Fits as_is false w s
fits w s a = record { up = λ v w less. less; on = λ n. refl; work = counts_all s.work w a }

-- ---- what is asked

charged_same : (s : State) (w : List ℕ) (n : ℕ) → SameCounts s.work w → charged_of (with_work w s) n ≡ charged_of s n
charged_same s w n a = sym (ap (λ t. charged_of t n) (state_as_is w s)) ∙ charged_is as_is false w s n (counts_all s.work w a)

quiet_same : (s : State) (w : List ℕ) → SameCounts s.work w → quiet (with_work w s) ≡ quiet s
quiet_same s w a = sym (ap quiet (state_as_is w s)) ∙ quiet_is as_is false w s (λ v w less. less) (counts_all s.work w a)

first_same : (s : State) (w : List ℕ) → SameCounts s.work w → first (with_work w s) ≡ first s
first_same s w a = sym (ap first (state_as_is w s)) ∙ first_is as_is false w s (λ v w less. less) (counts_all s.work w a)

pub order_of_work_is_not_seen : OrderOfWorkIsNotSeen
order_of_work_is_not_seen s w a = (first_same s w a, quiet_same s w a)

abbrev answered_by : List ℕ → State → Transition → Transition → Type 0
answered_by w s y x = y ≡ record { state = with_work w s; reply = x.reply }

about_same : {A : Type 0} (w : List ℕ) (s : State) (f h : A → Reply) (o : Option A) → ((a : A) → h a ≡ f a) → answered_by w s (reply_about (with_work w s) h o) (reply_about s f o)
about_same w s f h None e = refl
about_same w s f h (Some a) e = ap (λ r. let x : Transition = record { state = with_work w s; reply = r } in x) (e a)

asked_if : (c : Bool) (w : List ℕ) (s : State) (y x : Transition) → answered_by w s y x → answered_by w s (if c then y else refuse (with_work w s) syntax) (if c then x else refuse s syntax)
asked_if true w s y x e = e
asked_if false w s y x e = refl

condition_same : (s : State) (w : List ℕ) (h : Shoen) (life : Life) → SameCounts s.work w → condition_by (with_work w s) h life ≡ condition_by s h life
condition_same s w h Terminated a = refl
condition_same s w h Aborted a = refl
condition_same s w h Forgotten a = refl
condition_same s w h Living a = ap (λ n. if h.is_stopped then Stopped else if nat_le h.allowance n then Exhausted else Running) (charged_same s w h.number a)

status_same : (s : State) (w : List ℕ) (h : Shoen) → SameCounts s.work w →
    status_is (condition_of (with_work w s) h) (charged_of (with_work w s) h.number) h.allowance (goals_below (with_work w s) h.number) ≡ status_is (condition_of s h) (charged_of s h.number) h.allowance (goals_below s h.number)
status_same s w h a = ap₂ (λ c n. status_is c n h.allowance (goals_below s h.number)) (condition_same s w h h.life a) (charged_same s w h.number a)

query_same : (s : State) (w : List ℕ) (q : Query) → SameCounts s.work w → answered_by w s (reply_to (with_work w s) q) (reply_to s q)
query_same s w (value n) a =
    asked_if (is_number n) w s (reply_about (with_work w s) (λ o. shown (cut_print o.goal)) (origin_at n s.shoens)) (reply_about s (λ o. shown (cut_print o.goal)) (origin_at n s.shoens))
    (about_same w s (λ o. shown (cut_print o.goal)) (λ o. shown (cut_print o.goal)) (origin_at n s.shoens) (λ o. refl))
query_same s w (status n) a =
    let f : Shoen → Reply = λ h. status_is (condition_of s h) (charged_of s h.number) h.allowance (goals_below s h.number) in
    let k : Shoen → Reply = λ h. status_is (condition_of (with_work w s) h) (charged_of (with_work w s) h.number) h.allowance (goals_below (with_work w s) h.number) in
    asked_if (is_number n) w s (reply_about (with_work w s) k (kept_at n s.shoens)) (reply_about s f (kept_at n s.shoens)) (about_same w s f k (kept_at n s.shoens) (λ h. status_same s w h a))
query_same s w (reports n from) a =
    asked_if (is_number n && is_number from && nat_le 1 from) w s (reply_about (with_work w s) (reports_from from) (origin_at n s.shoens)) (reply_about s (reports_from from) (origin_at n s.shoens))
    (about_same w s (reports_from from) (reports_from from) (origin_at n s.shoens) (λ o. refl))
query_same s w modules a = refl
query_same s w is_quiet a = ap (λ b. let x : Transition = record { state = with_work w s; reply = event.quiet_is b } in x) (quiet_same s w a)

query_state : (s : State) (q : Query) → (reply_to s q).state ≡ s
query_state s (value n) = by_number (is_number n) (origin_at n s.shoens)
  where
    by_number : (c : Bool) (o : Option Origin) → (if c then reply_about s (λ o. shown (cut_print o.goal)) o else refuse s syntax).state ≡ s
    by_number true None = refl
    by_number true (Some o) = refl
    by_number false o = refl
query_state s (status n) = by_number (is_number n) (kept_at n s.shoens)
  where
    by_number : (c : Bool) (o : Option Shoen) → (if c then reply_about s (λ h. status_is (condition_of s h) (charged_of s h.number) h.allowance (goals_below s h.number)) o else refuse s syntax).state ≡ s
    by_number true None = refl
    by_number true (Some o) = refl
    by_number false o = refl
query_state s (reports n from) = by_number (is_number n && is_number from && nat_le 1 from) (origin_at n s.shoens)
  where
    by_number : (c : Bool) (o : Option Origin) → (if c then reply_about s (reports_from from) o else refuse s syntax).state ≡ s
    by_number true None = refl
    by_number true (Some o) = refl
    by_number false o = refl
query_state s modules = refl
query_state s is_quiet = refl

-- ---- answers

-- a transition of an account with this work
abbrev with_this : List ℕ → Transition → Transition
with_this w x = record { state = with_work w x.state; reply = x.reply }

same_or : (c : Bool) (r : Refusal) (w : List ℕ) (s : State) (y x : Transition) → y ≡ with_this w x → (if c then y else refuse (with_work w s) r) ≡ with_this w (if c then x else refuse s r)
same_or true r w s y x e = e
same_or false r w s y x e = refl

same_refused : (c : Bool) (r : Refusal) (w : List ℕ) (s : State) (y x : Transition) → y ≡ with_this w x → (if c then refuse (with_work w s) r else y) ≡ with_this w (if c then refuse s r else x)
same_refused true r w s y x e = refl
same_refused false r w s y x e = e

same_unless : (rs : List (Bool × Refusal)) (w : List ℕ) (s : State) (y x : Transition) → y ≡ with_this w x → unless (with_work w s) rs y ≡ with_this w (unless s rs x)
same_unless [] w s y x e = e
same_unless (r ∷ rs) w s y x e = same_refused r.0 r.1 w s (unless (with_work w s) rs y) (unless s rs x) (same_unless rs w s y x e)

answer_by_same : (w : List ℕ) (s : State) (x : Given) (t : Term) (o : Option Asked) → answer_by (with_work w s) x t o ≡ with_this w (answer_by s x t o)
answer_by_same w s x t None = refl
answer_by_same w s x t (Some a) =
    same_unless ((x.tells_gone, answer_refused) ∷ []) w s (record { state = with_entry (answered a.new x t (with_work w s)); reply = sent }) (record { state = with_entry (answered a.new x t s); reply = sent }) refl

answer_same : (w : List ℕ) (s : State) (t : Term) (o : Option Asked) → answer_asked (with_work w s) t o ≡ with_this w (answer_asked s t o)
answer_same w s t o =
    let x = given s o t in
    same_unless ((are_too_many s.rules (with_names s.names (names_of t)), too_many_names) ∷ (not (has_room_to_answer s x.new t), limit_passed) ∷ (is_full s, journal_full) ∷ []) w s
    (answer_by (with_work w s) x t o) (answer_by s x t o) (answer_by_same w s x t o)

answer_in_same : (w : List ℕ) (s : State) (report : ℕ) (t : Term) (h : Shoen) (o : Option Origin) → answer_in (with_work w s) report t h o ≡ with_this w (answer_in s report t h o)
answer_in_same w s report t h None = refl
answer_in_same w s report t h (Some o) =
    same_or (is_living h.life) shoen_ended w s (answer_living (with_work w s) report t o) (answer_living s report t o) (answer_same w s t (asked_at o report))

answer_to_same : (w : List ℕ) (s : State) (report : ℕ) (t : Term) (o : Option Shoen) → answer_to (with_work w s) report t o ≡ with_this w (answer_to s report t o)
answer_to_same w s report t None = refl
answer_to_same w s report t (Some h) = answer_in_same w s report t h h.origin

kept_if : (c : Bool) (r : Refusal) (s : State) (x : Transition) → x.state.work ≡ s.work → (if c then x else refuse s r).state.work ≡ s.work
kept_if true r s x e = e
kept_if false r s x e = refl

kept_refused : (c : Bool) (r : Refusal) (s : State) (x : Transition) → x.state.work ≡ s.work → (if c then refuse s r else x).state.work ≡ s.work
kept_refused true r s x e = refl
kept_refused false r s x e = e

kept_unless : (rs : List (Bool × Refusal)) (s : State) (x : Transition) → x.state.work ≡ s.work → (unless s rs x).state.work ≡ s.work
kept_unless [] s x e = e
kept_unless (r ∷ rs) s x e = kept_refused r.0 r.1 s (unless s rs x) (kept_unless rs s x e)

answer_by_keeps : (s : State) (x : Given) (t : Term) (o : Option Asked) → (answer_by s x t o).state.work ≡ s.work
answer_by_keeps s x t None = refl
answer_by_keeps s x t (Some a) = kept_unless ((x.tells_gone, answer_refused) ∷ []) s (record { state = with_entry (answered a.new x t s); reply = sent }) refl

answer_asked_keeps : (s : State) (t : Term) (o : Option Asked) → (answer_asked s t o).state.work ≡ s.work
answer_asked_keeps s t o =
    let x = given s o t in
    kept_unless ((are_too_many s.rules (with_names s.names (names_of t)), too_many_names) ∷ (not (has_room_to_answer s x.new t), limit_passed) ∷ (is_full s, journal_full) ∷ []) s
    (answer_by s x t o) (answer_by_keeps s x t o)

answer_in_keeps : (s : State) (report : ℕ) (t : Term) (h : Shoen) (o : Option Origin) → (answer_in s report t h o).state.work ≡ s.work
answer_in_keeps s report t h None = refl
answer_in_keeps s report t h (Some o) = kept_if (is_living h.life) shoen_ended s (answer_living s report t o) (answer_asked_keeps s t (asked_at o report))

answer_to_keeps : (s : State) (report : ℕ) (t : Term) (o : Option Shoen) → (answer_to s report t o).state.work ≡ s.work
answer_to_keeps s report t None = refl
answer_to_keeps s report t (Some h) = answer_in_keeps s report t h h.origin

-- ---- events

-- what the law says of one event
abbrev Says : State → List ℕ → Event → Type 0
Says s w e = (v : List ℕ) × (SameCounts (step s e).state.work v × (step (with_work w s) e ≡ record { state = with_work v (step s e).state; reply = (step s e).reply }))

blind : (s : State) (w : List ℕ) (e : Event) → SameCounts s.work w → IsBlind s e → is_reset e ≡ false → Says s w e
blind s w e a b r =
    let t = turns as_is false w s e (fits w s a) b r in
    let x = step s e in (
      t.0,
      (
        λ n. sym (t.1.1.work (λ m. m == n)),
        sym (ap (λ u. step u e) (state_as_is w s)) ∙ t.1.0 ∙ ap (λ u. let y : Transition = record { state = u; reply = x.reply } in y) (state_as_is t.0 x.state),
      ),
    )

answer_says : (s : State) (w : List ℕ) (n report : ℕ) (t : Term) → SameCounts s.work w → Says s w (answer n report t)
answer_says s w n report t a =
    let h = shoen_at n s.shoens in
    let may = may_answer s.rules n report t in
    let kept : (step s (answer n report t)).state.work ≡ s.work = kept_if may syntax s (answer_to s report t h) (answer_to_keeps s report t h) in
    let same : step (with_work w s) (answer n report t) ≡ with_this w (step s (answer n report t)) = same_or may syntax w s (answer_to (with_work w s) report t h) (answer_to s report t h) (answer_to_same w s report t h) in
    (w, (λ m. ap (count_by (λ k. k == m)) kept ∙ a m, same))

pub order_of_work_is_nothing : OrderOfWorkIsNothing
order_of_work_is_nothing s w (load text) a = blind s w (load text) a tt refl
order_of_work_is_nothing s w (start allowance low high t) a = blind s w (start allowance low high t) a tt refl
order_of_work_is_nothing s w (control n m) a = blind s w (control n m) a tt refl
order_of_work_is_nothing s w (reduce goal clause) a = blind s w (reduce goal clause) a tt refl
order_of_work_is_nothing s w (read q) a = (
  w,
  (
    λ n. ap (λ t. count_by (λ m. m == n) t.work) (query_state s q) ∙ a n,
    query_same s w q a ∙ ap (λ t. let x : Transition = record { state = with_work w t; reply = (reply_to s q).reply } in x) (sym (query_state s q)),
  ),
)
order_of_work_is_nothing s w login a = blind s w login a tt refl
order_of_work_is_nothing s w logout a = blind s w logout a tt refl
order_of_work_is_nothing s w reset a = ([], (λ n. refl, refl))
order_of_work_is_nothing s w (answer n report t) a = answer_says s w n report t a
order_of_work_is_nothing s w (forget n count) a = blind s w (forget n count) a tt refl
