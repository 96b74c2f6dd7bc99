-- How shoens end: whose lives change, and whose goals go.
use Rattle.std.proofs.Common.{◌≡◌, ℕ, suc, ◌==◌, ◌||◌, not, ◌&&◌, Bool, true, false, if◌then◌else◌, List, [], ◌∷◌, refl, sym, ap, ap₂, ◌∙◌}
use Rattle.std.specs.Prelude.{map, Option, Some, None}
use Rattle.std.specs.List.{AllByRecursion}
use Rattle.std.proofs.lemmas.Bool.{and_parts}
use Rattle.kl1_model.specs.declared.life.Life.{Life}
use Rattle.kl1_model.specs.declared.life.Life.TheVariants.{Terminated, Aborted}
use Rattle.kl1_model.specs.declared.rules.Rules.{Rules}
use Rattle.kl1_model.specs.Term.{Term, variable, integer, atom, structure}
use Rattle.kl1_model.specs.Meaning.{nil, cell}
use Rattle.kl1_model.specs.Module.{is_among}
use Rattle.kl1_model.specs.State.{Task, monitor, reduces, substitutes, Goal, Shoen, State, has_forgetting, shoen_at, replace_in_task, replace_in_goal, replace_in_shoen, replace_in_state, change_shoen, is_monitor, is_living}
use Rattle.kl1_model.specs.Tree.{path, is_on_path}
use Rattle.kl1_model.specs.Report.{broken_at, has_made_last, report_tail, reported_on, reported_at, report, report_each, closed_at, close, exhausted_report, terminated_report, aborted_report}
use Rattle.kl1_model.specs.Ending.{has_goal, has_living_child, lives, ends_now, without_monitor, ended_as, ended_at, terminate, terminate_each, ending_of, settle, has_reached, newly_exhausted, after_reduction, ended_below, abort}
use Rattle.kl1_model.specs.code.Steps.{report_of, close_of, aborted_below}
use Rattle.kl1_model.specs.laws.TreeLaws.{lives_of, numbers_of, AbortEndsAllBelow, AbortRemovesAllBelow, TerminationsEnd, TerminationsEndAlone, EndingHaveNoGoals, ReachedGoOn}

-- a shoen's number and its life
pub record Mark : Type 0 where
  pub number : ℕ
  pub life : Life

abbrev pub mark_of : Shoen → Mark
mark_of h = record { number = h.number; life = h.life }

abbrev pub marks_of : List Shoen → List Mark
marks_of hs = map mark_of hs

-- whose a goal is, and whether it is a monitor
pub record Post : Type 0 where
  pub shoen : ℕ
  pub is_monitor : Bool

abbrev pub post_of : Goal → Post
post_of g = record { shoen = g.shoen; is_monitor = is_monitor g.task }

abbrev pub posts_of : List Goal → List Post
posts_of gs = map post_of gs

-- an effect leaves the lives of shoens, the numbers of goals, and whose they are
pub record Leaves (s t : State) : Type 0 where
  pub marks : marks_of t.shoens ≡ marks_of s.shoens
  pub goals : numbers_of t.goals ≡ numbers_of s.goals
  pub posts : posts_of t.goals ≡ posts_of s.goals

pub leaves_same : (s : State) → Leaves s s
leaves_same s = record { marks = refl; goals = refl; posts = refl }

pub leaves_both : (s t u : State) → Leaves s t → Leaves t u → Leaves s u
leaves_both s t u p q = record { marks = q.marks ∙ p.marks; goals = q.goals ∙ p.goals; posts = q.posts ∙ p.posts }

pub leaves_if : (c : Bool) (s t u : State) → Leaves s t → Leaves s u → Leaves s (if c then t else u)
leaves_if true s t u p q = p
leaves_if false s t u p q = q

if_mark : (c : Bool) (h k : Shoen) → mark_of k ≡ mark_of h → mark_of (if c then k else h) ≡ mark_of h
if_mark true h k e = e
if_mark false h k e = refl

changed_marks : (n : ℕ) (f : Shoen → Shoen) → ((h : Shoen) → mark_of (f h) ≡ mark_of h) → (hs : List Shoen) → marks_of (map (λ h. if h.number == n then f h else h) hs) ≡ marks_of hs
changed_marks n f e [] = refl
changed_marks n f e (h ∷ hs) = ap₂ (λ (m : Mark) (ms : List Mark). m ∷ ms) (if_mark (h.number == n) h (f h) (e h)) (changed_marks n f e hs)

replaced_marks : (v : ℕ) (t : Term) (hs : List Shoen) → marks_of (map (replace_in_shoen v t) hs) ≡ marks_of hs
replaced_marks v t [] = refl
replaced_marks v t (h ∷ hs) = ap (λ (ms : List Mark). mark_of h ∷ ms) (replaced_marks v t hs)

replaced_numbers : (v : ℕ) (t : Term) (gs : List Goal) → numbers_of (map (replace_in_goal v t) gs) ≡ numbers_of gs
replaced_numbers v t [] = refl
replaced_numbers v t (g ∷ gs) = ap (λ (ns : List ℕ). g.number ∷ ns) (replaced_numbers v t gs)

task_kept : (v : ℕ) (t : Term) (task : Task) → is_monitor (replace_in_task v t task) ≡ is_monitor task
task_kept v t monitor = refl
task_kept v t (reduces u) = refl
task_kept v t (substitutes u) = refl

replaced_posts : (v : ℕ) (t : Term) (gs : List Goal) → posts_of (map (replace_in_goal v t) gs) ≡ posts_of gs
replaced_posts v t [] = refl
replaced_posts v t (g ∷ gs) = ap₂ (λ (b : Bool) (ps : List Post). (record { shoen = g.shoen; is_monitor = b }) ∷ ps) (task_kept v t g.task) (replaced_posts v t gs)

pub leaves_change : (n : ℕ) (f : Shoen → Shoen) (s : State) → ((h : Shoen) → mark_of (f h) ≡ mark_of h) → Leaves s (change_shoen n f s)
leaves_change n f s e = record { marks = changed_marks n f e s.shoens; goals = refl; posts = refl }

pub leaves_replace : (v : ℕ) (t : Term) (s : State) → Leaves s (replace_in_state v t s)
leaves_replace v t s = record { marks = replaced_marks v t s.shoens; goals = replaced_numbers v t s.goals; posts = replaced_posts v t s.goals }

leaves_broken : (n : ℕ) (s : State) → Leaves s (broken_at n s)
leaves_broken n s = leaves_change n (λ h. record h { is_broken = true; tail = if has_forgetting s.rules then nil else h.tail }) s (λ h. refl)

told_leaves : (n : ℕ) (m : Term) (o : Option ℕ) (s : State) → Leaves s (reported_on n m o s)
told_leaves n m None s = leaves_broken n s
told_leaves n m (Some v) s =
    let next = suc s.last_variable in
    let bound = record (replace_in_state v (cell m (variable next)) s) { last_variable = next; reports = suc s.reports } in
    let k = leaves_replace v (cell m (variable next)) s in
    let b : Leaves s bound = record { marks = k.marks; goals = k.goals; posts = k.posts } in
    leaves_both s bound (change_shoen n (λ h. record h { tail = variable next }) bound) b (leaves_change n (λ h. record h { tail = variable next }) bound (λ h. refl))

reported_leaves : (n : ℕ) (m t : Term) (s : State) → Leaves s (reported_at n m t s)
reported_leaves n m t s = told_leaves n m (report_tail (has_made_last s) m t) s

report_of_leaves : (o : Option Shoen) (n : ℕ) (m : Term) (s : State) → Leaves s (report_of o n m s)
report_of_leaves None n m s = leaves_same s
report_of_leaves (Some h) n m s = leaves_if h.is_broken s s (reported_at n m h.tail s) (leaves_same s) (reported_leaves n m h.tail s)

pub leaves_report : (n : ℕ) (m : Term) (s : State) → Leaves s (report n m s)
leaves_report n m s = report_of_leaves (shoen_at n s.shoens) n m s

pub leaves_report_each : (ns : List ℕ) (m : Term) (s : State) → Leaves s (report_each ns m s)
leaves_report_each [] m s = leaves_same s
leaves_report_each (n ∷ ns) m s = leaves_both s (report n m s) (report_each ns m (report n m s)) (leaves_report n m s) (leaves_report_each ns m (report n m s))

closed_leaves : (t : Term) (s : State) → Leaves s (closed_at t s)
closed_leaves (variable v) s = leaves_replace v nil s
closed_leaves (integer i) s = leaves_same s
closed_leaves (atom a) s = leaves_same s
closed_leaves (structure f ts) s = leaves_same s

close_of_leaves : (o : Option Shoen) (s : State) → Leaves s (close_of o s)
close_of_leaves None s = leaves_same s
close_of_leaves (Some h) s = leaves_if h.is_broken s s (closed_at h.tail s) (leaves_same s) (closed_leaves h.tail s)

pub leaves_close : (n : ℕ) (s : State) → Leaves s (close n s)
leaves_close n s = close_of_leaves (shoen_at n s.shoens) s

life_of_marks : (hs : List Shoen) → lives_of hs ≡ map (λ (m : Mark). m.life) (marks_of hs)
life_of_marks [] = refl
life_of_marks (h ∷ hs) = ap (λ (ls : List Life). h.life ∷ ls) (life_of_marks hs)

same_lives : (hs ks : List Shoen) → marks_of hs ≡ marks_of ks → lives_of hs ≡ lives_of ks
same_lives hs ks e = life_of_marks hs ∙ ap (map (λ (m : Mark). m.life)) e ∙ sym (life_of_marks ks)

-- ---- aborts

pub abort_leaves : (n : ℕ) (s : State) → Leaves (ended_below n s) (abort n s)
abort_leaves n s =
    let a = ended_below n s in
    let b = report n aborted_report a in
    leaves_both a b (close n b) (leaves_report n aborted_report a) (leaves_close n b)

aborted_life : (rules : Rules) (c : Bool) (h : Shoen) → (if c then ended_as rules Aborted h else h).life ≡ (if c then Aborted else h.life)
aborted_life rules true h = refl
aborted_life rules false h = refl

aborted_lives : (rules : Rules) (all : List Shoen) (n : ℕ) (hs : List Shoen) → lives_of (map (aborted_below rules all n) hs) ≡ map (λ h. if is_living h.life && is_on_path all n h.number then Aborted else h.life) hs
aborted_lives rules all n [] = refl
aborted_lives rules all n (h ∷ hs) = ap₂ (λ (l : Life) (ls : List Life). l ∷ ls) (aborted_life rules (is_living h.life && is_on_path all n h.number) h) (aborted_lives rules all n hs)

pub abort_ends_all_below : AbortEndsAllBelow
abort_ends_all_below n s = same_lives (abort n s).shoens (ended_below n s).shoens (abort_leaves n s).marks ∙ aborted_lives s.rules s.shoens n s.shoens

pub abort_removes_all_below : AbortRemovesAllBelow
abort_removes_all_below n s = (abort_leaves n s).goals

-- ---- terminations

-- a mark after shoens of these numbers have terminated
abbrev pub ended_mark : List ℕ → Mark → Mark
ended_mark ns m = record { number = m.number; life = if is_among m.number ns then Terminated else m.life }

ended_by : (rules : Rules) (c : Bool) (h : Shoen) → mark_of (if c then ended_as rules Terminated h else h) ≡ record { number = h.number; life = if c || false then Terminated else h.life }
ended_by rules true h = refl
ended_by rules false h = refl

pub ended_marks : (rules : Rules) (n : ℕ) (hs : List Shoen) → marks_of (map (λ (h : Shoen). if h.number == n then ended_as rules Terminated h else h) hs) ≡ map (ended_mark (n ∷ [])) (marks_of hs)
ended_marks rules n [] = refl
ended_marks rules n (h ∷ hs) = ap₂ (λ (m : Mark) (ms : List Mark). m ∷ ms) (ended_by rules (h.number == n) h) (ended_marks rules n hs)

pub terminate_marks : (n : ℕ) (s : State) → marks_of (terminate n s).shoens ≡ map (ended_mark (n ∷ [])) (marks_of s.shoens)
terminate_marks n s =
    let a = without_monitor n (ended_at n s) in
    let b = report n terminated_report a in
    (leaves_both a b (close n b) (leaves_report n terminated_report a) (leaves_close n b)).marks ∙ ended_marks s.rules n s.shoens

two_ends : (c d : Bool) (l : Life) → (if d then Terminated else (if c || false then Terminated else l)) ≡ (if c || d then Terminated else l)
two_ends true true l = refl
two_ends true false l = refl
two_ends false true l = refl
two_ends false false l = refl

ended_again : (n : ℕ) (ns : List ℕ) (ms : List Mark) → map (ended_mark ns) (map (ended_mark (n ∷ [])) ms) ≡ map (ended_mark (n ∷ ns)) ms
ended_again n ns [] = refl
ended_again n ns (m ∷ ms) =
    ap₂ (λ (l : Life) (rest : List Mark). (record { number = m.number; life = l }) ∷ rest) (two_ends (m.number == n) (is_among m.number ns) m.life) (ended_again n ns ms)

ended_none : (ms : List Mark) → ms ≡ map (ended_mark []) ms
ended_none [] = refl
ended_none (m ∷ ms) = ap (λ (rest : List Mark). m ∷ rest) (ended_none ms)

each_marks : (ns : List ℕ) (s : State) → marks_of (terminate_each ns s).shoens ≡ map (ended_mark ns) (marks_of s.shoens)
each_marks [] s = ended_none (marks_of s.shoens)
each_marks (n ∷ ns) s = each_marks ns (terminate n s) ∙ ap (map (ended_mark ns)) (terminate_marks n s) ∙ ended_again n ns (marks_of s.shoens)

lives_ended : (ns : List ℕ) (hs : List Shoen) → map (λ (m : Mark). m.life) (map (ended_mark ns) (marks_of hs)) ≡ map (λ h. if is_among h.number ns then Terminated else h.life) hs
lives_ended ns [] = refl
lives_ended ns (h ∷ hs) = ap (λ (ls : List Life). (if is_among h.number ns then Terminated else h.life) ∷ ls) (lives_ended ns hs)

pub terminations_end_alone : TerminationsEndAlone
terminations_end_alone n s =
    let ns = ending_of (path s.shoens n) s in
    life_of_marks (settle n s).shoens ∙ ap (map (λ (m : Mark). m.life)) (each_marks ns s) ∙ lives_ended ns s.shoens

pub terminations_end : TerminationsEnd
terminations_end n s =
    let ns = ending_of (path s.shoens n) s in
    let told = newly_exhausted s ns (path s.shoens n) in
    let t = report_each told exhausted_report s in
    life_of_marks (after_reduction n s).shoens
    ∙ ap (map (λ (m : Mark). m.life)) (each_marks ns t ∙ ap (map (ended_mark ns)) (leaves_report_each told exhausted_report s).marks)
    ∙ lives_ended ns s.shoens

-- ---- who terminates, and who reports that it is exhausted

is_not : (b : Bool) → not b ≡ true → b ≡ false
is_not true e = sym e
is_not false e = refl

ending_case : (c : Bool) (n : ℕ) (ns : List ℕ) (s : State) → ends_now n s ≡ c → AllByRecursion (λ m. has_goal m s ≡ false) (ending_of ns (ended_at n s)) → AllByRecursion (λ m. has_goal m s ≡ false) (ending_of ns s) →
    AllByRecursion (λ m. has_goal m s ≡ false) (if c then n ∷ ending_of ns (ended_at n s) else ending_of ns s)
ending_case true n ns s e p q =
    let parts = and_parts (lives n s && not (has_goal n s)) (not (has_living_child n s)) e in
    let both = and_parts (lives n s) (not (has_goal n s)) parts.0 in
    (is_not (has_goal n s) both.1, p)
ending_case false n ns s e p q = q

pub ending_have_no_goals : EndingHaveNoGoals
ending_have_no_goals [] s = tt
ending_have_no_goals (n ∷ ns) s = ending_case (ends_now n s) n ns s refl (ending_have_no_goals ns (ended_at n s)) (ending_have_no_goals ns s)

reached_case : (c : Bool) (s : State) (ending : List ℕ) (n : ℕ) (ns : List ℕ) → has_reached s n && not (is_among n ending) ≡ c → AllByRecursion (λ m. (has_reached s m ≡ true) × (is_among m ending ≡ false)) ns →
    AllByRecursion (λ m. (has_reached s m ≡ true) × (is_among m ending ≡ false)) (if c then n ∷ ns else ns)
reached_case true s ending n ns e p =
    let parts = and_parts (has_reached s n) (not (is_among n ending)) e in
    ((parts.0, is_not (is_among n ending) parts.1), p)
reached_case false s ending n ns e p = p

pub reached_go_on : ReachedGoOn
reached_go_on s ending [] = tt
reached_go_on s ending (n ∷ ns) = reached_case (has_reached s n && not (is_among n ending)) s ending n (newly_exhausted s ending ns) refl (reached_go_on s ending ns)
