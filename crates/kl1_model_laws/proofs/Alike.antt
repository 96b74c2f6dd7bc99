-- What reports, replacements and changes of a shoen's streams leave as it is, and what a goal in the place of another does.
use Rattle.std.proofs.Common.{◌≡◌, ℕ, suc, ◌+◌, ◌==◌, ◌||◌, not, ◌&&◌, Bool, true, false, if◌then◌else◌, List, [], ◌∷◌, ◌++◌, refl, sym, ap, ap₂, ◌∙◌}
use Rattle.std.specs.Prelude.{map, Option, Some, None, option_map, unwrap_or}
use Rattle.std.specs.List.{list_any}
use Rattle.kl1_model.specs.declared.life.Life.{Life}
use Rattle.kl1_model.specs.Term.{Term, variable, integer, atom, structure, Replacement}
use Rattle.kl1_model.specs.Meaning.{nil, cell, highest}
use Rattle.kl1_model.specs.State.{Task, monitor, reduces, substitutes, Goal, Shoen, State, has_substitutes, shoen_at, replace_in_task, replace_in_goal, replace_in_shoen, replace_in_state, replace_all, change_shoen, is_monitor, is_living, names_of, with_names, has_forgetting}
use Rattle.kl1_model.specs.Report.{broken_at, has_made_last, report_tail, reported_on, reported_at, report, is_reported, report_each, closed_at, close, exception, exception_with, failure, exhaustion, started_report, exhausted_report, stopped_report, resumed_report}
use Rattle.kl1_model.specs.Ending.{has_goal, has_living_child, lives, ends_now}
use Rattle.kl1_model.specs.Nodes.{goal_nodes}
use Rattle.kl1_model.specs.Control.{message_term, message_nodes}
use Rattle.kl1_model.specs.Opening.{with_shoen, open_shoen, with_next_variables, started_shoen, start_goal}
use Rattle.kl1_model.specs.Sending.{with_control_tail, sent_on}
use Rattle.kl1_model.specs.declared.message.Message.{Message}
use Rattle.kl1_model.specs.Reduction.{replaced_by, substituted_by, raised, unified, or_exhaustion}
use Rattle.kl1_model.specs.code.Steps.{report_of, close_of, stopped_of, resumed_of}
use Rattle.kl1_model.specs.Telling.{Given}
use Rattle.kl1_model.specs.Answering.{answered}

-- a shoen's number, its parent's, and its life
pub record Node : Type 0 where
  pub number : ℕ
  pub parent : ℕ
  pub life : Life

abbrev pub node_of : Shoen → Node
node_of h = record { number = h.number; parent = h.parent; life = h.life }

abbrev pub nodes_of : List Shoen → List Node
nodes_of hs = map node_of hs

-- a goal's number, that of its shoen, and whether it is a monitor
pub record Duty : Type 0 where
  pub number : ℕ
  pub shoen : ℕ
  pub is_monitor : Bool

abbrev pub duty_of : Goal → Duty
duty_of g = record { number = g.number; shoen = g.shoen; is_monitor = is_monitor g.task }

abbrev pub duties_of : List Goal → List Duty
duties_of gs = map duty_of gs

-- an effect leaves the nodes of shoens, the duties of goals, the modules, charged reductions, the last number of a goal and the rules
pub record Alike (s t : State) : Type 0 where
  pub nodes : nodes_of t.shoens ≡ nodes_of s.shoens
  pub duties : duties_of t.goals ≡ duties_of s.goals
  pub modules : t.modules ≡ s.modules
  pub last : t.last_goal ≡ s.last_goal
  pub rules : t.rules ≡ s.rules
  pub work : t.work ≡ s.work

pub alike_same : (s : State) → Alike s s
alike_same s = record { nodes = refl; duties = refl; modules = refl; last = refl; rules = refl; work = refl }

pub alike_both : (s t u : State) → Alike s t → Alike t u → Alike s u
alike_both s t u p q = record { nodes = q.nodes ∙ p.nodes; duties = q.duties ∙ p.duties; modules = q.modules ∙ p.modules; last = q.last ∙ p.last; rules = q.rules ∙ p.rules; work = q.work ∙ p.work }

pub alike_if : (c : Bool) (s t u : State) → Alike s t → Alike s u → Alike s (if c then t else u)
alike_if true s t u p q = p
alike_if false s t u p q = q

if_node : (c : Bool) (h k : Shoen) → node_of k ≡ node_of h → node_of (if c then k else h) ≡ node_of h
if_node true h k e = e
if_node false h k e = refl

changed_nodes : (n : ℕ) (f : Shoen → Shoen) → ((h : Shoen) → node_of (f h) ≡ node_of h) → (hs : List Shoen) → nodes_of (map (λ h. if h.number == n then f h else h) hs) ≡ nodes_of hs
changed_nodes n f e [] = refl
changed_nodes n f e (h ∷ hs) = ap₂ (λ (m : Node) (ms : List Node). m ∷ ms) (if_node (h.number == n) h (f h) (e h)) (changed_nodes n f e hs)

replaced_nodes : (v : ℕ) (t : Term) (hs : List Shoen) → nodes_of (map (replace_in_shoen v t) hs) ≡ nodes_of hs
replaced_nodes v t [] = refl
replaced_nodes v t (h ∷ hs) = ap (λ (ms : List Node). node_of h ∷ ms) (replaced_nodes v t hs)

task_kept : (v : ℕ) (t : Term) (task : Task) → is_monitor (replace_in_task v t task) ≡ is_monitor task
task_kept v t monitor = refl
task_kept v t (reduces u) = refl
task_kept v t (substitutes u) = refl

replaced_duties : (v : ℕ) (t : Term) (gs : List Goal) → duties_of (map (replace_in_goal v t) gs) ≡ duties_of gs
replaced_duties v t [] = refl
replaced_duties v t (g ∷ gs) = ap₂ (λ (b : Bool) (ds : List Duty). (record { number = g.number; shoen = g.shoen; is_monitor = b }) ∷ ds) (task_kept v t g.task) (replaced_duties v t gs)

pub alike_change : (n : ℕ) (f : Shoen → Shoen) (s : State) → ((h : Shoen) → node_of (f h) ≡ node_of h) → Alike s (change_shoen n f s)
alike_change n f s e = record { nodes = changed_nodes n f e s.shoens; duties = refl; modules = refl; last = refl; rules = refl; work = refl }

pub alike_replace : (v : ℕ) (t : Term) (s : State) → Alike s (replace_in_state v t s)
alike_replace v t s = record { nodes = replaced_nodes v t s.shoens; duties = replaced_duties v t s.goals; modules = refl; last = refl; rules = refl; work = refl }

pub alike_all : (rs : List Replacement) (s : State) → Alike s (replace_all rs s)
alike_all [] s = alike_same s
alike_all (r ∷ rs) s = alike_both s (replace_in_state r.number r.by s) (replace_all rs (replace_in_state r.number r.by s)) (alike_replace r.number r.by s) (alike_all rs (replace_in_state r.number r.by s))

alike_broken : (n : ℕ) (s : State) → Alike s (broken_at n s)
alike_broken n s = alike_change n (λ h. record h { is_broken = true; tail = if has_forgetting s.rules then nil else h.tail }) s (λ h. refl)

told_alike : (n : ℕ) (m : Term) (o : Option ℕ) (s : State) → Alike s (reported_on n m o s)
told_alike n m None s = alike_broken n s
told_alike n m (Some v) s =
    let next = suc s.last_variable in
    let bound = record (replace_in_state v (cell m (variable next)) s) { last_variable = next; reports = suc s.reports } in
    let k = alike_replace v (cell m (variable next)) s in
    let b : Alike s bound = record { nodes = k.nodes; duties = k.duties; modules = refl; last = refl; rules = refl; work = refl } in
    alike_both s bound (change_shoen n (λ h. record h { tail = variable next }) bound) b (alike_change n (λ h. record h { tail = variable next }) bound (λ h. refl))

reported_alike : (n : ℕ) (m t : Term) (s : State) → Alike s (reported_at n m t s)
reported_alike n m t s = told_alike n m (report_tail (has_made_last s) m t) s

report_of_alike : (o : Option Shoen) (n : ℕ) (m : Term) (s : State) → Alike s (report_of o n m s)
report_of_alike None n m s = alike_same s
report_of_alike (Some h) n m s = alike_if h.is_broken s s (reported_at n m h.tail s) (alike_same s) (reported_alike n m h.tail s)

pub alike_report : (n : ℕ) (m : Term) (s : State) → Alike s (report n m s)
alike_report n m s = report_of_alike (shoen_at n s.shoens) n m s

pub alike_report_each : (ns : List ℕ) (m : Term) (s : State) → Alike s (report_each ns m s)
alike_report_each [] m s = alike_same s
alike_report_each (n ∷ ns) m s = alike_both s (report n m s) (report_each ns m (report n m s)) (alike_report n m s) (alike_report_each ns m (report n m s))

closed_alike : (t : Term) (s : State) → Alike s (closed_at t s)
closed_alike (variable v) s = alike_replace v nil s
closed_alike (integer i) s = alike_same s
closed_alike (atom a) s = alike_same s
closed_alike (structure f ts) s = alike_same s

close_of_alike : (o : Option Shoen) (s : State) → Alike s (close_of o s)
close_of_alike None s = alike_same s
close_of_alike (Some h) s = alike_if h.is_broken s s (closed_at h.tail s) (alike_same s) (closed_alike h.tail s)

pub alike_close : (n : ℕ) (s : State) → Alike s (close n s)
alike_close n s = close_of_alike (shoen_at n s.shoens) s

-- a report, and the end of the stream
pub alike_closing : (n : ℕ) (m : Term) (s : State) → Alike s (close n (report n m s))
alike_closing n m s = alike_both s (report n m s) (close n (report n m s)) (alike_report n m s) (alike_close n (report n m s))

pub alike_stopped : (o : Option Shoen) (n : ℕ) (s : State) → Alike s (stopped_of o n s)
alike_stopped None n s = alike_same s
alike_stopped (Some h) n s =
    let t = change_shoen n (λ h. record h { is_stopped = true }) s in
    alike_if h.is_stopped s s (report n stopped_report t) (alike_same s) (alike_both s t (report n stopped_report t) (alike_change n (λ h. record h { is_stopped = true }) s (λ h. refl)) (alike_report n stopped_report t))

pub alike_resumed : (o : Option Shoen) (n : ℕ) (s : State) → Alike s (resumed_of o n s)
alike_resumed None n s = alike_same s
alike_resumed (Some h) n s =
    let t = change_shoen n (λ h. record h { is_stopped = false }) s in
    alike_if h.is_stopped s (report n resumed_report t) s (alike_both s t (report n resumed_report t) (alike_change n (λ h. record h { is_stopped = false }) s (λ h. refl)) (alike_report n resumed_report t)) (alike_same s)

pub alike_open : (h : Shoen) (goal : Term) (s : State) → Alike (with_shoen h goal s) (open_shoen h goal s)
alike_open h goal s =
    let t = with_shoen h goal s in
    let u = report h.number started_report t in
    let k = alike_report h.number started_report t in
    alike_if (h.allowance == 0) t (report h.number exhausted_report u) u (alike_both t u (report h.number exhausted_report u) k (alike_report h.number exhausted_report u)) k

-- the account in which a start opens its shoen
abbrev pub begun : State → Term → State
begun s t = record s { names = with_names s.names (names_of t); last_variable = suc (suc (s.last_variable + highest t)); variables = s.variables + suc (suc (highest t)); nodes = s.nodes + goal_nodes t }

-- the shoen that a start opens
abbrev pub begun_shoen : State → ℕ → ℕ → ℕ → Term → Shoen
begun_shoen s allowance low high t =
    let count = s.last_variable + highest t in
    started_shoen s allowance low high (with_next_variables s.last_variable t) (variable (suc count)) (variable (suc (suc count)))

pub alike_start : (s : State) (allowance low high : ℕ) (t : Term) →
    Alike (with_shoen (begun_shoen s allowance low high t) (with_next_variables s.last_variable t) (begun s t)) (start_goal s allowance low high t)
alike_start s allowance low high t = alike_open (begun_shoen s allowance low high t) (with_next_variables s.last_variable t) (begun s t)

pub alike_sent : (n : ℕ) (m : Message) (t : Term) (s : State) → Alike s (sent_on n m t s)
alike_sent n m (variable v) s =
    let next = suc s.last_variable in
    let by = cell (message_term m) (variable next) in
    let u = record (replace_in_state v by s) { last_variable = next; variables = suc s.variables; nodes = s.nodes + message_nodes m } in
    let k = alike_replace v by s in
    let b : Alike s u = record { nodes = k.nodes; duties = k.duties; modules = refl; last = refl; rules = refl; work = refl } in
    alike_both s u (change_shoen n (with_control_tail (variable next)) u) b (alike_change n (with_control_tail (variable next)) u (λ h. refl))
alike_sent n m (integer i) s = alike_same s
alike_sent n m (atom a) s = alike_same s
alike_sent n m (structure f ts) s = alike_same s

pub alike_answered : (v : ℕ) (g : Given) (t : Term) (s : State) → Alike s (answered v g t s)
alike_answered v g t s =
    let k = alike_replace v g.goal s in record { nodes = k.nodes; duties = k.duties; modules = refl; last = refl; rules = refl; work = refl }

-- ---- a goal in the place of another

-- the duty of a goal of shoen n, which is no monitor and has the next number
abbrev pub next_duty : ℕ → ℕ → Duty
next_duty last n = record { number = suc last; shoen = n; is_monitor = false }

-- an effect leaves what `Alike` says, but shoen n has one goal more, which is no monitor and has the next number
pub record Placed (n : ℕ) (s t : State) : Type 0 where
  pub nodes : nodes_of t.shoens ≡ nodes_of s.shoens
  pub duties : duties_of t.goals ≡ duties_of s.goals ++ next_duty s.last_goal n ∷ []
  pub modules : t.modules ≡ s.modules
  pub last : t.last_goal ≡ suc s.last_goal
  pub rules : t.rules ≡ s.rules
  pub work : t.work ≡ s.work

pub duties_append : (gs hs : List Goal) → duties_of (gs ++ hs) ≡ duties_of gs ++ duties_of hs
duties_append [] hs = refl
duties_append (g ∷ gs) hs = ap (λ (ds : List Duty). duty_of g ∷ ds) (duties_append gs hs)

-- a goal in the place of another, after what leaves nodes and duties
pub placed_after : (g : Goal) (task : Task) (s t : State) → is_monitor task ≡ false → Alike s t → Placed g.shoen s (replaced_by g task t)
placed_after g task s t plain k = record {
  nodes = k.nodes;
  duties = duties_append t.goals _ ∙ ap (λ b. duties_of t.goals ++ (record { number = suc t.last_goal; shoen = g.shoen; is_monitor = b }) ∷ []) plain
      ∙ ap₂ (λ (ds : List Duty) (last : ℕ). ds ++ next_duty last g.shoen ∷ []) k.duties k.last;
  modules = k.modules;
  last = ap suc k.last;
  rules = k.rules;
  work = k.work;
}

pub placed_substitute : (g : Goal) (kind : List ℕ) (t : Term) (s : State) → Placed g.shoen s (substituted_by g kind t s)
placed_substitute g kind t s =
    let new = suc s.last_variable in
    let told = exception_with kind t (variable new) in
    let u = record s { last_variable = new } in
    let b : Alike s u = record { nodes = refl; duties = refl; modules = refl; last = refl; rules = refl; work = refl } in
    placed_after g (substitutes (variable new)) s (report g.shoen told u) refl (alike_both s u (report g.shoen told u) b (alike_report g.shoen told u))

-- a fact holds after whatever leaves nodes and duties, and after that and a goal in the place of this one
pub record Lasts (P : State → Type 0) (g : Goal) (s : State) : Type 0 where
  pub alike : (t : State) → Alike s t → P t
  pub placed : (t : State) → Placed g.shoen s t → P t

by_report : (P : State → Type 0) (c : Bool) (t u : State) → P t → P u → P (if c then t else u)
by_report P true t u p q = p
by_report P false t u p q = q

-- so it holds after an exception of this goal
pub by_raised : (P : State → Type 0) (g : Goal) (kind : List ℕ) (t : Term) (s : State) → Lasts P g s → P (raised g kind t s)
by_raised P g kind t s k =
    by_report P (has_substitutes s.rules && is_reported g.shoen (exception kind t) s) (substituted_by g kind t s) (report g.shoen (exception kind t) s)
    (k.placed (substituted_by g kind t s) (placed_substitute g kind t s)) (k.alike (report g.shoen (exception kind t) s) (alike_report g.shoen (exception kind t) s))

-- and after a unification for it
pub by_unified : (P : State → Type 0) (g : Goal) (t : Term) (o : Option (List Replacement)) (s : State) → Lasts P g s → P (unified g t o s)
by_unified P g t None s k = by_raised P g failure t s k
by_unified P g t (Some rs) s k = k.alike (replace_all rs s) (alike_all rs s)

-- and after an effect that keeps to a limit, if it holds after the effect
pub by_limit : (P : State → Type 0) (c : Bool) (g : Goal) (t : Term) (u s : State) → (c ≡ true → P u) → Lasts P g s → P (or_exhaustion c g t u s)
by_limit P true g t u s f k = f refl
by_limit P false g t u s f k = by_raised P g exhaustion t s k

-- ---- who is due, by nodes and duties

-- whether shoen n lives
abbrev pub lives_in : List Node → ℕ → Bool
lives_in [] n = false
lives_in (m ∷ ms) n = if m.number == n then is_living m.life else lives_in ms n

abbrev pub has_duty : List Duty → ℕ → Bool
has_duty ds n = list_any (λ (d : Duty). d.shoen == n && not d.is_monitor) ds

abbrev pub has_child : List Node → ℕ → Bool
has_child ms n = list_any (λ (m : Node). m.parent == n && is_living m.life) ms

abbrev pub is_due : List Node → List Duty → ℕ → Bool
is_due ms ds n = lives_in ms n && not (has_duty ds n) && not (has_child ms n)

found_lives : (c : Bool) (h : Shoen) (o : Option Shoen) (b : Bool) → unwrap_or (option_map (λ (k : Shoen). is_living k.life) o) false ≡ b →
    unwrap_or (option_map (λ (k : Shoen). is_living k.life) (if c then Some h else o)) false ≡ (if c then is_living h.life else b)
found_lives true h o b e = refl
found_lives false h o b e = e

nodes_live : (n : ℕ) (hs : List Shoen) → unwrap_or (option_map (λ (h : Shoen). is_living h.life) (shoen_at n hs)) false ≡ lives_in (nodes_of hs) n
nodes_live n [] = refl
nodes_live n (h ∷ hs) = found_lives (h.number == n) h (shoen_at n hs) (lives_in (nodes_of hs) n) (nodes_live n hs)

duties_are : (n : ℕ) (gs : List Goal) → list_any (λ (g : Goal). g.shoen == n && not (is_monitor g.task)) gs ≡ has_duty (duties_of gs) n
duties_are n [] = refl
duties_are n (g ∷ gs) = ap (λ b. g.shoen == n && not (is_monitor g.task) || b) (duties_are n gs)

children_are : (n : ℕ) (hs : List Shoen) → list_any (λ (h : Shoen). h.parent == n && is_living h.life) hs ≡ has_child (nodes_of hs) n
children_are n [] = refl
children_are n (h ∷ hs) = ap (λ b. h.parent == n && is_living h.life || b) (children_are n hs)

pub lives_by : (n : ℕ) (s : State) → lives n s ≡ lives_in (nodes_of s.shoens) n
lives_by n s = nodes_live n s.shoens

pub goal_by : (n : ℕ) (s : State) → has_goal n s ≡ has_duty (duties_of s.goals) n
goal_by n s = duties_are n s.goals

pub child_by : (n : ℕ) (s : State) → has_living_child n s ≡ has_child (nodes_of s.shoens) n
child_by n s = children_are n s.shoens

pub due_by : (n : ℕ) (s : State) → ends_now n s ≡ is_due (nodes_of s.shoens) (duties_of s.goals) n
due_by n s = ap₂ (λ x y. x && not y) (ap₂ (λ x y. x && not y) (lives_by n s) (goal_by n s)) (child_by n s)

-- who is due is so after what leaves nodes and duties
pub due_alike : (s t : State) → Alike s t → (n : ℕ) → ends_now n t ≡ ends_now n s
due_alike s t k n = due_by n t ∙ ap₂ (λ ms ds. is_due ms ds n) k.nodes k.duties ∙ sym (due_by n s)
