-- What effects keep of the tree of shoens and of charges.
use Rattle.std.proofs.Common.{◌≡◌, ◌≤◌, ℕ, zero, suc, ◌==◌, not, ◌&&◌, Bool, true, false, if◌then◌else◌, List, [], ◌∷◌, refl, sym, ap, ap₂, ◌∙◌, subst}
use Rattle.std.specs.Prelude.{map, filter, length, get_or, Option, Some, None}
use Rattle.std.specs.List.{AllByRecursion}
use Rattle.kl1_model.specs.declared.life.Life.TheVariants.{Terminated, Aborted}
use Rattle.kl1_model.specs.declared.message.Message.{Message}
use Rattle.kl1_model.specs.declared.message.Message.TheVariants.{Stop, Start, Abort, Allow}
use Rattle.kl1_model.specs.declared.rules.Rules.{Rules}
use Rattle.kl1_model.specs.Term.{Term, variable, integer, atom, structure, Replacement}
use Rattle.kl1_model.specs.Meaning.{nil, cell}
use Rattle.kl1_model.specs.State.{Goal, Origin, Shoen, State, has_forgetting, shoen_at, replace_in_goal, replace_in_shoen, replace_in_state, replace_all, change_shoen, is_living}
use Rattle.kl1_model.specs.Tree.{parents_of, path, is_on_path}
use Rattle.kl1_model.specs.Control.{Control, awaits_message, tells, tells_other, ends, breaks_off}
use Rattle.kl1_model.specs.Report.{broken_at, has_made_last, report_tail, reported_on, reported_at, report, report_each, closed_at, close, exception, illegal_input, exhausted_report, terminated_report, aborted_report, stopped_report, resumed_report}
use Rattle.kl1_model.specs.Ending.{without_monitor, ended_as, ended_at, terminate, terminate_each, ending_of, settle, newly_exhausted, after_reduction, ended_below, abort}
use Rattle.kl1_model.specs.Forgetting.{with_origin, without_reports, empty_place, gone_below, gone}
use Rattle.kl1_model.specs.Reduction.{obeyed, with_control, heard}
use Rattle.kl1_model.specs.code.Steps.{report_of, close_of, aborted_below, stopped_of, resumed_of, allowed_more}
use Rattle.kl1_model.specs.laws.TreeLaws.{AreNumbered, AreWithin, IsTree}

-- an effect leaves parents, charged reductions and the last number as they are, each goal's shoen, and each shoen's number
pub record Keeps (s t : State) : Type 0 where
  pub parents : parents_of t.shoens ≡ parents_of s.shoens
  pub work : t.work ≡ s.work
  pub last : t.last_shoen ≡ s.last_shoen
  pub owners : (n : ℕ) → AreWithin n s.goals → AreWithin n t.goals
  pub numbered : (n : ℕ) → AreNumbered n s.shoens → AreNumbered n t.shoens

pub keeps_same : (s : State) → Keeps s s
keeps_same s = record { parents = refl; work = refl; last = refl; owners = λ n a. a; numbered = λ n a. a }

pub keeps_both : (s t u : State) → Keeps s t → Keeps t u → Keeps s u
keeps_both s t u p q = record { parents = q.parents ∙ p.parents; work = q.work ∙ p.work; last = q.last ∙ p.last; owners = λ n a. q.owners n (p.owners n a); numbered = λ n a. q.numbered n (p.numbered n a) }

-- a tree stays a tree if an effect keeps it
pub kept_tree : (s t : State) → Keeps s t → IsTree s → IsTree t
kept_tree s t k tree = record {
  numbered = k.numbered 0 tree.numbered;
  lower = subst (λ ps. (i : ℕ) → get_or ps i 0 ≤ i) (sym k.parents) tree.lower;
  count = ap length k.parents ∙ tree.count ∙ sym k.last;
  owners = subst (λ n. AreWithin n t.goals) (sym k.last) (k.owners s.last_shoen tree.owners);
  worked = subst (λ ws. AllByRecursion (λ w. w ≤ t.last_shoen) ws) (sym k.work) (subst (λ n. AllByRecursion (λ w. w ≤ n) s.work) (sym k.last) tree.worked);
}

pub keeps_if : (c : Bool) (s t u : State) → Keeps s t → Keeps s u → Keeps s (if c then t else u)
keeps_if true s t u p q = p
keeps_if false s t u p q = q

-- ---- lists

if_parent : (c : Bool) (h k : Shoen) → k.parent ≡ h.parent → (if c then k else h).parent ≡ h.parent
if_parent true h k e = e
if_parent false h k e = refl

changed_parents : (n : ℕ) (f : Shoen → Shoen) → ((h : Shoen) → (f h).parent ≡ h.parent) → (hs : List Shoen) → parents_of (map (λ h. if h.number == n then f h else h) hs) ≡ parents_of hs
changed_parents n f e [] = refl
changed_parents n f e (h ∷ hs) = ap₂ (λ (p : ℕ) (ps : List ℕ). p ∷ ps) (if_parent (h.number == n) h (f h) (e h)) (changed_parents n f e hs)

if_number : (c : Bool) (h k : Shoen) (n : ℕ) → k.number ≡ h.number → h.number ≡ n → (if c then k else h).number ≡ n
if_number true h k n e f = e ∙ f
if_number false h k n e f = f

changed_numbers : (n : ℕ) (f : Shoen → Shoen) → ((h : Shoen) → (f h).number ≡ h.number) → (m : ℕ) (hs : List Shoen) → AreNumbered m hs → AreNumbered m (map (λ h. if h.number == n then f h else h) hs)
changed_numbers n f e m [] a = tt
changed_numbers n f e m (h ∷ hs) a = (if_number (h.number == n) h (f h) (suc m) (e h) a.0, changed_numbers n f e (suc m) hs a.1)

replaced_numbers : (v : ℕ) (t : Term) (m : ℕ) (hs : List Shoen) → AreNumbered m hs → AreNumbered m (map (replace_in_shoen v t) hs)
replaced_numbers v t m [] a = tt
replaced_numbers v t m (h ∷ hs) a = (a.0, replaced_numbers v t (suc m) hs a.1)

replaced_parents : (v : ℕ) (t : Term) (hs : List Shoen) → parents_of (map (replace_in_shoen v t) hs) ≡ parents_of hs
replaced_parents v t [] = refl
replaced_parents v t (h ∷ hs) = ap (λ (ps : List ℕ). h.parent ∷ ps) (replaced_parents v t hs)

replaced_owners : (v : ℕ) (t : Term) (n : ℕ) (gs : List Goal) → AreWithin n gs → AreWithin n (map (replace_in_goal v t) gs)
replaced_owners v t n [] a = tt
replaced_owners v t n (g ∷ gs) a = (a.0, replaced_owners v t n gs a.1)

if_owner : (c : Bool) (n : ℕ) (g : Goal) (gs : List Goal) → g.shoen ≤ n → AreWithin n gs → AreWithin n (if c then g ∷ gs else gs)
if_owner true n g gs e a = (e, a)
if_owner false n g gs e a = a

pub filtered_owners : (p : Goal → Bool) (n : ℕ) (gs : List Goal) → AreWithin n gs → AreWithin n (filter p gs)
filtered_owners p n [] a = tt
filtered_owners p n (g ∷ gs) a = if_owner (p g) n g (filter p gs) a.0 (filtered_owners p n gs a.1)

-- ---- effects

pub keeps_change : (n : ℕ) (f : Shoen → Shoen) (s : State) → ((h : Shoen) → (f h).parent ≡ h.parent) → ((h : Shoen) → (f h).number ≡ h.number) → Keeps s (change_shoen n f s)
keeps_change n f s e d = record { parents = changed_parents n f e s.shoens; work = refl; last = refl; owners = λ m a. a; numbered = λ m a. changed_numbers n f d m s.shoens a }

pub keeps_replace : (v : ℕ) (t : Term) (s : State) → Keeps s (replace_in_state v t s)
keeps_replace v t s = record { parents = replaced_parents v t s.shoens; work = refl; last = refl; owners = λ n a. replaced_owners v t n s.goals a; numbered = λ n a. replaced_numbers v t n s.shoens a }

pub keeps_all : (rs : List Replacement) (s : State) → Keeps s (replace_all rs s)
keeps_all [] s = keeps_same s
keeps_all (r ∷ rs) s = keeps_both s (replace_in_state r.number r.by s) (replace_all rs (replace_in_state r.number r.by s)) (keeps_replace r.number r.by s) (keeps_all rs (replace_in_state r.number r.by s))

pub keeps_broken : (n : ℕ) (s : State) → Keeps s (broken_at n s)
keeps_broken n s = keeps_change n (λ h. record h { is_broken = true; tail = if has_forgetting s.rules then nil else h.tail }) s (λ h. refl) (λ h. refl)

told_keeps : (n : ℕ) (m : Term) (o : Option ℕ) (s : State) → Keeps s (reported_on n m o s)
told_keeps n m None s = keeps_broken n s
told_keeps n m (Some v) s =
    let next = suc s.last_variable in
    let bound = record (replace_in_state v (cell m (variable next)) s) { last_variable = next; reports = suc s.reports } in
    let k = keeps_replace v (cell m (variable next)) s in
    let b : Keeps s bound = record { parents = k.parents; work = k.work; last = k.last; owners = k.owners; numbered = k.numbered } in
    keeps_both s bound (change_shoen n (λ h. record h { tail = variable next }) bound) b (keeps_change n (λ h. record h { tail = variable next }) bound (λ h. refl) (λ h. refl))

reported_keeps : (n : ℕ) (m t : Term) (s : State) → Keeps s (reported_at n m t s)
reported_keeps n m t s = told_keeps n m (report_tail (has_made_last s) m t) s

report_of_keeps : (o : Option Shoen) (n : ℕ) (m : Term) (s : State) → Keeps s (report_of o n m s)
report_of_keeps None n m s = keeps_same s
report_of_keeps (Some h) n m s = keeps_if h.is_broken s s (reported_at n m h.tail s) (keeps_same s) (reported_keeps n m h.tail s)

pub keeps_report : (n : ℕ) (m : Term) (s : State) → Keeps s (report n m s)
keeps_report n m s = report_of_keeps (shoen_at n s.shoens) n m s

pub keeps_report_each : (ns : List ℕ) (m : Term) (s : State) → Keeps s (report_each ns m s)
keeps_report_each [] m s = keeps_same s
keeps_report_each (n ∷ ns) m s = keeps_both s (report n m s) (report_each ns m (report n m s)) (keeps_report n m s) (keeps_report_each ns m (report n m s))

closed_keeps : (t : Term) (s : State) → Keeps s (closed_at t s)
closed_keeps (variable v) s = keeps_replace v nil s
closed_keeps (integer i) s = keeps_same s
closed_keeps (atom a) s = keeps_same s
closed_keeps (structure f ts) s = keeps_same s

close_of_keeps : (o : Option Shoen) (s : State) → Keeps s (close_of o s)
close_of_keeps None s = keeps_same s
close_of_keeps (Some h) s = keeps_if h.is_broken s s (closed_at h.tail s) (keeps_same s) (closed_keeps h.tail s)

pub keeps_close : (n : ℕ) (s : State) → Keeps s (close n s)
keeps_close n s = close_of_keeps (shoen_at n s.shoens) s

pub keeps_fewer : (p : Goal → Bool) (s : State) → Keeps s (record s { goals = filter p s.goals })
keeps_fewer p s = record { parents = refl; work = refl; last = refl; owners = λ n a. filtered_owners p n s.goals a; numbered = λ n a. a }

pub keeps_without_monitor : (n : ℕ) (s : State) → Keeps s (without_monitor n s)
keeps_without_monitor n s = keeps_fewer _ s

pub keeps_ended : (n : ℕ) (s : State) → Keeps s (ended_at n s)
keeps_ended n s = keeps_change n (ended_as s.rules Terminated) s (λ h. refl) (λ h. refl)

pub keeps_terminate : (n : ℕ) (s : State) → Keeps s (terminate n s)
keeps_terminate n s =
    let a = ended_at n s in
    let b = without_monitor n a in
    let c = report n terminated_report b in
    keeps_both s c (close n c) (keeps_both s b c (keeps_both s a b (keeps_ended n s) (keeps_without_monitor n a)) (keeps_report n terminated_report b)) (keeps_close n c)

pub keeps_terminate_each : (ns : List ℕ) (s : State) → Keeps s (terminate_each ns s)
keeps_terminate_each [] s = keeps_same s
keeps_terminate_each (n ∷ ns) s = keeps_both s (terminate n s) (terminate_each ns (terminate n s)) (keeps_terminate n s) (keeps_terminate_each ns (terminate n s))

pub keeps_settle : (n : ℕ) (s : State) → Keeps s (settle n s)
keeps_settle n s = keeps_terminate_each (ending_of (path s.shoens n) s) s

pub keeps_settle_charged : (n : ℕ) (s : State) → Keeps s (after_reduction n s)
keeps_settle_charged n s =
    let ending = ending_of (path s.shoens n) s in
    let t = report_each (newly_exhausted s ending (path s.shoens n)) exhausted_report s in
    keeps_both s t (terminate_each ending t) (keeps_report_each (newly_exhausted s ending (path s.shoens n)) exhausted_report s) (keeps_terminate_each ending t)

if_aborted : (rules : Rules) (c : Bool) (h : Shoen) → (if c then ended_as rules Aborted h else h).parent ≡ h.parent
if_aborted rules true h = refl
if_aborted rules false h = refl

aborted_parents : (rules : Rules) (all : List Shoen) (n : ℕ) (hs : List Shoen) → parents_of (map (aborted_below rules all n) hs) ≡ parents_of hs
aborted_parents rules all n [] = refl
aborted_parents rules all n (h ∷ hs) = ap₂ (λ (p : ℕ) (ps : List ℕ). p ∷ ps) (if_aborted rules (is_living h.life && is_on_path all n h.number) h) (aborted_parents rules all n hs)

if_aborted_number : (rules : Rules) (c : Bool) (h : Shoen) (n : ℕ) → h.number ≡ n → (if c then ended_as rules Aborted h else h).number ≡ n
if_aborted_number rules true h n e = e
if_aborted_number rules false h n e = e

aborted_numbers : (rules : Rules) (all : List Shoen) (n m : ℕ) (hs : List Shoen) → AreNumbered m hs → AreNumbered m (map (aborted_below rules all n) hs)
aborted_numbers rules all n m [] a = tt
aborted_numbers rules all n m (h ∷ hs) a = (if_aborted_number rules (is_living h.life && is_on_path all n h.number) h (suc m) a.0, aborted_numbers rules all n (suc m) hs a.1)

pub keeps_abort : (n : ℕ) (s : State) → Keeps s (abort n s)
keeps_abort n s =
    let a = ended_below n s in
    let b = report n aborted_report a in
    let k : Keeps s a = record { parents = aborted_parents s.rules s.shoens n s.shoens; work = refl; last = refl; owners = λ m within. filtered_owners (λ g. not (is_on_path s.shoens n g.shoen)) m s.goals within; numbered = λ m a. aborted_numbers s.rules s.shoens n m s.shoens a } in
    keeps_both s b (close n b) (keeps_both s a b k (keeps_report n aborted_report a)) (keeps_close n b)

if_gone : (c : Bool) (h : Shoen) → (if c then empty_place h else h).parent ≡ h.parent
if_gone true h = refl
if_gone false h = refl

gone_parents : (all : List Shoen) (n : ℕ) (hs : List Shoen) → parents_of (map (gone_below all n) hs) ≡ parents_of hs
gone_parents all n [] = refl
gone_parents all n (h ∷ hs) = ap₂ (λ (p : ℕ) (ps : List ℕ). p ∷ ps) (if_gone (not (is_living h.life) && is_on_path all n h.number) h) (gone_parents all n hs)

if_gone_number : (c : Bool) (h : Shoen) (n : ℕ) → h.number ≡ n → (if c then empty_place h else h).number ≡ n
if_gone_number true h n e = e
if_gone_number false h n e = e

gone_numbers : (all : List Shoen) (n m : ℕ) (hs : List Shoen) → AreNumbered m hs → AreNumbered m (map (gone_below all n) hs)
gone_numbers all n m [] a = tt
gone_numbers all n m (h ∷ hs) a = (if_gone_number (not (is_living h.life) && is_on_path all n h.number) h (suc m) a.0, gone_numbers all n (suc m) hs a.1)

-- letting go keeps the tree
pub keeps_gone : (n count : ℕ) (o : Origin) (s : State) → Keeps s (gone n count o s)
keeps_gone n zero o s = record { parents = gone_parents s.shoens n s.shoens; work = refl; last = refl; owners = λ m a. a; numbered = λ m a. gone_numbers s.shoens n m s.shoens a }
keeps_gone n (suc count) o s = keeps_change n (with_origin (without_reports (suc count) o)) s (λ h. refl) (λ h. refl)

stopped_keeps : (o : Option Shoen) (n : ℕ) (s : State) → Keeps s (stopped_of o n s)
stopped_keeps None n s = keeps_same s
stopped_keeps (Some h) n s =
    let t = change_shoen n (λ h. record h { is_stopped = true }) s in
    keeps_if h.is_stopped s s (report n stopped_report t) (keeps_same s) (keeps_both s t (report n stopped_report t) (keeps_change n (λ h. record h { is_stopped = true }) s (λ h. refl) (λ h. refl)) (keeps_report n stopped_report t))

resumed_keeps : (o : Option Shoen) (n : ℕ) (s : State) → Keeps s (resumed_of o n s)
resumed_keeps None n s = keeps_same s
resumed_keeps (Some h) n s =
    let t = change_shoen n (λ h. record h { is_stopped = false }) s in
    keeps_if h.is_stopped s (report n resumed_report t) s (keeps_both s t (report n resumed_report t) (keeps_change n (λ h. record h { is_stopped = false }) s (λ h. refl) (λ h. refl)) (keeps_report n resumed_report t)) (keeps_same s)

obeyed_keeps : (n : ℕ) (m : Message) (s : State) → Keeps s (obeyed n m s)
obeyed_keeps n Stop s = stopped_keeps (shoen_at n s.shoens) n s
obeyed_keeps n Start s = resumed_keeps (shoen_at n s.shoens) n s
obeyed_keeps n Abort s = keeps_abort n s
obeyed_keeps n (Allow extra) s = keeps_change n (allowed_more extra) s (λ h. refl) (λ h. refl)

pub keeps_heard : (n : ℕ) (c : Control) (s : State) → Keeps s (heard n c s)
keeps_heard n (awaits_message v) s = keeps_same s
keeps_heard n (tells m rest) s =
    let t = with_control n rest s in
    keeps_both s t (obeyed n m t) (keeps_change n (λ h. record h { control = rest }) s (λ h. refl) (λ h. refl)) (obeyed_keeps n m t)
keeps_heard n (tells_other m rest) s =
    let t = with_control n rest s in
    keeps_both s t (report n (exception illegal_input m) t) (keeps_change n (λ h. record h { control = rest }) s (λ h. refl) (λ h. refl)) (keeps_report n (exception illegal_input m) t)
keeps_heard n ends s = keeps_without_monitor n s
keeps_heard n (breaks_off t) s =
    let u = without_monitor n s in
    keeps_both s u (report n (exception illegal_input t) u) (keeps_without_monitor n s) (keeps_report n (exception illegal_input t) u)
