-- Effects on accounts with other numbers for their variables: replacing, reports, ends.
use Rattle.std.proofs.Common.{◌≡◌, ℕ, suc, ◌+◌, ◌==◌, not, ◌&&◌, ◌||◌, Bool, true, false, if◌then◌else◌, List, [], ◌∷◌, refl, sym, ap, ap₂, ◌∙◌, subst}
use Rattle.std.specs.Prelude.{nat_le, map, filter, count_by, cond, Option, Some, None, option_map, unwrap_or, is_some}
use Rattle.std.specs.List.{list_any}
use Rattle.std.proofs.lemmas.List.Sums.{sum_by-cons}
use Rattle.kl1_model.specs.declared.life.Life.{Life}
use Rattle.kl1_model.specs.declared.life.Life.TheVariants.{Terminated, Aborted}
use Rattle.kl1_model.specs.declared.rules.Rules.{Rules}
use Rattle.kl1_model.specs.Term.{Term, variable, integer, atom, structure, occurs, replace, Replacement}
use Rattle.kl1_model.specs.Meaning.{nil, cell}
use Rattle.kl1_model.specs.Module.{is_among}
use Rattle.kl1_model.specs.State.{Task, monitor, reduces, substitutes, Goal, Origin, Shoen, State, has_forgetting, shoen_at, replace_in_goal, replace_in_origin, replace_in_shoen, replace_in_state, replace_all, change_shoen, without_goal, is_monitor, is_living}
use Rattle.kl1_model.specs.Tree.{parents_of, path_within, path, is_on_path, charged_of, is_blocking, is_blocking_at, is_enabled_in, is_enabled, goals_alive, is_living_child}
use Rattle.kl1_model.specs.Report.{broken_at, has_made_last, report_tail, reported_on, reported_at, report, is_reported, report_each, closed_at, close, exhausted_report, terminated_report, aborted_report}
use Rattle.kl1_model.specs.Ending.{has_goal, has_living_child, lives, ends_now, control_left, ended_as, ended_at, ending_of, without_monitor, terminate, terminate_each, settle, has_reached, newly_exhausted, after_reduction, ended_below, abort}
use Rattle.kl1_model.specs.code.Steps.{report_of, close_of}
use Rattle.kl1_model.specs.laws.RelabelLaws.{renamed, replacement_renamed, task_renamed, goal_renamed, origin_renamed, shoen_renamed, relabelled, IsIncreasing, ShiftsFrom}
use Rattle.kl1_model.proofs.Renaming.{replace_renamed, occurs_renamed, next_number, shifts_next}

-- whether two lists of work are the same, or only have the same counts
abbrev pub AreAlike : Bool → List ℕ → List ℕ → Type 0
AreAlike true v w = w ≡ v
AreAlike false v w = (f : ℕ → Bool) → count_by f w ≡ count_by f v

-- an account with other numbers, and with this work
abbrev pub like : (ℕ → ℕ) → List ℕ → State → State
like g w s = record (relabelled g s) { work = w }

-- the numbers keep their order, those after the last variable are shifted, and the work is that of the account
pub record Fits (g : ℕ → ℕ) (b : Bool) (w : List ℕ) (s : State) : Type 0 where
  pub up : IsIncreasing g
  pub on : ShiftsFrom g s.last_variable
  pub work : AreAlike b s.work w

-- an account is another with other numbers and this work
pub record Becomes (g : ℕ → ℕ) (b : Bool) (w : List ℕ) (t s : State) : Type 0 where
  pub is : t ≡ like g w s
  pub fits : Fits g b w s

pub same : (g : ℕ → ℕ) (b : Bool) (w : List ℕ) (s : State) → Fits g b w s → Becomes g b w (like g w s) s
same g b w s fit = record { is = refl; fits = fit }

-- one effect after another
pub then_does : (g : ℕ → ℕ) (b : Bool) (w : List ℕ) (t s u : State) (act : State → State) → Becomes g b w t s → (Fits g b w s → Becomes g b w (act (like g w s)) u) → Becomes g b w (act t) u
then_does g b w t s u act one two = let r = two one.fits in record { is = ap act one.is ∙ r.is; fits = r.fits }

pub either : (g : ℕ → ℕ) (b : Bool) (w : List ℕ) (c : Bool) (x y s t : State) → Becomes g b w x s → Becomes g b w y t → Becomes g b w (if c then x else y) (if c then s else t)
either g b w true x y s t p q = p
either g b w false x y s t p q = q

-- ---- lists

pub map_same : {A B : Type 0} (r : A → B) (f : A → A) (h : B → B) → ((x : A) → h (r x) ≡ r (f x)) → (xs : List A) → map h (map r xs) ≡ map r (map f xs)
map_same r f h e [] = refl
map_same r f h e (x ∷ xs) = ap₂ (λ (y : _) (ys : List _). y ∷ ys) (e x) (map_same r f h e xs)

pub any_same : {A B : Type 0} (r : A → B) (f : A → Bool) (h : B → Bool) → ((x : A) → h (r x) ≡ f x) → (xs : List A) → list_any h (map r xs) ≡ list_any f xs
any_same r f h e [] = refl
any_same r f h e (x ∷ xs) = ap₂ (λ a b. a || b) (e x) (any_same r f h e xs)

pub any_alike : {A : Type 0} (f h : A → Bool) → ((x : A) → h x ≡ f x) → (xs : List A) → list_any h xs ≡ list_any f xs
any_alike f h e [] = refl
any_alike f h e (x ∷ xs) = ap₂ (λ a b. a || b) (e x) (any_alike f h e xs)

kept_by : {A B : Type 0} (r : A → B) (c d : Bool) (x : A) (ys : List B) (xs : List A) → d ≡ c → ys ≡ map r xs → (if d then r x ∷ ys else ys) ≡ map r (if c then x ∷ xs else xs)
kept_by r true true x ys xs e f = ap (λ (l : List _). r x ∷ l) f
kept_by r true false x ys xs e f = absurd (cc)
kept_by r false true x ys xs e f = absurd (cc)
kept_by r false false x ys xs e f = f

pub filter_same : {A B : Type 0} (r : A → B) (f : A → Bool) (h : B → Bool) → ((x : A) → h (r x) ≡ f x) → (xs : List A) → filter h (map r xs) ≡ map r (filter f xs)
filter_same r f h e [] = refl
filter_same r f h e (x ∷ xs) = kept_by r (f x) (h (r x)) x (filter h (map r xs)) (filter f xs) (e x) (filter_same r f h e xs)

if_list : {A : Type 0} (c d : Bool) (x : A) (ys xs : List A) → d ≡ c → ys ≡ xs → (if d then x ∷ ys else ys) ≡ (if c then x ∷ xs else xs)
if_list c d x ys xs e f = ap₂ (λ b (l : List _). if b then x ∷ l else l) e f

pub filter_alike : {A : Type 0} (f h : A → Bool) → ((x : A) → h x ≡ f x) → (xs : List A) → filter h xs ≡ filter f xs
filter_alike f h e [] = refl
filter_alike f h e (x ∷ xs) = if_list (f x) (h x) x (filter h xs) (filter f xs) (e x) (filter_alike f h e xs)

pub count_cons : {A : Type 0} (f : A → Bool) (x : A) (xs : List A) → count_by f (x ∷ xs) ≡ cond (f x) 1 0 + count_by f xs
count_cons f x xs = sum_by-cons (λ y. cond (f y) 1 0) x xs

pub count_same : {A B : Type 0} (r : A → B) (f : A → Bool) (h : B → Bool) → ((x : A) → h (r x) ≡ f x) → (xs : List A) → count_by h (map r xs) ≡ count_by f xs
count_same r f h e [] = refl
count_same r f h e (x ∷ xs) = count_cons h (r x) (map r xs) ∙ ap₂ (λ c (n : ℕ). cond c 1 0 + n) (e x) (count_same r f h e xs) ∙ sym (count_cons f x xs)

-- ---- shoens

one_found : (g : ℕ → ℕ) (c : Bool) (h : Shoen) (o p : Option Shoen) → p ≡ option_map (shoen_renamed g) o → (if c then Some (shoen_renamed g h) else p) ≡ option_map (shoen_renamed g) (if c then Some h else o)
one_found g true h o p e = refl
one_found g false h o p e = e

pub shoen_found : (g : ℕ → ℕ) (n : ℕ) (hs : List Shoen) → shoen_at n (map (shoen_renamed g) hs) ≡ option_map (shoen_renamed g) (shoen_at n hs)
shoen_found g n [] = refl
shoen_found g n (h ∷ hs) = one_found g (h.number == n) h (shoen_at n hs) (shoen_at n (map (shoen_renamed g) hs)) (shoen_found g n hs)

pub parents_are : (g : ℕ → ℕ) (hs : List Shoen) → parents_of (map (shoen_renamed g) hs) ≡ parents_of hs
parents_are g [] = refl
parents_are g (h ∷ hs) = ap (λ (ps : List ℕ). h.parent ∷ ps) (parents_are g hs)

pub path_is : (g : ℕ → ℕ) (hs : List Shoen) (n : ℕ) → path (map (shoen_renamed g) hs) n ≡ path hs n
path_is g hs n = ap (λ ps. path_within n ps n) (parents_are g hs)

pub on_path_is : (g : ℕ → ℕ) (hs : List Shoen) (a n : ℕ) → is_on_path (map (shoen_renamed g) hs) a n ≡ is_on_path hs a n
on_path_is g hs a n = ap (is_among a) (path_is g hs n)

counts_alike : (b : Bool) (v w : List ℕ) (f : ℕ → Bool) → AreAlike b v w → count_by f w ≡ count_by f v
counts_alike true v w f a = ap (count_by f) a
counts_alike false v w f a = a f

pub charged_is : (g : ℕ → ℕ) (b : Bool) (w : List ℕ) (s : State) (n : ℕ) → AreAlike b s.work w → charged_of (like g w s) n ≡ charged_of s n
charged_is g b w s n work =
    ap (λ ps. count_by (λ worked. is_among n (path_within worked ps worked)) w) (parents_are g s.shoens) ∙ counts_alike b s.work w (λ worked. is_on_path s.shoens n worked) work

changed_by : (g : ℕ → ℕ) (n : ℕ) (f k : Shoen → Shoen) (c : Bool) (h : Shoen) → k (shoen_renamed g h) ≡ shoen_renamed g (f h) → (if c then k (shoen_renamed g h) else shoen_renamed g h) ≡ shoen_renamed g (if c then f h else h)
changed_by g n f k true h e = e
changed_by g n f k false h e = refl

pub changed : (g : ℕ → ℕ) (b : Bool) (w : List ℕ) (n : ℕ) (f k : Shoen → Shoen) (s : State) → ((h : Shoen) → k (shoen_renamed g h) ≡ shoen_renamed g (f h)) → change_shoen n k (like g w s) ≡ like g w (change_shoen n f s)
changed g b w n f k s e =
    ap (λ (hs : List Shoen). let t : State = record (like g w s) { shoens = hs } in t)
    (map_same (shoen_renamed g) (λ h. if h.number == n then f h else h) (λ h. if h.number == n then k h else h) (λ h. changed_by g n f k (h.number == n) h (e h)) s.shoens)

-- ---- replacing

abbrev with_task : Goal → Task → Goal
with_task k x = record k { task = x }

task_replaced : (g : ℕ → ℕ) (v : ℕ) (t : Term) (k : Goal) (x : Task) → IsIncreasing g → replace_in_goal (g v) (renamed g t) (goal_renamed g (with_task k x)) ≡ goal_renamed g (replace_in_goal v t (with_task k x))
task_replaced g v t k monitor up = refl
task_replaced g v t k (reduces u) up = ap (λ y. with_task k (reduces y)) (sym (replace_renamed g v t u up))
task_replaced g v t k (substitutes u) up = ap (λ y. with_task k (substitutes y)) (sym (replace_renamed g v t u up))

goal_replaced : (g : ℕ → ℕ) (v : ℕ) (t : Term) (k : Goal) → IsIncreasing g → replace_in_goal (g v) (renamed g t) (goal_renamed g k) ≡ goal_renamed g (replace_in_goal v t k)
goal_replaced g v t k up = task_replaced g v t k k.task up

origin_replaced : (g : ℕ → ℕ) (v : ℕ) (t : Term) (o : Option Origin) → IsIncreasing g → option_map (replace_in_origin (g v) (renamed g t)) (option_map (origin_renamed g) o) ≡ option_map (origin_renamed g) (option_map (replace_in_origin v t) o)
origin_replaced g v t None up = refl
origin_replaced g v t (Some o) up =
    let a = sym (replace_renamed g v t o.goal up) in
    let b = sym (replace_renamed g v t o.reports up) in
    let c = sym (replace_renamed g v t o.control up) in
    ap (λ x. let p : Origin = record { goal = x; forgotten = o.forgotten; reports = replace (g v) (renamed g t) (renamed g o.reports); control = replace (g v) (renamed g t) (renamed g o.control) } in Some p) a
    ∙ ap₂ (λ x y. let p : Origin = record { goal = renamed g (replace v t o.goal); forgotten = o.forgotten; reports = x; control = y } in Some p) b c

shoen_replaced : (g : ℕ → ℕ) (v : ℕ) (t : Term) (h : Shoen) → IsIncreasing g → replace_in_shoen (g v) (renamed g t) (shoen_renamed g h) ≡ shoen_renamed g (replace_in_shoen v t h)
shoen_replaced g v t h up =
    ap₂ (λ x y. let k : Shoen = record h { control = x; tail = y; origin = option_map (replace_in_origin (g v) (renamed g t)) (option_map (origin_renamed g) h.origin) } in k)
    (sym (replace_renamed g v t h.control up)) (sym (replace_renamed g v t h.tail up))
    ∙ ap (λ (x : Option Origin). let k : Shoen = record h { control = renamed g (replace v t h.control); tail = renamed g (replace v t h.tail); origin = x } in k) (origin_replaced g v t h.origin up)

pub replaced : (g : ℕ → ℕ) (b : Bool) (w : List ℕ) (v : ℕ) (t : Term) (s : State) → IsIncreasing g → replace_in_state (g v) (renamed g t) (like g w s) ≡ like g w (replace_in_state v t s)
replaced g b w v t s up =
    ap₂ (λ (gs : List Goal) (hs : List Shoen). let u : State = record (like g w s) { goals = gs; shoens = hs } in u)
    (map_same (goal_renamed g) (replace_in_goal v t) (replace_in_goal (g v) (renamed g t)) (λ k. goal_replaced g v t k up) s.goals)
    (map_same (shoen_renamed g) (replace_in_shoen v t) (replace_in_shoen (g v) (renamed g t)) (λ h. shoen_replaced g v t h up) s.shoens)

pub all_replaced : (g : ℕ → ℕ) (b : Bool) (w : List ℕ) (rs : List Replacement) (s : State) → Fits g b w s → Becomes g b w (replace_all (map (replacement_renamed g) rs) (like g w s)) (replace_all rs s)
all_replaced g b w [] s fit = same g b w s fit
all_replaced g b w (r ∷ rs) s fit =
    let up = fit.up in
    let after = replace_in_state r.number r.by s in
    then_does g b w (replace_in_state (g r.number) (renamed g r.by) (like g w s)) after (replace_all rs after) (replace_all (map (replacement_renamed g) rs))
    (record { is = replaced g b w r.number r.by s up; fits = record { up = fit.up; on = fit.on; work = fit.work } }) (λ k. all_replaced g b w rs after k)

-- ---- reports

if_nil : (g : ℕ → ℕ) (c : Bool) (t : Term) → (if c then nil else renamed g t) ≡ renamed g (if c then nil else t)
if_nil g true t = refl
if_nil g false t = refl

broken_is : (g : ℕ → ℕ) (b : Bool) (w : List ℕ) (n : ℕ) (s : State) → broken_at n (like g w s) ≡ like g w (broken_at n s)
broken_is g b w n s =
    let blank = has_forgetting s.rules in
    changed g b w n (λ h. record h { is_broken = true; tail = if blank then nil else h.tail }) (λ h. record h { is_broken = true; tail = if blank then nil else h.tail }) s
    (λ h. ap (λ t. let k : Shoen = record (shoen_renamed g h) { is_broken = true; tail = t } in k) (if_nil g blank h.tail))

tail_by : (g : ℕ → ℕ) (c d : Bool) (v : ℕ) → d ≡ c → (if d then None else Some (g v)) ≡ option_map g (if c then None else Some v)
tail_by g true true v e = refl
tail_by g true false v e = absurd (cc)
tail_by g false true v e = absurd (cc)
tail_by g false false v e = refl

tail_is : (g : ℕ → ℕ) (made : Bool) (m t : Term) → IsIncreasing g → report_tail made (renamed g m) (renamed g t) ≡ option_map g (report_tail made m t)
tail_is g made m (variable v) up = tail_by g (occurs v m || made) (occurs (g v) (renamed g m) || made) v (ap (λ b. b || made) (occurs_renamed g v m up))
tail_is g made m (integer i) up = refl
tail_is g made m (atom a) up = refl
tail_is g made m (structure f ts) up = refl

-- a report on a tail, with this next variable
abbrev told_with : ℕ → Term → ℕ → ℕ → State → State
told_with n m v next s = change_shoen n (λ h. record h { tail = variable next }) (record (replace_in_state v (cell m (variable next)) s) { last_variable = next; reports = suc s.reports })

told_is : (g : ℕ → ℕ) (b : Bool) (w : List ℕ) (n : ℕ) (m : Term) (o : Option ℕ) (s : State) → Fits g b w s → Becomes g b w (reported_on n (renamed g m) (option_map g o) (like g w s)) (reported_on n m o s)
told_is g b w n m None s fit = record { is = broken_is g b w n s; fits = record { up = fit.up; on = fit.on; work = fit.work } }
told_is g b w n m (Some v) s fit =
    let up = fit.up in
    let on = fit.on in
    let next = suc s.last_variable in
    let after : State = record (replace_in_state v (cell m (variable next)) s) { last_variable = next; reports = suc s.reports } in
    record {
      is =
          ap (λ k. told_with n (renamed g m) (g v) k (like g w s)) (sym (next_number g s.last_variable on))
          ∙ ap (λ t. change_shoen n (λ h. record h { tail = variable (g next) }) (record t { last_variable = g next; reports = suc s.reports })) (replaced g b w v (cell m (variable next)) s up)
          ∙ changed g b w n (λ h. record h { tail = variable next }) (λ h. record h { tail = variable (g next) }) after (λ h. refl);
      fits = record { up = up; on = shifts_next g s.last_variable on; work = fit.work };
    }

reported_is : (g : ℕ → ℕ) (b : Bool) (w : List ℕ) (n : ℕ) (m t : Term) (s : State) → Fits g b w s → Becomes g b w (reported_at n (renamed g m) (renamed g t) (like g w s)) (reported_at n m t s)
reported_is g b w n m t s fit =
    subst (λ o. Becomes g b w (reported_on n (renamed g m) o (like g w s)) (reported_at n m t s)) (sym (tail_is g (has_made_last s) m t fit.up))
    (told_is g b w n m (report_tail (has_made_last s) m t) s fit)

report_of_is : (g : ℕ → ℕ) (b : Bool) (w : List ℕ) (o : Option Shoen) (n : ℕ) (m : Term) (s : State) → Fits g b w s → Becomes g b w (report_of (option_map (shoen_renamed g) o) n (renamed g m) (like g w s)) (report_of o n m s)
report_of_is g b w None n m s fit = same g b w s fit
report_of_is g b w (Some h) n m s fit =
    either g b w h.is_broken (like g w s) (reported_at n (renamed g m) (renamed g h.tail) (like g w s)) s (reported_at n m h.tail s) (same g b w s fit) (reported_is g b w n m h.tail s fit)

pub report_is : (g : ℕ → ℕ) (b : Bool) (w : List ℕ) (n : ℕ) (m : Term) (s : State) → Fits g b w s → Becomes g b w (report n (renamed g m) (like g w s)) (report n m s)
report_is g b w n m s fit =
    subst (λ o. Becomes g b w (report_of o n (renamed g m) (like g w s)) (report n m s)) (sym (shoen_found g n s.shoens)) (report_of_is g b w (shoen_at n s.shoens) n m s fit)

some_is : (g : ℕ → ℕ) (o : Option ℕ) → is_some (option_map g o) ≡ is_some o
some_is g None = refl
some_is g (Some v) = refl

-- whether a report is made by a shoen that may be there
abbrev made_by : Bool → Term → Option Shoen → Bool
made_by made m o = elim o [ None ↦ false | Some h ↦ not h.is_broken && is_some (report_tail made m h.tail) ]

made_is : (g : ℕ → ℕ) (made : Bool) (m : Term) (o : Option Shoen) → IsIncreasing g → made_by made (renamed g m) (option_map (shoen_renamed g) o) ≡ made_by made m o
made_is g made m None up = refl
made_is g made m (Some h) up = ap (λ b. not h.is_broken && b) (ap is_some (tail_is g made m h.tail up) ∙ some_is g (report_tail made m h.tail))

pub is_reported_is : (g : ℕ → ℕ) (b : Bool) (w : List ℕ) (n : ℕ) (m : Term) (s : State) → IsIncreasing g → is_reported n (renamed g m) (like g w s) ≡ is_reported n m s
is_reported_is g b w n m s up = ap (made_by (has_made_last s) (renamed g m)) (shoen_found g n s.shoens) ∙ made_is g (has_made_last s) m (shoen_at n s.shoens) up

pub report_each_is : (g : ℕ → ℕ) (b : Bool) (w : List ℕ) (ns : List ℕ) (m : Term) (s : State) → Fits g b w s → Becomes g b w (report_each ns (renamed g m) (like g w s)) (report_each ns m s)
report_each_is g b w [] m s fit = same g b w s fit
report_each_is g b w (n ∷ ns) m s fit =
    then_does g b w (report n (renamed g m) (like g w s)) (report n m s) (report_each ns m (report n m s)) (report_each ns (renamed g m)) (report_is g b w n m s fit) (λ k. report_each_is g b w ns m (report n m s) k)

closed_is : (g : ℕ → ℕ) (b : Bool) (w : List ℕ) (t : Term) (s : State) → Fits g b w s → Becomes g b w (closed_at (renamed g t) (like g w s)) (closed_at t s)
closed_is g b w (variable v) s fit = record { is = replaced g b w v nil s fit.up; fits = record { up = fit.up; on = fit.on; work = fit.work } }
closed_is g b w (integer i) s fit = same g b w s fit
closed_is g b w (atom a) s fit = same g b w s fit
closed_is g b w (structure f ts) s fit = same g b w s fit

close_of_is : (g : ℕ → ℕ) (b : Bool) (w : List ℕ) (o : Option Shoen) (s : State) → Fits g b w s → Becomes g b w (close_of (option_map (shoen_renamed g) o) (like g w s)) (close_of o s)
close_of_is g b w None s fit = same g b w s fit
close_of_is g b w (Some h) s fit = either g b w h.is_broken (like g w s) (closed_at (renamed g h.tail) (like g w s)) s (closed_at h.tail s) (same g b w s fit) (closed_is g b w h.tail s fit)

pub close_is : (g : ℕ → ℕ) (b : Bool) (w : List ℕ) (n : ℕ) (s : State) → Fits g b w s → Becomes g b w (close n (like g w s)) (close n s)
close_is g b w n s fit = subst (λ o. Becomes g b w (close_of o (like g w s)) (close n s)) (sym (shoen_found g n s.shoens)) (close_of_is g b w (shoen_at n s.shoens) s fit)

-- ---- ends

monitor_is : (g : ℕ → ℕ) (t : Task) → is_monitor (task_renamed g t) ≡ is_monitor t
monitor_is g monitor = refl
monitor_is g (reduces u) = refl
monitor_is g (substitutes u) = refl

left_is : (g : ℕ → ℕ) (rules : Rules) (o : Option Origin) (t : Term) → control_left rules (option_map (origin_renamed g) o) (renamed g t) ≡ renamed g (control_left rules o t)
left_is g rules None t = if_nil g (has_forgetting rules) t
left_is g rules (Some o) t = refl

ended_as_is : (g : ℕ → ℕ) (rules : Rules) (life : Life) (h : Shoen) → ended_as rules life (shoen_renamed g h) ≡ shoen_renamed g (ended_as rules life h)
ended_as_is g rules life h = ap (λ t. let k : Shoen = record (shoen_renamed g h) { life = life; control = t } in k) (left_is g rules h.origin h.control)

pub ended_is : (g : ℕ → ℕ) (b : Bool) (w : List ℕ) (n : ℕ) (s : State) → ended_at n (like g w s) ≡ like g w (ended_at n s)
ended_is g b w n s = changed g b w n (ended_as s.rules Terminated) (ended_as s.rules Terminated) s (λ h. ended_as_is g s.rules Terminated h)

has_goal_is : (g : ℕ → ℕ) (b : Bool) (w : List ℕ) (n : ℕ) (s : State) → has_goal n (like g w s) ≡ has_goal n s
has_goal_is g b w n s = any_same (goal_renamed g) (λ k. k.shoen == n && not (is_monitor k.task)) (λ k. k.shoen == n && not (is_monitor k.task)) (λ k. ap (λ b. k.shoen == n && not b) (monitor_is g k.task)) s.goals

has_child_is : (g : ℕ → ℕ) (b : Bool) (w : List ℕ) (n : ℕ) (s : State) → has_living_child n (like g w s) ≡ has_living_child n s
has_child_is g b w n s = any_same (shoen_renamed g) (is_living_child n) (is_living_child n) (λ h. refl) s.shoens

lives_by : (g : ℕ → ℕ) (o : Option Shoen) → unwrap_or (option_map (λ (h : Shoen). is_living h.life) (option_map (shoen_renamed g) o)) false ≡ unwrap_or (option_map (λ (h : Shoen). is_living h.life) o) false
lives_by g None = refl
lives_by g (Some h) = refl

lives_is : (g : ℕ → ℕ) (b : Bool) (w : List ℕ) (n : ℕ) (s : State) → lives n (like g w s) ≡ lives n s
lives_is g b w n s = ap (λ o. unwrap_or (option_map (λ (h : Shoen). is_living h.life) o) false) (shoen_found g n s.shoens) ∙ lives_by g (shoen_at n s.shoens)

ends_is : (g : ℕ → ℕ) (b : Bool) (w : List ℕ) (n : ℕ) (s : State) → ends_now n (like g w s) ≡ ends_now n s
ends_is g b w n s = ap₂ (λ a b. a && not b) (ap₂ (λ a b. a && not b) (lives_is g b w n s) (has_goal_is g b w n s)) (has_child_is g b w n s)

pub ending_is : (g : ℕ → ℕ) (b : Bool) (w : List ℕ) (ns : List ℕ) (s : State) → ending_of ns (like g w s) ≡ ending_of ns s
ending_is g b w [] s = refl
ending_is g b w (n ∷ ns) s =
    ap₂ (λ b (l : List ℕ). if b then n ∷ l else ending_of ns (like g w s)) (ends_is g b w n s) (ap (ending_of ns) (ended_is g b w n s) ∙ ending_is g b w ns (ended_at n s))
    ∙ ap (λ (l : List ℕ). if ends_now n s then n ∷ ending_of ns (ended_at n s) else l) (ending_is g b w ns s)

pub without_monitor_is : (g : ℕ → ℕ) (b : Bool) (w : List ℕ) (n : ℕ) (s : State) → without_monitor n (like g w s) ≡ like g w (without_monitor n s)
without_monitor_is g b w n s =
    ap (λ (gs : List Goal). let t : State = record (like g w s) { goals = gs } in t)
    (filter_same (goal_renamed g) (λ k. not (k.shoen == n && is_monitor k.task)) (λ k. not (k.shoen == n && is_monitor k.task)) (λ k. ap (λ b. not (k.shoen == n && b)) (monitor_is g k.task)) s.goals)

pub without_goal_is : (g : ℕ → ℕ) (b : Bool) (w : List ℕ) (n : ℕ) (s : State) → without_goal n (like g w s) ≡ like g w (without_goal n s)
without_goal_is g b w n s =
    ap (λ (gs : List Goal). let t : State = record (like g w s) { goals = gs } in t)
    (filter_same (goal_renamed g) (λ k. not (k.number == n)) (λ k. not (k.number == n)) (λ k. refl) s.goals)

pub terminate_is : (g : ℕ → ℕ) (b : Bool) (w : List ℕ) (n : ℕ) (s : State) → Fits g b w s → Becomes g b w (terminate n (like g w s)) (terminate n s)
terminate_is g b w n s fit =
    let ended = without_monitor n (ended_at n s) in
    let first : Becomes g b w (without_monitor n (ended_at n (like g w s))) ended = record { is = ap (without_monitor n) (ended_is g b w n s) ∙ without_monitor_is g b w n (ended_at n s); fits = record { up = fit.up; on = fit.on; work = fit.work } } in
    let told = report n terminated_report ended in
    let second : Becomes g b w (report n terminated_report (without_monitor n (ended_at n (like g w s)))) told =
    then_does g b w (without_monitor n (ended_at n (like g w s))) ended told (report n terminated_report) first (λ k. report_is g b w n terminated_report ended k) in
    then_does g b w (report n terminated_report (without_monitor n (ended_at n (like g w s)))) told (close n told) (close n) second (λ k. close_is g b w n told k)

pub terminate_each_is : (g : ℕ → ℕ) (b : Bool) (w : List ℕ) (ns : List ℕ) (s : State) → Fits g b w s → Becomes g b w (terminate_each ns (like g w s)) (terminate_each ns s)
terminate_each_is g b w [] s fit = same g b w s fit
terminate_each_is g b w (n ∷ ns) s fit =
    then_does g b w (terminate n (like g w s)) (terminate n s) (terminate_each ns (terminate n s)) (terminate_each ns) (terminate_is g b w n s fit) (λ k. terminate_each_is g b w ns (terminate n s) k)

pub settle_is : (g : ℕ → ℕ) (b : Bool) (w : List ℕ) (n : ℕ) (s : State) → Fits g b w s → Becomes g b w (settle n (like g w s)) (settle n s)
settle_is g b w n s fit =
    let ending = ending_of (path s.shoens n) s in
    let same_ending : ending_of (path (map (shoen_renamed g) s.shoens) n) (like g w s) ≡ ending = ap (λ ns. ending_of ns (like g w s)) (path_is g s.shoens n) ∙ ending_is g b w (path s.shoens n) s in
    subst (λ ns. Becomes g b w (terminate_each ns (like g w s)) (terminate_each ending s)) (sym same_ending) (terminate_each_is g b w ending s fit)

reached_by : (g : ℕ → ℕ) (b : Bool) (w : List ℕ) (s : State) (n : ℕ) (o : Option Shoen) → AreAlike b s.work w → unwrap_or (option_map (λ (h : Shoen). h.allowance == charged_of (like g w s) n) (option_map (shoen_renamed g) o)) false ≡ unwrap_or (option_map (λ (h : Shoen). h.allowance == charged_of s n) o) false
reached_by g b w s n None work = refl
reached_by g b w s n (Some h) work = ap (λ c. h.allowance == c) (charged_is g b w s n work)

reached_is : (g : ℕ → ℕ) (b : Bool) (w : List ℕ) (s : State) (n : ℕ) → AreAlike b s.work w → has_reached (like g w s) n ≡ has_reached s n
reached_is g b w s n work =
    ap (λ o. unwrap_or (option_map (λ (h : Shoen). h.allowance == charged_of (like g w s) n) o) false) (shoen_found g n s.shoens) ∙ reached_by g b w s n (shoen_at n s.shoens) work

exhausted_is : (g : ℕ → ℕ) (b : Bool) (w : List ℕ) (s : State) (ending ns : List ℕ) → AreAlike b s.work w → newly_exhausted (like g w s) ending ns ≡ newly_exhausted s ending ns
exhausted_is g b w s ending ns work =
    filter_alike (λ n. has_reached s n && not (is_among n ending)) (λ n. has_reached (like g w s) n && not (is_among n ending)) (λ n. ap (λ b. b && not (is_among n ending)) (reached_is g b w s n work)) ns

pub after_reduction_is : (g : ℕ → ℕ) (b : Bool) (w : List ℕ) (n : ℕ) (s : State) → Fits g b w s → Becomes g b w (after_reduction n (like g w s)) (after_reduction n s)
after_reduction_is g b w n s fit =
    let ns = path s.shoens n in
    let ending = ending_of ns s in
    let tired = newly_exhausted s ending ns in
    let by : List ℕ → State = λ ns. terminate_each (ending_of ns (like g w s)) (report_each (newly_exhausted (like g w s) (ending_of ns (like g w s)) ns) exhausted_report (like g w s)) in
    let with_ending : List ℕ → State = λ ending. terminate_each ending (report_each (newly_exhausted (like g w s) ending ns) exhausted_report (like g w s)) in
    let with_tired : List ℕ → State = λ tired. terminate_each ending (report_each tired exhausted_report (like g w s)) in
    let e = ap by (path_is g s.shoens n) ∙ ap with_ending (ending_is g b w ns s) ∙ ap with_tired (exhausted_is g b w s ending ns fit.work) in
    let told = report_each tired exhausted_report s in
    let done = then_does g b w (report_each tired exhausted_report (like g w s)) told (terminate_each ending told) (terminate_each ending) (report_each_is g b w tired exhausted_report s fit) (λ k. terminate_each_is g b w ending told k) in
    record { is = e ∙ done.is; fits = done.fits }

aborted_by : (g : ℕ → ℕ) (b : Bool) (w : List ℕ) (s : State) (n : ℕ) (c d : Bool) (h : Shoen) → d ≡ c → (if d then ended_as s.rules Aborted (shoen_renamed g h) else shoen_renamed g h) ≡ shoen_renamed g (if c then ended_as s.rules Aborted h else h)
aborted_by g b w s n true true h e = ended_as_is g s.rules Aborted h
aborted_by g b w s n true false h e = absurd (cc)
aborted_by g b w s n false true h e = absurd (cc)
aborted_by g b w s n false false h e = refl

ended_below_is : (g : ℕ → ℕ) (b : Bool) (w : List ℕ) (n : ℕ) (s : State) → ended_below n (like g w s) ≡ like g w (ended_below n s)
ended_below_is g b w n s =
    let all = map (shoen_renamed g) s.shoens in
    ap₂ (λ (gs : List Goal) (hs : List Shoen). let t : State = record (like g w s) { goals = gs; shoens = hs } in t)
    (filter_same (goal_renamed g) (λ k. not (is_on_path s.shoens n k.shoen)) (λ k. not (is_on_path all n k.shoen)) (λ k. ap not (on_path_is g s.shoens n k.shoen)) s.goals)
    (map_same (shoen_renamed g) (λ h. if is_living h.life && is_on_path s.shoens n h.number then ended_as s.rules Aborted h else h) (λ h. if is_living h.life && is_on_path all n h.number then ended_as s.rules Aborted h else h)
    (λ h. aborted_by g b w s n (is_living h.life && is_on_path s.shoens n h.number) (is_living h.life && is_on_path all n h.number) h (ap (λ b. is_living h.life && b) (on_path_is g s.shoens n h.number))) s.shoens)

pub abort_is : (g : ℕ → ℕ) (b : Bool) (w : List ℕ) (n : ℕ) (s : State) → Fits g b w s → Becomes g b w (abort n (like g w s)) (abort n s)
abort_is g b w n s fit =
    let ended = ended_below n s in
    let first : Becomes g b w (ended_below n (like g w s)) ended = record { is = ended_below_is g b w n s; fits = record { up = fit.up; on = fit.on; work = fit.work } } in
    let told = report n aborted_report ended in
    let second = then_does g b w (ended_below n (like g w s)) ended told (report n aborted_report) first (λ k. report_is g b w n aborted_report ended k) in
    then_does g b w (report n aborted_report (ended_below n (like g w s))) told (close n told) (close n) second (λ k. close_is g b w n told k)

-- ---- which goals are enabled

blocking_is : (g : ℕ → ℕ) (b : Bool) (w : List ℕ) (s : State) (h : Shoen) → AreAlike b s.work w → is_blocking (like g w s) (shoen_renamed g h) ≡ is_blocking s h
blocking_is g b w s h work = ap (λ c. h.is_stopped || not (is_living h.life) || nat_le h.allowance c) (charged_is g b w s h.number work)

blocking_by : (g : ℕ → ℕ) (b : Bool) (w : List ℕ) (s : State) (o : Option Shoen) → AreAlike b s.work w → unwrap_or (option_map (is_blocking (like g w s)) (option_map (shoen_renamed g) o)) false ≡ unwrap_or (option_map (is_blocking s) o) false
blocking_by g b w s None work = refl
blocking_by g b w s (Some h) work = blocking_is g b w s h work

blocking_at_is : (g : ℕ → ℕ) (b : Bool) (w : List ℕ) (s : State) (n : ℕ) → AreAlike b s.work w → is_blocking_at (like g w s) n ≡ is_blocking_at s n
blocking_at_is g b w s n work = ap (λ o. unwrap_or (option_map (is_blocking (like g w s)) o) false) (shoen_found g n s.shoens) ∙ blocking_by g b w s (shoen_at n s.shoens) work

enabled_in_is : (g : ℕ → ℕ) (b : Bool) (w : List ℕ) (s : State) (n : ℕ) → AreAlike b s.work w → is_enabled_in (like g w s) n ≡ is_enabled_in s n
enabled_in_is g b w s n work =
    ap not (ap (λ ns. list_any (is_blocking_at (like g w s)) ns) (path_is g s.shoens n) ∙ any_alike (is_blocking_at s) (is_blocking_at (like g w s)) (λ n. blocking_at_is g b w s n work) (path s.shoens n))

pub enabled_is : (g : ℕ → ℕ) (b : Bool) (w : List ℕ) (s : State) (k : Goal) → AreAlike b s.work w → is_enabled (like g w s) (goal_renamed g k) ≡ is_enabled s k
enabled_is g b w s k work = ap₂ (λ x y. x || y) (monitor_is g k.task) (enabled_in_is g b w s k.shoen work)

pub alive_is : (g : ℕ → ℕ) (b : Bool) (w : List ℕ) (s : State) → goals_alive (like g w s) ≡ goals_alive s
alive_is g b w s = count_same (goal_renamed g) (λ k. not (is_monitor k.task)) (λ k. not (is_monitor k.task)) (λ k. ap not (monitor_is g k.task)) s.goals
