-- Lists of goals, as they are kept and as they are read.
use Rattle.kl1_user_effects.proofs.Words.{◌≡◌, ℕ, suc, ◌==◌, not, ◌&&◌, Bool, List, [], ◌∷◌, length, map, refl, ap, filter, list_any, AllByRecursion, CellName, Qualified, Held, qualified_list, Task, Monitor, Goal, is_monitor_task, is_monitor_of, is_goal_of, is_other, Reading, Means, task_with, goal_with, is_of_any, AreBelow, AreOwned, IsOwned, Shoen, among_contains, arith, contains_among, is_among, is_on_path_in, same_from_decides, true, ◌≤◌, ◌<◌}
use Rattle.kl1_model.specs.State as model
use Rattle.kl1_user_effects.proofs.Lists.{filter_by, filter_each, any_by, all_then}

-- whether a task is a monitor's, as it is kept and as it is read
pub monitor_read : (t : Means) (k : Task CellName) → model.is_monitor (task_with t k) ≡ is_monitor_task k
monitor_read t Monitor = refl
monitor_read t _ = refl

pub others_read : (t : Means) (n : ℕ) (gs : List (Goal CellName)) → filter (λ g. not (g.number == n)) (map (goal_with t) gs) ≡ map (goal_with t) (filter (is_other n) gs)
others_read t n gs = filter_each (goal_with t) (λ g. not (g.number == n)) (is_other n) (λ g. refl) gs

-- whether a goal is not the monitor of a shoen
abbrev pub no_monitor : ℕ → Goal CellName → Bool
no_monitor n g = not (is_monitor_of n g)

-- whether a goal as it is read is the monitor of a shoen
abbrev monitors : ℕ → model.Goal → Bool
monitors n g = g.shoen == n && model.is_monitor g.task

pub monitors_read : (t : Means) (n : ℕ) (gs : List (Goal CellName)) → filter (λ g. not (monitors n g)) (map (goal_with t) gs) ≡ map (goal_with t) (filter (no_monitor n) gs)
monitors_read t n gs = filter_each (goal_with t) (λ g. not (monitors n g)) (no_monitor n) (λ g. ap (λ b. not (g.shoen == n && b)) (monitor_read t g.task)) gs

pub has_goal_read : (t : Means) (n : ℕ) (gs : List (Goal CellName)) → list_any (λ g. g.shoen == n && not (model.is_monitor g.task)) (map (goal_with t) gs) ≡ list_any (is_goal_of n) gs
has_goal_read t n gs = any_by (goal_with t) (λ g. g.shoen == n && not (model.is_monitor g.task)) (is_goal_of n) (λ g. ap (λ b. g.shoen == n && not b) (monitor_read t g.task)) gs

pub count_read : (f : Reading) (h : Held CellName) (xs : List (Qualified CellName)) → length (qualified_list f h xs) ≡ length xs
count_read f h [] = refl
count_read f h (x ∷ xs) = ap suc (count_read f h xs)

-- if no shoen was aborted each goal stays
pub all_stay : (gs : List (Goal CellName)) → filter (λ g. not (is_of_any [] g)) gs ≡ gs
all_stay [] = refl
all_stay (g ∷ gs) = ap (λ (xs : List (Goal CellName)). g ∷ xs) (all_stay gs)

-- goals of which some are of shoens that were aborted, as they are read
pub below_read : (t : Means) (p : ℕ → Bool) (aborted : List ℕ) (gs : List (Goal CellName)) → AllByRecursion (λ g. p g.shoen ≡ is_of_any aborted g) gs → filter (λ g. not (p g.shoen)) (map (goal_with t) gs) ≡ map (goal_with t) (filter (λ g. not (is_of_any aborted g)) gs)
below_read t p aborted gs a =
    filter_by (goal_with t) (λ g. not (p g.shoen)) (λ g. not (is_of_any aborted g)) gs
    (all_then (λ (g : Goal CellName). p g.shoen ≡ is_of_any aborted g) (λ g. not (p g.shoen) ≡ not (is_of_any aborted g)) (λ g e. ap not e) gs a)

-- ---- goals of shoens that are below one

-- of the shoens that are there those are found that are below one
pub below_is : (n m : ℕ) (ss : List (Shoen CellName)) (below : List ℕ) → AreBelow ss n below → 0 < m → m ≤ length ss → is_on_path_in ss n m ≡ is_among m below
below_is n m ss below b low high =
    same_from_decides {P = is_among m below ≡ true} (is_on_path_in ss n m) (is_among m below)
    (λ e. among_contains m below ((b.among m).1 (low, high, e)), λ e. ((b.among m).0 (contains_among m below e)).2) (λ e. e, λ e. e)

-- of goals those are of shoens that are below one that are of these
pub below_tells : (n : ℕ) (ss : List (Shoen CellName)) (below : List ℕ) (gs : List (Goal CellName)) → AreBelow ss n below → AreOwned (length ss) gs → AllByRecursion (λ g. is_on_path_in ss n g.shoen ≡ is_of_any below g) gs
below_tells n ss below gs b o =
    all_then (IsOwned (length ss)) (λ g. is_on_path_in ss n g.shoen ≡ is_of_any below g) (λ g own. let high = own.high in below_is n g.shoen ss below b own.low (omega (arith, high))) gs o
