-- What is shown of an account: its shoens, its goals, what they wait for, and how near it is to its limits.
use Rattle.std.specs.Prelude.{◌≡◌, ◌<◌, ◌↔◌, ℕ, zero, suc, ◌==◌, nat_le, not, ◌&&◌, Bool, true, false, List, [], map, filter, take, length, count_by, Contains, Option, Some, None, option_map, option_and_then}
use Rattle.std.proofs.Common.{inl, inr}
use Rattle.std.specs.List.{list_any}
use Rattle.std.specs.List.Sorted.{IsStrictlyIncreasing}
use Rattle.kl1_model.specs.declared.life.Life.{Life}
use Rattle.kl1_model.specs.declared.life.Life.TheVariants.{Living, Terminated, Aborted, Forgotten}
use Rattle.kl1_model.specs.declared.limits.Limits.{Limits}
use Rattle.kl1_model.specs.Term.{Term, occurs}
use Rattle.kl1_model.specs.Print.{print, cut_text, cut_print}
use Rattle.kl1_model.specs.Control.{control_of}
use Rattle.kl1_model.specs.State.{Task, monitor, reduces, substitutes, Goal, Origin, Shoen, State, goal_at, shoen_at, is_monitor, limits_of}
use Rattle.kl1_model.specs.Tree.{charged_of, goals_alive}
use Rattle.kl1_model.specs.Asking.{condition_of, origin_at}
use Rattle.kl1_model.specs.Choice.{can_step}
use Rattle.kl1_model.specs.code.Waits.{awaited_by_control, awaited_by_term, awaited_by_substitute}
use Rattle.kl1_model.specs.code.TermCode.{NodeCode, nodes_of}
use Rattle.kl1_user_events.specs.declared.numbers.ShoenNo.{ShoenNo}
use Rattle.kl1_user_events.specs.declared.shoen_view.ShoenView.{ShoenView}
use Rattle.kl1_user_events.specs.declared.goal_view.TaskKind.{TaskKind}
use Rattle.kl1_user_events.specs.declared.goal_view.TaskKind.TheVariants.{Monitor, Reduces, Substitutes}
use Rattle.kl1_user_events.specs.declared.goal_view.GoalView.{GoalView}
use Rattle.kl1_user_events.specs.declared.goal_view.Extent.{Extent}
use Rattle.kl1_user_events.specs.declared.goal_view.Extent.TheVariants.{Cut, AtMost, Whole}
use Rattle.kl1_user_events.specs.declared.goal_view.Presence.{Presence}
use Rattle.kl1_user_events.specs.declared.goal_view.Presence.TheVariants.{Present, Absent, Unknown}
use Rattle.kl1_user_events.specs.declared.usage.Used.{Used}
use Rattle.kl1_user_events.specs.declared.usage.Usage.{Usage}

-- a parent's number, or none if it is 0: the console started the shoen
abbrev pub parent_shown : ℕ → Option ShoenNo
parent_shown zero = None
parent_shown (suc n) = Some (record { 0 = suc n })

-- whether a goal is of a shoen, and not its monitor
abbrev pub is_goal_in : ℕ → Goal → Bool
is_goal_in n g = g.shoen == n && not (is_monitor g.task)

-- how many goals a shoen has other than its monitor
abbrev pub goals_in : State → ℕ → ℕ
goals_in s n = count_by (is_goal_in n) s.goals

-- what is shown of a shoen
abbrev pub shoen_view : State → Shoen → ShoenView
shoen_view s h = record {
  number = record { 0 = h.number };
  parent = parent_shown h.parent;
  condition = condition_of s h;
  charged = charged_of s h.number;
  allowance = h.allowance;
  alive = goals_in s h.number;
}

-- whether a shoen wasn't let go
abbrev pub is_kept : Life → Bool
is_kept Living = true
is_kept Terminated = true
is_kept Aborted = true
is_kept Forgotten = false

-- what is shown of the shoens with numbers from this one on that weren't let go, of the first `count` of them
abbrev pub shoen_page : State → ℕ → ℕ → List ShoenView
shoen_page s from count = map (shoen_view s) (take count (filter (λ h. nat_le from h.number && is_kept h.life) s.shoens))

-- what a goal does
abbrev pub kind_of : Task → TaskKind
kind_of monitor = Monitor
kind_of (reduces t) = Reduces
kind_of (substitutes t) = Substitutes

-- what is shown of a goal
abbrev pub goal_view : State → Goal → GoalView
goal_view s g = record {
  number = record { 0 = g.number };
  shoen = record { 0 = g.shoen };
  priority = g.priority;
  task = kind_of g.task;
  can_step = can_step s g;
}

-- what is shown of the goals with numbers from this one on, of the first `count` of them
abbrev pub goal_page : State → ℕ → ℕ → List GoalView
goal_page s from count = map (goal_view s) (take count (filter (λ g. nat_le from g.number) s.goals))

-- the term of a task: a goal to be reduced, or what a substitute waits for; a monitor has none
abbrev pub term_in : Task → Option Term
term_in monitor = None
term_in (reduces t) = Some t
term_in (substitutes t) = Some t

-- the term of goal `n`, if there is such a goal and it is no monitor
abbrev pub goal_term : State → ℕ → Option Term
goal_term s n = option_and_then (λ g. term_in g.task) (goal_at n s.goals)

-- as much of a term's text as is shown
abbrev pub text_of : Extent → Term → List ℕ
text_of Cut t = cut_print t
text_of (AtMost most) t = cut_text most (print t)
text_of Whole t = print t

-- as much as is shown of what the console keeps
abbrev pub kept_text : Extent → Option Origin → Option (List ℕ)
kept_text e o = option_map (λ kept. text_of e kept.goal) o

-- as much as is shown of the goal of shoen `n`, which the console started, with what is bound now
abbrev pub value_text : Extent → State → ℕ → Option (List ℕ)
value_text e s n = kept_text e (origin_at n s.shoens)

-- what is shown of the term of goal `n`, if there is such a goal and it is no monitor
abbrev pub goal_text : Extent → State → ℕ → Option (List ℕ)
goal_text e s n = option_map (text_of e) (goal_term s n)

-- the variable that the monitor of this shoen waits for
abbrev pub awaited_by_monitor : Option Shoen → List ℕ
awaited_by_monitor None = []
awaited_by_monitor (Some h) = awaited_by_control (control_of h.control)

-- the variables that a goal with this task waits for, in shoen `n`
abbrev pub awaited_by_task : State → ℕ → Task → List ℕ
awaited_by_task s n monitor = awaited_by_monitor (shoen_at n s.shoens)
awaited_by_task s n (reduces t) = awaited_by_term s.rules s.modules t
awaited_by_task s n (substitutes t) = awaited_by_substitute t

-- the variables that a goal waits for
abbrev pub awaited_by_goal : State → Goal → List ℕ
awaited_by_goal s g = awaited_by_task s g.shoen g.task

-- these are the numbers of a list, once each in increasing order
pub record AreListed (ns all : List ℕ) : Type 0 where
  pub increasing : IsStrictlyIncreasing ns
  pub each : (n : ℕ) → Contains ns n ↔ Contains all n

-- numbers are those of a list, if there is one
abbrev pub AreListedOf : Option (List ℕ) → Option (List ℕ) → Type 0
AreListedOf None None = Unit {0}
AreListedOf None (Some all) = ⊥
AreListedOf (Some ns) None = ⊥
AreListedOf (Some ns) (Some all) = AreListed ns all

-- the variables that goal `n` waits for, once each in increasing order; none are given if there is no such goal
abbrev pub AreAwaited : State → ℕ → Option (List ℕ) → Type 0
AreAwaited s n shown = AreListedOf shown (option_map (awaited_by_goal s) (goal_at n s.goals))

-- whether a part of a term is variable `v`
abbrev pub is_variable_part : ℕ → NodeCode → Bool
is_variable_part v (inl (inl n)) = v == n
is_variable_part v (inl (inr i)) = false
is_variable_part v (inr c) = false

-- a term has more than `most` parts, and the first `most` of them in the order of reading aren't variable `v`
pub record IsLookedAt (v most : ℕ) (t : Term) : Type 0 where
  pub larger : most < length (nodes_of t)
  pub without : list_any (is_variable_part v) (take most (nodes_of t)) ≡ false

-- what is known of whether variable `v` is in a term, after `most` parts of it were looked at or all of them
abbrev pub IsPresence : ℕ → ℕ → Option Term → Presence → Type 0
IsPresence v most None Present = ⊥
IsPresence v most None Absent = Unit {0}
IsPresence v most None Unknown = ⊥
IsPresence v most (Some t) Present = occurs v t ≡ true
IsPresence v most (Some t) Absent = occurs v t ≡ false
IsPresence v most (Some t) Unknown = IsLookedAt v most t

-- what there is beside the most that there may be
abbrev pub used : ℕ → ℕ → Used
used count most = record { count = count; most = most }

-- what an account has of what is limited, if these are the limits of its rules
abbrev pub usage_by : Limits → State → Usage
usage_by limits s = record {
  goals = used (goals_alive s) limits.goals;
  names = used (length s.names) limits.names;
  shoens = used s.last_shoen limits.shoens;
  variables = used s.variables limits.variables;
  structures = used s.nodes limits.nodes;
  reports = used s.reports limits.reports;
  entries = used s.entries limits.entries;
}

-- what an account has of what is limited
abbrev pub usage_of : State → Usage
usage_of s = usage_by (limits_of s.rules) s
