-- Accounts with other numbers for their variables, in the same order: what is done to them comes to the same, with these numbers.
use Rattle.std.specs.Prelude.{◌≡◌, ℕ, ◌+◌, ◌<◌, Bool, true, false, List, map, Option, option_map}
use Rattle.kl1_model.specs.Term.{Term, variable, Terms, substituted, each_substituted, Replacement}
use Rattle.kl1_model.specs.Unify.{Equation, mgu}
use Rattle.kl1_model.specs.Module.{Clause}
use Rattle.kl1_model.specs.Answer.{Answer, yes, no, wait}
use Rattle.kl1_model.specs.Match.{Match, match_patterns, verdict}
use Rattle.kl1_model.specs.Found.{Found, found, awaits, wrong}
use Rattle.kl1_model.specs.State.{Task, monitor, reduces, substitutes, Goal, Origin, Shoen, State, has_told}
use Rattle.kl1_model.specs.Event.{Event, read, reset, answer, Transition}
use Rattle.kl1_model.specs.Telling.{Asked, Given}
use Rattle.kl1_model.specs.Answering.{given, answer_with}
use Rattle.kl1_model.specs.Choice.{first, quiet, is_in_run}
use Rattle.kl1_model.specs.Step.{step}

-- greater numbers become greater ones
abbrev pub IsIncreasing : (ℕ → ℕ) → Type 0
IsIncreasing g = (v w : ℕ) → v < w → g v < g w

-- numbers from the last on are all shifted by as many
abbrev pub ShiftsFrom : (ℕ → ℕ) → ℕ → Type 0
ShiftsFrom g last = (n : ℕ) → g (last + n) ≡ g last + n

-- ---- with other numbers

-- a term
abbrev pub renamed : (ℕ → ℕ) → Term → Term
renamed g t = substituted (λ v. variable (g v)) t

-- arguments
abbrev pub each_renamed : (ℕ → ℕ) → Terms → Terms
each_renamed g ts = each_substituted (λ v. variable (g v)) ts

-- an equation
abbrev pub equation_renamed : (ℕ → ℕ) → Equation → Equation
equation_renamed g e = record { left = renamed g e.left; right = renamed g e.right }

-- a replacement
abbrev pub replacement_renamed : (ℕ → ℕ) → Replacement → Replacement
replacement_renamed g r = record { number = g r.number; by = renamed g r.by }

-- a place of a head's variable: the variable is the clause's
abbrev pub place_renamed : (ℕ → ℕ) → Replacement → Replacement
place_renamed g p = record { number = p.number; by = renamed g p.by }

-- an answer
abbrev pub answer_renamed : (ℕ → ℕ) → Answer → Answer
answer_renamed g yes = yes
answer_renamed g no = no
answer_renamed g (wait vs) = wait (map g vs)

-- a match
abbrev pub match_renamed : (ℕ → ℕ) → Match → Match
match_renamed g m = record { answer = answer_renamed g m.answer; places = map (place_renamed g) m.places }

-- what a look finds that has no terms
abbrev pub found_renamed : {A : Type 0} → (ℕ → ℕ) → Found A → Found A
found_renamed g (found a) = found a
found_renamed g (awaits v) = awaits (g v)
found_renamed g wrong = wrong

-- a task
abbrev pub task_renamed : (ℕ → ℕ) → Task → Task
task_renamed g monitor = monitor
task_renamed g (reduces t) = reduces (renamed g t)
task_renamed g (substitutes t) = substitutes (renamed g t)

-- a goal
abbrev pub goal_renamed : (ℕ → ℕ) → Goal → Goal
goal_renamed g k = record k { task = task_renamed g k.task }

-- what the console keeps
abbrev pub origin_renamed : (ℕ → ℕ) → Origin → Origin
origin_renamed g o = record o { goal = renamed g o.goal; reports = renamed g o.reports; control = renamed g o.control }

-- a shoen
abbrev pub shoen_renamed : (ℕ → ℕ) → Shoen → Shoen
shoen_renamed g h = record h { control = renamed g h.control; tail = renamed g h.tail; origin = option_map (origin_renamed g) h.origin }

-- an account
abbrev pub relabelled : (ℕ → ℕ) → State → State
relabelled g s = record s { goals = map (goal_renamed g) s.goals; shoens = map (shoen_renamed g) s.shoens; last_variable = g s.last_variable }

-- an account after an event, with the reply
abbrev pub transition_relabelled : (ℕ → ℕ) → Transition → Transition
transition_relabelled g x = record { state = relabelled g x.state; reply = x.reply }

-- an exception that an answer is for
abbrev pub asked_renamed : (ℕ → ℕ) → Asked → Asked
asked_renamed g a = record { goal = renamed g a.goal; new = g a.new }

-- ---- laws

-- equations with other numbers in the same order are solved by the same replacements, with these numbers
abbrev pub MguRenamed : Type 0
MguRenamed = (g : ℕ → ℕ) (es : List Equation) → IsIncreasing g → mgu (map (equation_renamed g) es) ≡ option_map (map (replacement_renamed g)) (mgu es)

-- patterns beside terms with other numbers match as before, in whatever order these are
abbrev pub MatchRenamed : Type 0
MatchRenamed = (g : ℕ → ℕ) (ps ts : Terms) → match_patterns ps (each_renamed g ts) ≡ match_renamed g (match_patterns ps ts)

-- the verdict of a clause is what it was, and it waits for the same variables, with these numbers
abbrev pub VerdictRenamed : Type 0
VerdictRenamed = (g : ℕ → ℕ) (c : Clause) (ts : Terms) → IsIncreasing g → verdict c (each_renamed g ts) ≡ answer_renamed g (verdict c ts)

-- whether an event is told to an account with its numbers as they are: it isn't a query, whose reply shows them, nor an answer by rules by
-- which that may tell variables by their numbers
abbrev pub IsBlind : State → Event → Type 0
IsBlind s (read q) = ⊥
IsBlind s (answer n report t) = has_told s.rules ≡ false
IsBlind s e = Unit {0}

-- what an event does, and the reply, are the same with other numbers in the same order, if those after the last are shifted
abbrev pub StepRelabelled : Type 0
StepRelabelled =
    (g : ℕ → ℕ) (s : State) (e : Event) → IsIncreasing g → g 0 ≡ 0 → ShiftsFrom g s.last_variable → IsBlind s e →
    step (relabelled g s) e ≡ transition_relabelled g (step s e)

-- whether an event begins an account anew
abbrev pub is_reset : Event → Bool
is_reset reset = true
is_reset e = false

-- and the numbers after the last are still shifted, unless the account begins anew
abbrev pub ShiftsStay : Type 0
ShiftsStay =
    (g : ℕ → ℕ) (s : State) (e : Event) → IsIncreasing g → ShiftsFrom g s.last_variable → IsBlind s e → is_reset e ≡ false → ShiftsFrom g (step s e).state.last_variable

-- the first reduction is the same
abbrev pub FirstRelabelled : Type 0
FirstRelabelled = (g : ℕ → ℕ) (s : State) → IsIncreasing g → first (relabelled g s) ≡ first s

-- no goal can step exactly if none could
abbrev pub QuietRelabelled : Type 0
QuietRelabelled = (g : ℕ → ℕ) (s : State) → IsIncreasing g → quiet (relabelled g s) ≡ quiet s

-- and a reduction is noted in a run exactly if it was
abbrev pub RunRelabelled : Type 0
RunRelabelled = (g : ℕ → ℕ) (s : State) (goal clause : ℕ) → IsIncreasing g → is_in_run (relabelled g s) goal clause ≡ is_in_run s goal clause

-- an answer that tells variables: the goal that it comes to in the account with other numbers is one of the account's own with these numbers
abbrev pub GivenIsRenamed : Type 0
GivenIsRenamed =
    (g : ℕ → ℕ) (s : State) (a : Option Asked) (t : Term) → IsIncreasing g → ShiftsFrom g s.last_variable → has_told s.rules ≡ true →
    (u : Term) × (renamed g u ≡ (given (relabelled g s) (option_map (asked_renamed g) a) t).goal)

-- and then what the answer does is the same with that goal
abbrev pub AnswerRelabelled : Type 0
AnswerRelabelled =
    (g : ℕ → ℕ) (s : State) (a : Option Asked) (t u : Term) (there : Given) → IsIncreasing g → ShiftsFrom g s.last_variable → renamed g u ≡ there.goal →
    answer_with (relabelled g s) there t (option_map (asked_renamed g) a) ≡ transition_relabelled g (answer_with s (record there { goal = u }) t a)
