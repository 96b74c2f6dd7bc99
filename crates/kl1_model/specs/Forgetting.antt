-- Reports and shoens that are let go.
use Rattle.std.specs.Prelude.{ℕ, zero, suc, ◌+◌, ◌-◌, nat_le, nat_lt, not, ◌&&◌, Bool, true, false, if◌then◌else◌, List, [], ◌∷◌, length, map, take, codes, bytes_eq, Option, Some, None, is_some}
use Rattle.std.specs.List.{list_any}
use Rattle.kl1_model.specs.declared.life.Life.TheVariants.{Forgotten}
use Rattle.kl1_model.specs.Term.{Term, structure, none, more}
use Rattle.kl1_model.specs.Meaning.{nil}
use Rattle.kl1_model.specs.State.{Origin, Shoen, State, change_shoen, is_living}
use Rattle.kl1_model.specs.Tree.{is_on_path}
use Rattle.kl1_model.specs.Event.{no_shoen, journal_full, answer_refused, forgot, Transition, refuse, unless, is_full, with_entry, is_number}
use Rattle.kl1_model.specs.Asking.{elements_of}
use Rattle.kl1_model.specs.Answering.{unanswered}

-- whether a letting go has numbers in range
abbrev pub may_forget : ℕ → ℕ → Bool
may_forget n count = is_number n && is_number count

-- a list without its first `count` cells
abbrev pub without_cells : ℕ → Term → Term
without_cells zero t = t
without_cells (suc count) (structure f (more h (more t none))) = if bytes_eq f (codes ".") then without_cells count t else structure f (more h (more t none))
without_cells (suc count) t = t

-- whether a substitute waits by a report
abbrev pub waits : Term → Bool
waits report = is_some (unanswered report)

-- whether the first `count` reports of a shoen can be let go: that is more than were, they are there, and a living shoen waits by none of them
abbrev pub can_go : ℕ → Shoen → Origin → Bool
can_go count h o =
    let there = elements_of o.reports in
    nat_lt o.forgotten count && nat_le count (o.forgotten + length there) && not (is_living h.life && list_any waits (take (count - o.forgotten) there))

-- what the console keeps of a shoen, without its first `count` reports
abbrev pub without_reports : ℕ → Origin → Origin
without_reports count o = record o { forgotten = count; reports = without_cells (count - o.forgotten) o.reports }

-- what the console keeps of a shoen changed
abbrev pub with_origin : Origin → Shoen → Shoen
with_origin o h = record h { origin = Some o }

-- the place of a shoen that was let go: its number isn't given again, and what it was charged and its allowance stay counted
abbrev pub empty_place : Shoen → Shoen
empty_place h = record h { life = Forgotten; is_stopped = false; low = 0; high = 0; control = nil; tail = nil; is_broken = true; origin = None }

-- a shoen after shoen `n` is let go: its place, if it has ended and `n` is on its path
abbrev pub gone_below : List Shoen → ℕ → Shoen → Shoen
gone_below shoens n h = if not (is_living h.life) && is_on_path shoens n h.number then empty_place h else h

-- an account without a shoen that has ended, and without all below it; what they were charged stays counted
abbrev pub without_shoen : ℕ → State → State
without_shoen n s = record s { shoens = map (gone_below s.shoens n) s.shoens }

-- the account after the first `count` reports of a shoen are let go, or the shoen itself if `count` is 0
abbrev pub gone : ℕ → ℕ → Origin → State → State
gone n zero o s = without_shoen n s
gone n (suc count) o s = change_shoen n (with_origin (without_reports (suc count) o)) s

-- whether that can go: a shoen that has ended, or reports
abbrev pub may_go : ℕ → Shoen → Origin → Bool
may_go zero h o = not (is_living h.life)
may_go (suc count) h o = can_go (suc count) h o

-- a letting go of a shoen by what the console keeps of it
abbrev pub forget_by : State → ℕ → ℕ → Shoen → Option Origin → Transition
forget_by s n count h None = refuse s no_shoen
forget_by s n count h (Some o) =
    unless s ((is_full s, journal_full) ∷ (not (may_go count h o), answer_refused) ∷ []) (record { state = with_entry (gone n count o s); reply = forgot })

-- a letting go of a shoen that may be there
abbrev pub forget_of : State → ℕ → ℕ → Option Shoen → Transition
forget_of s n count None = refuse s no_shoen
forget_of s n count (Some h) = forget_by s n count h h.origin
