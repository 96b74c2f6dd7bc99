-- What comes after the effects of a goal; if that makes a name, the variable that is to become the name is still unbound.
use Rattle.std.specs.Prelude.{◌≡◌, ℕ, ◌<◌, ◌==◌, not, ◌&&◌, Bool, false, if◌then◌else◌, List, [], ◌∷◌, find, Option, Some, None, option_map}
use Rattle.kl1_model.specs.Term.{Term, variable, integer, atom, structure}
use Rattle.kl1_model.specs.State.{Shoen, State, shoen_at}
use Rattle.kl1_model.specs.Tree.{path}
use Rattle.kl1_model.specs.Report.{broken_at, report, close, exhausted_report, terminated_report}
use Rattle.kl1_model.specs.Ending.{without_monitor, ending_of, newly_exhausted}
use Rattle.kl1_text.specs.Reading.{Reads}
use Rattle.kl1_text.specs.declared.cell_name.CellName.{CellName}
use Rattle.kl1_store.specs.declared.cell.Cell.TheVariants as cell
use Rattle.kl1_store.specs.Held.{Held}
use Rattle.kl1_shoen_paths.specs.declared.shoen.Shoen as kept
use Rattle.kl1_shoen.specs.Shoens.{has_number}
use Rattle.kl1_user_effects.specs.Fitting.{Reading, built}
use Rattle.kl1_user_effects.specs.Account.{meaning, shoen_with}
use Rattle.kl1_user_effects.specs.Endings.{left_at, ended_each}

-- whether a term is variable `v`
abbrev pub is_variable : ℕ → Term → Bool
is_variable v (variable w) = w == v
is_variable v (integer i) = false
is_variable v (atom a) = false
is_variable v (structure f ts) = false

-- whether a shoen has an unbroken report stream whose tail is variable `v`
abbrev pub is_tail_of : ℕ → Option Shoen → Bool
is_tail_of v None = false
is_tail_of v (Some h) = not h.is_broken && is_variable v h.tail

-- whether a shoen has an unbroken report stream whose tail is the variable that becomes a name at the end, if one does
abbrev pub is_late_tail : Option ℕ → Option Shoen → Bool
is_late_tail None h = false
is_late_tail (Some v) h = is_tail_of v h

-- a report of shoen `n`; a stream whose tail becomes a name at the end breaks in place of it
abbrev pub report_late : Option ℕ → ℕ → Term → State → State
report_late v n message s = if is_late_tail v (shoen_at n s.shoens) then broken_at n s else report n message s

-- such a report with this message of each of these shoens, in order
abbrev pub report_each_late : Option ℕ → List ℕ → Term → State → State
report_each_late v [] message s = s
report_each_late v (n ∷ ns) message s = report_each_late v ns message (report_late v n message s)

-- the end of the report stream of shoen `n`: nothing if its tail becomes a name at the end
abbrev pub close_late : Option ℕ → ℕ → State → State
close_late v n s = if is_late_tail v (shoen_at n s.shoens) then s else close n s

-- what is left of a termination after the shoen's life has ended, where a variable may become a name at the end
abbrev pub finished_late : Option ℕ → ℕ → State → State
finished_late v n s = close_late v n (report_late v n terminated_report (left_at n (without_monitor n s)))

-- what is left of the terminations of these shoens, in order
abbrev pub finished_each_late : Option ℕ → List ℕ → State → State
finished_each_late v [] s = s
finished_each_late v (n ∷ ns) s = finished_each_late v ns (finished_late v n s)

-- what comes after the effects of a reduction in a shoen, where a variable may become a name at the end: lives end, reports of
-- exhaustion are made, and then the rest of each termination
abbrev pub settle_charged_late : Option ℕ → ℕ → State → State
settle_charged_late v n s =
    let ns = path s.shoens n in
    let ending = ending_of ns s in
    finished_each_late v ending (report_each_late v (newly_exhausted s ending ns) exhausted_report (ended_each ending s))

-- shoen `n` has no unbroken report stream whose tail is variable `v`
abbrev pub IsNoTail : ℕ → ℕ → Held CellName → List (kept.Shoen CellName) → Type 0
IsNoTail v n h shoens = (f : Reading) → is_tail_of v (option_map (shoen_with (meaning f h)) (find (has_number n) shoens)) ≡ false

-- a variable that nothing was bound to stays so
abbrev pub StaysFree : ℕ → Held CellName → Held CellName → Type 0
StaysFree v old new = (f : Reading) → Reads built f → meaning f old (cell.Variable v) ≡ variable v → meaning f new (cell.Variable v) ≡ variable v

-- each variable does that isn't the tail of the report stream of shoen `n`
abbrev pub KeepsFree : ℕ → List (kept.Shoen CellName) → Held CellName → Held CellName → Type 0
KeepsFree n shoens old new = (v : ℕ) → v < old.variables → IsNoTail v n old shoens → StaysFree v old new

-- the variable that becomes a name at the end, if one does, is one of a store
abbrev pub HasLate : Option ℕ → Held CellName → Type 0
HasLate None h = Unit {0}
HasLate (Some v) h = v < h.variables

-- and it stays as it is
abbrev pub KeepsLate : Option ℕ → Held CellName → Held CellName → Type 0
KeepsLate None old new = Unit {0}
KeepsLate (Some v) old new = StaysFree v old new
