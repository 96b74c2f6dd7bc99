-- Reports that are let go.
use Rattle.std.specs.Prelude.{◌≡◌, ℕ, nat_le, not, ◌&&◌, Bool, true, List, length, take}
use Rattle.std.specs.List.{list_any}
use Rattle.kl1_model.specs.Term.{Term}
use Rattle.kl1_model.specs.Asking.{elements_of}
use Rattle.kl1_model.specs.Forgetting.{waits, without_cells}
use Rattle.kl1_store.specs.declared.cell.Cell.{Cell}
use Rattle.kl1_store.specs.Held.{Held}
use Rattle.kl1_store.specs.Meaning.{term_of}

-- whether the first `count` of reports are there, and, where substitutes wait, none waits by one of them
abbrev pub may_leave : Bool → ℕ → Term → Bool
may_leave lives count reports = nat_le count (length (elements_of reports)) && not (lives && list_any waits (take count (elements_of reports)))

-- they may be let go, and this is left of the stream after them
pub record LeavesAfter {N : Type 0} (f : N → List ℕ) (h : Held N) (lives : Bool) (count : ℕ) (reports : Term) (x : Cell N) : Type 0 where
  pub may : may_leave lives count reports ≡ true
  pub left : term_of f h x ≡ without_cells count reports
