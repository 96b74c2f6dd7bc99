-- What messages to a shoen make of drafts, and the child that opens.
use Rattle.kl1_user_effects.proofs.Words.{◌≡◌, ℕ, ◌&&◌, true, false, if◌then◌else◌, Bool, List, [], ◌∷◌, map, inl, inr, ap, Some, State, change_shoen, is_living, report, stopped_report, resumed_report, grown, stopped_of, resumed_of, CellName, Cell, Held, Shoen, is_on_path_in, aborted_below_in, Means, shoen_with, AreShoensIn, cases_Bool, ExecuteArguments, Goal, IsOrder, Living, None, length, suc, Rules, left_by}
use Rattle.kl1_user_effects.proofs.Leaving.{control_in}

pub aborted_in : (rules : Rules) (h : Held CellName) (all : List (Shoen CellName)) (n : ℕ) (ss : List (Shoen CellName)) → AreShoensIn h ss → AreShoensIn h (map (aborted_below_in (left_by rules) all n) ss)
aborted_in rules h all n [] i = tt
aborted_in rules h all n (s ∷ ss) i = elim (cases_Bool (is_living s.life && is_on_path_in all n s.number)) [
  | inl p ↦ rw p (record { control = control_in rules h s i.0; tail = i.0.tail; origin = i.0.origin; low = i.0.low; high = i.0.high }, aborted_in rules h all n ss i.1)
  | inr p ↦ rw p (i.0, aborted_in rules h all n ss i.1)
]

-- a shoen that is stopped, or not
abbrev pub halted : Bool → Shoen CellName → Shoen CellName
halted b h = record h { is_stopped = b }

-- what is stopped already stays so
pub is_stopped_already : (sh : Shoen CellName) (n : ℕ) → sh.is_stopped ≡ true → (t : Means) (s : State) → stopped_of (Some (shoen_with t sh)) n s ≡ s
is_stopped_already sh n e t s = ap (λ b. if b then s else report n stopped_report (change_shoen n (λ h. record h { is_stopped = true }) s)) e

pub goes_on_already : (sh : Shoen CellName) (n : ℕ) → sh.is_stopped ≡ false → (t : Means) (s : State) → resumed_of (Some (shoen_with t sh)) n s ≡ s
goes_on_already sh n e t s = ap (λ b. if b then report n resumed_report (change_shoen n (λ h. record h { is_stopped = false }) s) else s) e

-- a shoen whose allowance grows
abbrev pub allowing : ℕ → Shoen CellName → Shoen CellName
allowing extra h = record h { allowance = grown h.allowance extra }

-- ---- what monitors read

-- what is left of a control stream
abbrev pub controlled : Cell CellName → Shoen CellName → Shoen CellName
controlled x h = record h { control = x }

-- ---- a shoen that opens

-- the child of a shoen, as it is kept
abbrev pub child_of : List (Shoen CellName) → Goal CellName → ExecuteArguments CellName → ℕ → ℕ → ℕ → Shoen CellName
child_of ss goal o allowance low high = record {
  number = suc (length ss);
  parent = goal.shoen;
  allowance = allowance;
  low = low;
  high = high;
  control = o.control;
  tail = o.reports;
  life = Living;
  is_stopped = false;
  is_broken = false;
  origin = None;
}

-- the arguments of a structure are one order
pub one_order : (h : Held CellName) (s : ℕ) (p o : ExecuteArguments CellName) → IsOrder h s o → IsOrder h s p → p ≡ o
one_order h s p o a b =
    let whole : ExecuteArguments CellName → ExecuteArguments CellName = λ x. record { goal = x.goal; low = x.low; high = x.high; allowance = x.allowance; control = x.control; reports = x.reports } in
    let is : whole p ≡ whole o = cc in
    is
