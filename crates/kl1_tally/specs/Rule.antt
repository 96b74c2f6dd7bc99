-- The rule of the tally.
use Rattle.std.specs.Prelude.{◌≡◌, ℕ, ◌+◌, ◌<◌, ◌≤◌, [], sum_by}
use mathlib.Core.Option.{some}
use lib.ListN.{get_elem?}
use Rattle.atomic_table.specs.Table.{State}
use Rattle.kl1_tally.specs.declared.view.Mark.{Mark}
use Rattle.kl1_tally.specs.declared.view.View.{View}
use Rattle.kl1_tally.specs.Numbers.{times}
use Rattle.kl1_tally.specs.Marks.{events_at}

-- a view without parts has nothing, and in its books stand events of its own accounts alone
pub record IsProper (v : View) : Type 0 where
  pub idle : v.parts ≡ 0 → (v.names ≡ []) × (v.book ≡ []) × (v.amount ≡ [])
  pub own : (k : ℕ) → times k v.names ≡ 0 → events_at k v.book ≡ 0

-- the rule: there is a part for each book and each share, what was counted is what stands in the books, however the marks are
-- weighed, and each account has one book
pub record Even (accounts shares : ℕ) (s : State (Unit {0}) View) : Type 0 where
  pub parts : sum_by (λ (v : View). v.parts) s.views ≡ accounts + shares
  pub even : (h : Mark → ℕ) → sum_by (λ (v : View). sum_by h v.amount) s.views ≡ sum_by (λ (v : View). sum_by h v.book) s.views
  pub one : (k : ℕ) → k < accounts → sum_by (λ (v : View). times k v.names) s.views ≡ 1
  pub none : (k : ℕ) → accounts ≤ k → sum_by (λ (v : View). times k v.names) s.views ≡ 0
  pub proper : (id : ℕ) (v : View) → get_elem? s.views id ≡ some v → IsProper v
