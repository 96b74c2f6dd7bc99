-- What holds of the tally between any two steps, and what each kind of step adds.
use Rattle.std.specs.Prelude.{◌≡◌, ℕ, ◌+◌, ◌<◌, ◌≤◌, Bool, [], sum_by}
use mathlib.Core.Option.{some}
use lib.ListN.{get_elem?}
use Rattle.atomic_table.specs.Table.{State, Step, Me}
use Rattle.kl1_tally.specs.declared.law.Sizes.{Sizes}
use Rattle.kl1_tally.specs.declared.view.Mark.{Mark}
use Rattle.kl1_tally.specs.declared.view.View.{View}
use Rattle.kl1_tally.specs.Numbers.{times}
use Rattle.kl1_tally.specs.Marks.{events_at, steps_at}
use Rattle.kl1_tally.specs.Plays.{account_of}

-- how many events of an account all seats counted
abbrev pub events_counted : ℕ → State (Unit {0}) View → ℕ
events_counted k s = sum_by (λ (v : View). events_at k v.amount) s.views

-- how many steps of an account all seats counted
abbrev pub steps_counted : ℕ → State (Unit {0}) View → ℕ
steps_counted k s = sum_by (λ (v : View). steps_at k v.amount) s.views

-- a seat has an account's book, in which stands what all seats counted of that account
pub record HasBook (k : ℕ) (s : State (Unit {0}) View) (v : View) : Type 0 where
  pub one : times k v.names ≡ 1
  pub events : events_at k v.book ≡ events_counted k s
  pub steps : steps_at k v.book ≡ steps_counted k s

-- the book of each account is with one seat, and in it stands what all seats counted of the account; of what is no account nobody
-- counted anything; a seat has events of no other account than those whose books it has; there are as many parts as books and shares,
-- and a seat without a part has nothing
pub record AddsUp (accounts shares : ℕ) (s : State (Unit {0}) View) : Type 0 where
  pub book : (k : ℕ) → k < accounts → (id : ℕ) × (v : View) × (get_elem? s.views id ≡ some v) × HasBook k s v
  pub once : (k : ℕ) → sum_by (λ (v : View). times k v.names) s.views ≤ 1
  pub none : (k : ℕ) → accounts ≤ k → events_counted k s ≡ 0
  pub own : (id : ℕ) (v : View) (k : ℕ) → get_elem? s.views id ≡ some v → times k v.names ≡ 0 → events_at k v.book ≡ 0
  pub parts : sum_by (λ (v : View). v.parts) s.views ≡ accounts + shares
  pub idle : (id : ℕ) (v : View) → get_elem? s.views id ≡ some v → v.parts ≡ 0 → (v.names ≡ []) × (v.book ≡ []) × (v.amount ≡ [])

-- each state that a rule allows adds up
abbrev pub RuleAddsUp : (Sizes → State (Unit {0}) View → Type 0) → Type 0
RuleAddsUp holds = (sizes : Sizes) (s : State (Unit {0}) View) → holds sizes s → AddsUp sizes.accounts sizes.shares s

-- one event more of a seat's own account, which is a step or not, in its book and in what it counted; and nothing else
pub record CountsOne (up : Bool) (old new : View) : Type 0 where
  pub parts : new.parts ≡ old.parts
  pub names : new.names ≡ old.names
  pub book : (h : Mark → ℕ) → sum_by h new.book ≡ sum_by h old.book + h record { account = account_of old; step = up }
  pub amount : (h : Mark → ℕ) → sum_by h new.amount ≡ sum_by h old.amount + h record { account = account_of old; step = up }

-- each step of a kind counts one event
abbrev pub StepCountsOne : Bool → (Step (Unit {0}) → Me (Unit {0}) View → ℕ → Me (Unit {0}) View → Type 0) → Type 0
StepCountsOne up then = (step : Step (Unit {0})) (before after : Me (Unit {0}) View) (found : ℕ) → then step before found after → CountsOne up before.0 after.0

-- a seat has what two have together: parts, if it has any, books, what stands there, and what was counted
pub record IsMadeOf (whole one other : View) : Type 0 where
  pub parts : 0 < whole.parts → whole.parts ≡ one.parts + other.parts
  pub names : (k : ℕ) → times k whole.names ≡ times k one.names + times k other.names
  pub book : (h : Mark → ℕ) → sum_by h whole.book ≡ sum_by h one.book + sum_by h other.book
  pub amount : (h : Mark → ℕ) → sum_by h whole.amount ≡ sum_by h one.amount + sum_by h other.amount

-- whatever seat is cut in two, the two parts have together what it had
abbrev pub CutKeeps : (View → View) → (View → View) → Type 0
CutKeeps left right = (v : View) → IsMadeOf v (left v) (right v)

-- whatever two seats are made one, it has what both had, and nothing is left of the other
abbrev pub JoinKeeps : (View → View → View) → View → Type 0
JoinKeeps both spent = ((v w : View) → IsMadeOf (both v w) v w) × (spent.parts ≡ 0) × (spent.names ≡ []) × (spent.book ≡ []) × (spent.amount ≡ [])
