-- What holds of the queue of tickets between any two steps, and what each kind of step adds.
use Rattle.std.specs.Prelude.{◌≡◌, ℕ, ◌+◌, ◌*◌, ◌<◌, ◌≤◌, List, [], sum_by}
use mathlib.Core.Option.{some}
use lib.ListN.{get_elem?}
use Rattle.kl1_tally.specs.declared.amounts.TheConstants.{MOST_ACCOUNTS}
use Rattle.kl1_tally.specs.Numbers.{times}
use Rattle.kl1_pool_tickets.specs.declared.ticket_history.TicketHistory.{TicketHistory}
use Rattle.kl1_pool_tickets.specs.Histories.{all_parts}

-- how many tickets of an account all passes put
abbrev pub tickets_put : ℕ → List TicketHistory → ℕ
tickets_put k views = sum_by (λ (v : TicketHistory). times k v.put) views

-- how many tickets of an account all passes took
abbrev pub tickets_taken : ℕ → List TicketHistory → ℕ
tickets_taken k views = sum_by (λ (v : TicketHistory). times k v.taken) views

-- of each account as many tickets were put as were taken and are in the queue, so no more were taken than put; what is no account has
-- none there; the passes have all parts together, a pass that has all of them has put and taken all, and one without a part nothing
pub record PassesAddUp (items : List ℕ) (views : List TicketHistory) : Type 0 where
  pub tickets : (k : ℕ) → tickets_put k views ≡ tickets_taken k views + times k items
  pub few : (k : ℕ) → tickets_taken k views ≤ tickets_put k views
  pub accounts : (k : ℕ) → MOST_ACCOUNTS ≤ k → times k items ≡ 0
  pub parts : sum_by (λ (v : TicketHistory). v.parts) views ≡ all_parts
  pub whole : (id : ℕ) (v : TicketHistory) → get_elem? views id ≡ some v → v.parts ≡ all_parts → (k : ℕ) → (times k v.put ≡ tickets_put k views) × (times k v.taken ≡ tickets_taken k views)
  pub idle : (id : ℕ) (v : TicketHistory) → get_elem? views id ≡ some v → v.parts ≡ 0 → (v.put ≡ []) × (v.taken ≡ [])

-- each state that a rule allows adds up
abbrev pub RuleAddsUp : (List ℕ → List TicketHistory → Type 0) → Type 0
RuleAddsUp holds = (items : List ℕ) (views : List TicketHistory) → holds items views → PassesAddUp items views

-- a pass put p and took t more tickets that are x's, and nothing else
pub record PassMoved (p t x : ℕ) (old new : TicketHistory) : Type 0 where
  pub parts : new.parts ≡ old.parts
  pub put : (h : ℕ → ℕ) → sum_by h new.put ≡ sum_by h old.put + p * h x
  pub taken : (h : ℕ → ℕ) → sum_by h new.taken ≡ sum_by h old.taken + t * h x

-- whoever puts a ticket put one more, which is that one
abbrev pub PutCountsOne : (TicketHistory → ℕ → TicketHistory → Type 0) → Type 0
PutCountsOne then = (v : TicketHistory) (x : ℕ) (w : TicketHistory) → then v x w → PassMoved 1 0 x v w

-- whoever takes a ticket took one more, which is that one, and an account's
abbrev pub TakeCountsOne : (TicketHistory → ℕ → TicketHistory → Type 0) → Type 0
TakeCountsOne then = (v : TicketHistory) (x : ℕ) (w : TicketHistory) → then v x w → PassMoved 0 1 x v w × (x < MOST_ACCOUNTS)

-- a pass has what two have together: parts, if it has any, and what was put and taken
pub record IsMadeOf (whole one other : TicketHistory) : Type 0 where
  pub parts : 0 < whole.parts → whole.parts ≡ one.parts + other.parts
  pub put : (h : ℕ → ℕ) → sum_by h whole.put ≡ sum_by h one.put + sum_by h other.put
  pub taken : (h : ℕ → ℕ) → sum_by h whole.taken ≡ sum_by h one.taken + sum_by h other.taken

-- whatever pass is cut in two, the two have together what it had
abbrev pub CutKeeps : (TicketHistory → TicketHistory) → (TicketHistory → TicketHistory) → Type 0
CutKeeps left right = (v : TicketHistory) → IsMadeOf v (left v) (right v)

-- whatever two passes are made one, it has what both had, and nothing is left of the other
abbrev pub JoinKeeps : (TicketHistory → TicketHistory → TicketHistory) → TicketHistory → Type 0
JoinKeeps both spent = ((v w : TicketHistory) → IsMadeOf (both v w) v w) × (spent.parts ≡ 0) × (spent.put ≡ []) × (spent.taken ≡ [])
