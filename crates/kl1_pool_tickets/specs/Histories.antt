-- What passes of the queue of tickets know, and the rule of the queue.
use Rattle.std.specs.Prelude.{◌≡◌, ℕ, ◌+◌, ◌^◌, ◌≤◌, nat_lt, cond, List, [], sum_by}
use mathlib.Core.Option.{some}
use lib.ListN.{get_elem?}
use Rattle.kl1_tally.specs.declared.amounts.TheConstants.{MOST_ACCOUNTS}
use Rattle.kl1_pool_tickets.specs.declared.ticket_history.TicketHistory.{TicketHistory}

-- what a pass knows, by its parts and the accounts whose tickets it put and took
abbrev pub history : ℕ → List ℕ → List ℕ → TicketHistory
history parts put taken = record { parts = parts; put = put; taken = taken }

-- the parts of all passes together
abbrev pub all_parts : ℕ
all_parts = 2 ^ 64

-- 1 for a number that is no account's, else 0
abbrev pub beyond : ℕ → ℕ
beyond x = cond (nat_lt x MOST_ACCOUNTS) 0 1

-- the rule: the parts of all passes are all parts; what was put is what was taken and what the queue holds, however tickets are
-- weighed; each ticket is an account's; and a pass without parts put and took nothing
pub record Balanced (items : List ℕ) (views : List TicketHistory) : Type 0 where
  pub parts : sum_by (λ (v : TicketHistory). v.parts) views ≡ all_parts
  pub even : (h : ℕ → ℕ) → sum_by (λ (v : TicketHistory). sum_by h v.put) views ≡ sum_by (λ (v : TicketHistory). sum_by h v.taken) views + sum_by h items
  pub fits : sum_by beyond items ≡ 0
  pub idle : (id : ℕ) (v : TicketHistory) → get_elem? views id ≡ some v → v.parts ≡ 0 → (v.put ≡ []) × (v.taken ≡ [])

-- a pass with all parts took of each account at most what it put
abbrev pub HasAll : TicketHistory → Type 0
HasAll v = v.parts ≡ all_parts → (h : ℕ → ℕ) → sum_by h v.taken ≤ sum_by h v.put
