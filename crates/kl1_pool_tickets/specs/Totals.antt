-- What all shares add up to.
use Rattle.std.specs.Prelude.{◌≡◌, ℕ, ◌+◌, ◌*◌, ◌<◌, ◌≤◌, ◌^◌, List, length, slice_index, sum_by}
use Rattle.kl1_tally.specs.declared.amounts.TheConstants.{MOST_ACCOUNTS}
use Rattle.kl1_tally.specs.Numbers.{times}
use Rattle.kl1_tally.specs.Seats.{Share}
use Rattle.kl1_pool_tickets.specs.declared.ticket_history.TicketHistory.{TicketHistory}
use Rattle.kl1_pool_tickets.specs.declared.totals.Totals.{Totals}
use Rattle.kl1_pool_tickets.specs.Counts.{Counts}

-- events and steps of each account, and its tickets put and taken, are the sums of all shares; what was put was taken or is left
pub record Gathered (shares : List Counts) (totals : Totals) : Type 0 where
  pub events : (k : ℕ) → k < MOST_ACCOUNTS → slice_index totals.events k ≡ sum_by (λ (c : Counts). slice_index c.events k) shares
  pub steps : (k : ℕ) → k < MOST_ACCOUNTS → slice_index totals.steps k ≡ sum_by (λ (c : Counts). slice_index c.steps k) shares
  pub puts : (k : ℕ) → k < MOST_ACCOUNTS → slice_index totals.puts k ≡ sum_by (λ (c : Counts). slice_index c.puts k) shares
  pub takes : (k : ℕ) → k < MOST_ACCOUNTS → slice_index totals.takes k ≡ sum_by (λ (c : Counts). slice_index c.takes k) shares
  pub left : (k : ℕ) → k < MOST_ACCOUNTS → slice_index totals.puts k ≡ slice_index totals.takes k + slice_index totals.left k

-- some shares were taken apart, of all but those that are left: their seats, their passes and the sums of their tickets are here
pub record TookIn (all left : List Counts) (seats : List Share) (before v : TicketHistory) (puts takes : List ℕ) : Type 0 where
  pub parts : v.parts + length left ≡ before.parts + length all
  pub count : length seats + length left ≡ length all
  pub events : (k : ℕ) → sum_by (λ (s : Share). slice_index s.events k) seats + sum_by (λ (c : Counts). slice_index c.events k) left ≡ sum_by (λ (c : Counts). slice_index c.events k) all
  pub steps : (k : ℕ) → sum_by (λ (s : Share). slice_index s.steps k) seats + sum_by (λ (c : Counts). slice_index c.steps k) left ≡ sum_by (λ (c : Counts). slice_index c.steps k) all
  pub puts_are : (k : ℕ) → k < MOST_ACCOUNTS → slice_index puts k + sum_by (λ (c : Counts). slice_index c.puts k) left ≡ sum_by (λ (c : Counts). slice_index c.puts k) all
  pub takes_are : (k : ℕ) → k < MOST_ACCOUNTS → slice_index takes k + sum_by (λ (c : Counts). slice_index c.takes k) left ≡ sum_by (λ (c : Counts). slice_index c.takes k) all
  pub put : (k : ℕ) → k < MOST_ACCOUNTS → slice_index puts k ≡ times k v.put
  pub taken : (k : ℕ) → k < MOST_ACCOUNTS → slice_index takes k ≡ times k v.taken
  pub few_puts : (k : ℕ) → k < MOST_ACCOUNTS → slice_index puts k ≤ 2 ^ 63 * length seats
  pub few_takes : (k : ℕ) → k < MOST_ACCOUNTS → slice_index takes k ≤ 2 ^ 63 * length seats
