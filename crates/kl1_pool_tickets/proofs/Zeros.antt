-- Rows of zeros, one for each account that there may be.
use Rattle.std.proofs.Common.{◌≡◌, ℕ, zero, suc, List, [], length, replicate, slice_index, refl, sym, ap, ◌∙◌, arith}
use Rattle.std.specs.Prelude.{sum_by}
use Rattle.kl1_tally.specs.declared.amounts.TheConstants.{MOST_ACCOUNTS}
use Rattle.kl1_tally.specs.Numbers.{times}
use Rattle.kl1_tally.specs.Seats.{Share}
use Rattle.kl1_pool_tickets.specs.declared.ticket_history.TicketHistory.{TicketHistory}
use Rattle.kl1_pool_tickets.specs.Counts.{Counts, Keeps}
use Rattle.kl1_pool_tickets.specs.Totals.{TookIn}

pub zeros_at : (n k : ℕ) → slice_index (replicate n 0) k ≡ 0
zeros_at zero k = refl
zeros_at (suc n) zero = refl
zeros_at (suc n) (suc k) = zeros_at n k

pub zeros_length : (n : ℕ) → length {A = ℕ} (replicate n 0) ≡ n
zeros_length zero = refl
zeros_length (suc n) = ap suc (zeros_length n)

-- a pass that put and took nothing
pub keeps_none : (v : TicketHistory) → v.put ≡ [] → v.taken ≡ [] → Keeps (replicate MOST_ACCOUNTS 0) (replicate MOST_ACCOUNTS 0) v
keeps_none v put taken = record {
  put_size = zeros_length MOST_ACCOUNTS;
  take_size = zeros_length MOST_ACCOUNTS;
  put_are = λ k below. zeros_at MOST_ACCOUNTS k ∙ sym (ap (times k) put);
  take_are = λ k below. zeros_at MOST_ACCOUNTS k ∙ sym (ap (times k) taken);
  put_few = λ k below. rw (zeros_at MOST_ACCOUNTS k) (omega arith);
  take_few = λ k below. rw (zeros_at MOST_ACCOUNTS k) (omega arith);
}

-- no share was taken apart
pub took_none : (all : List Counts) (seats : List Share) (v : TicketHistory) → seats ≡ [] → v.put ≡ [] → v.taken ≡ [] → TookIn all all seats v v (replicate MOST_ACCOUNTS 0) (replicate MOST_ACCOUNTS 0)
took_none all seats v none put taken = record {
  parts = refl;
  count = (let z : length seats ≡ 0 = ap length none in omega arith);
  events = λ k. (let z : sum_by (λ (s : Share). slice_index s.events k) seats ≡ 0 = ap (λ (ss : List Share). sum_by (λ (s : Share). slice_index s.events k) ss) none in omega arith);
  steps = λ k. (let z : sum_by (λ (s : Share). slice_index s.steps k) seats ≡ 0 = ap (λ (ss : List Share). sum_by (λ (s : Share). slice_index s.steps k) ss) none in omega arith);
  puts_are = λ k below. (let z = zeros_at MOST_ACCOUNTS k in omega arith);
  takes_are = λ k below. (let z = zeros_at MOST_ACCOUNTS k in omega arith);
  put = λ k below. zeros_at MOST_ACCOUNTS k ∙ sym (ap (times k) put);
  taken = λ k below. zeros_at MOST_ACCOUNTS k ∙ sym (ap (times k) taken);
  few_puts = λ k below. rw (zeros_at MOST_ACCOUNTS k) (omega arith);
  few_takes = λ k below. rw (zeros_at MOST_ACCOUNTS k) (omega arith);
}
