-- What contracts see of a share, and how a call changes it.
use Rattle.std.specs.Prelude.{◌≡◌, ℕ, ◌+◌, ◌*◌, ◌<◌, ◌≤◌, ◌^◌, cond, List, [], ◌∷◌, length, replicate, slice_index, ◌≢◌}
use Rattle.kl1_tally.specs.declared.amounts.TheConstants.{MOST_ACCOUNTS}
use Rattle.kl1_tally.specs.Numbers.{times}
use Rattle.kl1_pool_tickets.specs.declared.ticket_history.TicketHistory.{TicketHistory}
use Rattle.kl1_pool_tickets.specs.declared.serving.TheConstants.{MOST_STEPS}
use Rattle.kl1_pool_tickets.specs.declared.serving.TimeSlice.{TimeSlice}

-- the events and steps of each account that were counted, and how many of its tickets were put and taken, at the accounts' numbers
pub record Counts : Type 0 where
  pub events : List ℕ
  pub steps : List ℕ
  pub puts : List ℕ
  pub takes : List ℕ

-- of numbers of accounts the account's is greater by n, and the others are the same
pub record IsMoreAt (account n : ℕ) (old new : List ℕ) : Type 0 where
  pub here : slice_index new account ≡ slice_index old account + n
  pub others : (k : ℕ) → k < MOST_ACCOUNTS → k ≢ account → slice_index new k ≡ slice_index old k

-- of one account e events, s steps, p tickets put and t tickets taken more, and of the others none
pub record Moved (account e s p t : ℕ) (old new : Counts) : Type 0 where
  pub events : IsMoreAt account e old.events new.events
  pub steps : IsMoreAt account s old.steps new.steps
  pub puts : IsMoreAt account p old.puts new.puts
  pub takes : IsMoreAt account t old.takes new.takes

-- of one account e events and s steps more, and at most one ticket put more
abbrev pub Acts : ℕ → ℕ → ℕ → Counts → Counts → Type 0
Acts account e s old new = (p : ℕ) × (p ≤ 1) × Moved account e s p 0 old new

-- one more ticket of each account can be counted as taken
abbrev pub CanTake : Counts → Type 0
CanTake s = (k : ℕ) → k < MOST_ACCOUNTS → slice_index s.takes k < 2 ^ 63

-- the numbers are those of what a pass put and took, and of each account there are at most 2^63
pub record Keeps (puts takes : List ℕ) (v : TicketHistory) : Type 0 where
  pub put_size : length puts ≡ MOST_ACCOUNTS
  pub take_size : length takes ≡ MOST_ACCOUNTS
  pub put_are : (k : ℕ) → k < MOST_ACCOUNTS → slice_index puts k ≡ times k v.put
  pub take_are : (k : ℕ) → k < MOST_ACCOUNTS → slice_index takes k ≡ times k v.taken
  pub put_few : (k : ℕ) → k < MOST_ACCOUNTS → slice_index puts k ≤ 2 ^ 63
  pub take_few : (k : ℕ) → k < MOST_ACCOUNTS → slice_index takes k ≤ 2 ^ 63

-- how a worker's counts of one account grew: with each ticket taken at most one put and at most 64 steps, each of them an event
pub record WorkedAt (k : ℕ) (old new : Counts) : Type 0 where
  pub takes : slice_index old.takes k ≤ slice_index new.takes k
  pub puts : slice_index old.puts k ≤ slice_index new.puts k
  pub puts_few : slice_index new.puts k + slice_index old.takes k ≤ slice_index old.puts k + slice_index new.takes k
  pub steps : slice_index old.steps k ≤ slice_index new.steps k
  pub steps_few : slice_index new.steps k + MOST_STEPS * slice_index old.takes k ≤ slice_index old.steps k + MOST_STEPS * slice_index new.takes k
  pub alike : slice_index new.events k + slice_index old.steps k ≡ slice_index old.events k + slice_index new.steps k

-- a worker's counts of each account grew as a worker's do
abbrev pub Worked : Counts → Counts → Type 0
Worked old new = (k : ℕ) → k < MOST_ACCOUNTS → WorkedAt k old new

-- an account's ticket is served: a turn of at most 64 steps, each of them an event, and then at most one put of the ticket, and none
-- unless the turn said `again`
pub record Serves (turned : ℕ → TimeSlice → Counts → Counts → Type 0) (account : ℕ) (slice : TimeSlice) (old new : Counts) : Type 0 where
  pub between : Counts
  pub puts : ℕ
  pub turn : turned account slice old between
  pub steps : Moved account slice.steps slice.steps 0 0 old between
  pub steps_few : slice.steps ≤ MOST_STEPS
  pub put : Moved account 0 0 puts 0 between new
  pub puts_few : puts ≤ cond slice.again 1 0

-- an account's ticket is taken and then served
pub record TakesAndServes (turned : ℕ → TimeSlice → Counts → Counts → Type 0) (account : ℕ) (slice : TimeSlice) (old new : Counts) : Type 0 where
  pub between : Counts
  pub within : account < MOST_ACCOUNTS
  pub take : Moved account 0 0 0 1 old between
  pub serve : Serves turned account slice between new

-- tickets, each by its account and what its turn told, are taken and served one after the other
abbrev pub ServesEach : (ℕ → TimeSlice → Counts → Counts → Type 0) → List (ℕ × TimeSlice) → Counts → Counts → Type 0
ServesEach turned [] old new = new ≡ old
ServesEach turned (t ∷ ts) old new = (between : Counts) × TakesAndServes turned t.0 t.1 old between × ServesEach turned ts between new

-- some tickets are taken and served one after the other, and nothing else is done
abbrev pub ServesTickets : (ℕ → TimeSlice → Counts → Counts → Type 0) → Counts → Counts → Type 0
ServesTickets turned old new = (ts : List (ℕ × TimeSlice)) × ServesEach turned ts old new

-- nothing counted, put or taken
abbrev pub new_counts : Counts
new_counts = record { events = replicate MOST_ACCOUNTS 0; steps = replicate MOST_ACCOUNTS 0; puts = replicate MOST_ACCOUNTS 0; takes = replicate MOST_ACCOUNTS 0 }
