-- What all shares and all books of a tally add up to.
use Rattle.std.specs.Prelude.{◌≡◌, ℕ, ◌+◌, ◌<◌, ◌≤◌, ◌==◌, cond, List, [], length, Some, slice_get, slice_index, sum_by}
use Rattle.kl1_tally.specs.declared.amounts.Amounts.{Amounts}
use Rattle.kl1_tally.specs.declared.amounts.TheConstants.{MOST_ACCOUNTS}
use Rattle.kl1_tally.specs.declared.view.View.{View}
use Rattle.kl1_tally.specs.Numbers.{same, times}
use Rattle.kl1_tally.specs.Marks.{events_at, steps_at}
use Rattle.kl1_tally.specs.Seats.{Book, Share}

-- amounts are, for each account, the sums of what all shares counted; they are what its book tells, and each account has a book
pub record Settled (accounts : ℕ) (books : List Book) (shares : List Share) (told : Amounts) : Type 0 where
  pub events : (k : ℕ) → k < MOST_ACCOUNTS → slice_index told.events k ≡ sum_by (λ (share : Share). slice_index share.events k) shares
  pub steps : (k : ℕ) → k < MOST_ACCOUNTS → slice_index told.steps k ≡ sum_by (λ (share : Share). slice_index share.steps k) shares
  pub told_by : (i : ℕ) (book : Book) → slice_get books i ≡ Some book → (slice_index told.events book.account ≡ book.events) × (slice_index told.steps book.account ≡ book.steps)
  pub has_book : (k : ℕ) → k < accounts → (i : ℕ) × (book : Book) × (slice_get books i ≡ Some book) × (book.account ≡ k)

-- a seat took in some shares, of all but those that are left
pub record TookShares (all left : List Share) (v : View) : Type 0 where
  pub parts : v.parts + length left ≡ length all
  pub names : v.names ≡ []
  pub book : v.book ≡ []
  pub events : (k : ℕ) → k < MOST_ACCOUNTS → events_at k v.amount + sum_by (λ (share : Share). slice_index share.events k) left ≡ sum_by (λ (share : Share). slice_index share.events k) all
  pub steps : (k : ℕ) → k < MOST_ACCOUNTS → steps_at k v.amount + sum_by (λ (share : Share). slice_index share.steps k) left ≡ sum_by (λ (share : Share). slice_index share.steps k) all

-- the events that a book has of an account: none if it is another account's
abbrev pub events_in : ℕ → Book → ℕ
events_in k b = cond (b.account == k) b.events 0

-- the steps that a book has of an account: none if it is another account's
abbrev pub steps_in : ℕ → Book → ℕ
steps_in k b = cond (b.account == k) b.steps 0

-- a seat took in some books, of all but those that are left, and what the books tell was noted for each account that has one book
pub record TookBooks (all left : List Book) (before v : View) (told_events told_steps : List ℕ) : Type 0 where
  pub parts : v.parts + length left ≡ before.parts + length all
  pub amount : v.amount ≡ before.amount
  pub names : (k : ℕ) → times k v.names + sum_by (λ (b : Book). same k b.account) left ≡ sum_by (λ (b : Book). same k b.account) all
  pub events : (k : ℕ) → events_at k v.book + sum_by (events_in k) left ≡ sum_by (events_in k) all
  pub steps : (k : ℕ) → steps_at k v.book + sum_by (steps_in k) left ≡ sum_by (steps_in k) all
  pub own : (k : ℕ) → times k v.names ≡ 0 → events_at k v.book ≡ 0
  pub tells : (k : ℕ) → k < MOST_ACCOUNTS → times k v.names ≤ 1 → (slice_index told_events k ≡ events_at k v.book) × (slice_index told_steps k ≡ steps_at k v.book)
  pub sizes : (length told_events ≡ MOST_ACCOUNTS) × (length told_steps ≡ MOST_ACCOUNTS)
