-- What contracts see of a tally, of a book and of a share.
use Rattle.std.specs.Prelude.{ℕ, ◌+◌, Bool, cond, List, replicate, slice_index, slice_set}
use Rattle.atomic_table.specs.Seated.{TableId}
use Rattle.kl1_tally.specs.declared.amounts.TheConstants.{MOST_ACCOUNTS}

-- which tally it is, and how many books and shares it was made with
pub record Parts : Type 0 where
  pub id : TableId
  pub accounts : ℕ
  pub shares : ℕ

-- the book of an account: of which tally, the account's number, its events, and how many of them are steps
pub record Book : Type 0 where
  pub tally : TableId
  pub account : ℕ
  pub events : ℕ
  pub steps : ℕ

-- what a thread counted: of which tally, and events and steps at the accounts' numbers
pub record Share : Type 0 where
  pub tally : TableId
  pub events : List ℕ
  pub steps : List ℕ

-- the book of an account at zero
abbrev pub new_book : TableId → ℕ → Book
new_book id account = record { tally = id; account = account; events = 0; steps = 0 }

-- a share at zero
abbrev pub new_share : TableId → Share
new_share id = record { tally = id; events = replicate MOST_ACCOUNTS 0; steps = replicate MOST_ACCOUNTS 0 }

-- a book with one event more, which is a step or not
abbrev pub raised_book : Book → Bool → Book
raised_book b step = record { tally = b.tally; account = b.account; events = b.events + 1; steps = b.steps + cond step 1 0 }

-- numbers with more at one place
abbrev pub raised_at : List ℕ → ℕ → ℕ → List ℕ
raised_at ns k more = slice_set ns k (slice_index ns k + more)

-- a share with one event more of an account, which is a step or not; of all other accounts it has what it had
abbrev pub raised_share : Share → ℕ → Bool → Share
raised_share s account step = record { tally = s.tally; events = raised_at s.events account 1; steps = raised_at s.steps account (cond step 1 0) }
