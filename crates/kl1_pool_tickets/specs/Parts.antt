-- What contracts see of the parts of a pool that no type names yet, and of new books.
use Rattle.std.specs.Prelude.{◌≡◌, ℕ, ◌<◌}
use Rattle.atomic_table.specs.Seated.{TableId}
use Rattle.kl1_tally.specs.declared.amounts.TheConstants.{MOST_ACCOUNTS}
use Rattle.kl1_tally.specs.Seats.{Book}

-- which tally and which queue they are, and for how many accounts and shares
pub record PartsValue : Type 0 where
  pub tally : TableId
  pub queue : TableId
  pub accounts : ℕ
  pub shares : ℕ

-- an account's book of a tally, at zero
pub record IsNewBook (tally : TableId) (book : Book) : Type 0 where
  pub of : book.tally ≡ tally
  pub within : book.account < MOST_ACCOUNTS
  pub events : book.events ≡ 0
  pub steps : book.steps ≡ 0
