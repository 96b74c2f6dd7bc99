-- What a plain table of names keeps, and what a seat of it is.
use Rattle.std.specs.Prelude.{◌≡◌, ℕ, ◌+◌, ◌*◌, ◌-◌, ◌<◌, ◌≤◌, List, [], length, Option, Some, None, slice_get, slice_set, ◌≢◌, ◌⊎◌}
use Rattle.kl1_model.specs.declared.limits.TheConstants.{FIRST_NUMBER, MOST_NAMES}
use Rattle.kl1_atoms.specs.declared.known.Known.{Known}
use Rattle.kl1_atoms.specs.Names.{StandIn, IsTable}

-- a number has a text if the place that many above 64 holds it
abbrev pub StandsAt : List (Option (List ℕ)) → ℕ → List ℕ → Type 0
StandsAt places n t = (FIRST_NUMBER ≤ n) × (slice_get places (n - FIRST_NUMBER) ≡ Some (Some t))

-- a seat of the table: its account's row is there, the row's places after the used ones are free, and what it knows is there
pub record IsSeatOf (places : List (Option (List ℕ))) (account used : ℕ) (known : List Known) : Type 0 where
  pub table : IsTable (StandsAt places)
  pub row : MOST_NAMES * account + MOST_NAMES ≤ length places
  pub used_up : used ≤ length known
  pub free : (j : ℕ) → used ≤ j → j < MOST_NAMES → slice_get places (MOST_NAMES * account + j) ≡ Some None
  pub there : StandIn (StandsAt places) known

-- a seat as it is made: of the table, of its account, and with the built-in names alone
pub record IsNewSeat (places : List (Option (List ℕ))) (account : ℕ) (seat_account used : ℕ) (known : List Known) : Type 0 where
  pub of : IsSeatOf places seat_account used known
  pub account_is : seat_account ≡ account
  pub nothing : known ≡ []

-- the place of a text: where it was, or the row's first free place, which it takes
pub record Held (old new : List (Option (List ℕ))) (account used_old used_new place : ℕ) (t : List ℕ) : Type 0 where
  pub there : slice_get new place ≡ Some (Some t)
  pub change : ((new ≡ old) × (used_new ≡ used_old)) ⊎ ((place ≡ MOST_NAMES * account + used_old) × (used_new ≡ used_old + 1) × (new ≡ slice_set old place (Some t)) × ((i : ℕ) → slice_get old i ≢ Some (Some t)))
