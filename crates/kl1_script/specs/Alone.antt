-- The accounts of a script in a world.
use Rattle.std.specs.Prelude.{◌≡◌, ℕ, ◌<◌, List, [], length, get_or}
use Rattle.kl1_model.specs.Record.{Record}
use Rattle.kl1_model_server.specs.Script.{alone_after}
use Rattle.kl1_journal.specs.Keeping.{Reading, Fits, Held, kept_of}
use Rattle.kl1_world.specs.Worlds.{account_in}

-- each account of a world, for each reading of its names, is the account of its name alone after its own commands among these records
pub record AreAlone (names : List (List ℕ)) (world : List Held) (before : List Record) : Type 0 where
  pub many : length world ≡ length names
  pub kept : (u : ℕ) (f : Reading) → u < length names → Fits (account_in world u).0.names f → kept_of f (account_in world u) ≡ alone_after (get_or names u []) before
