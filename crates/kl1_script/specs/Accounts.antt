-- The names of accounts, as the code reads them.
use Rattle.std.specs.Prelude.{ℕ, nat_le, ◌&&◌, if◌then◌else◌, List, length, Option, Some, None}
use Rattle.std.specs.List.{list_all}
use Rattle.kl1_model.specs.declared.limits.TheConstants.{MOST_ACCOUNTS}
use Rattle.kl1_model.specs.AccountName.{is_account_name}

-- words, if they are names of accounts and not too many
abbrev pub named : List (List ℕ) → Option (List (List ℕ))
named words = if list_all is_account_name words && nat_le (length words) MOST_ACCOUNTS then Some words else None
