-- Accounts with the sums of their keys, and whose key is right.
use Rattle.std.specs.Prelude.{ℕ, ◌==◌, nat_le, ◌&&◌, ◌||◌, Bool, if◌then◌else◌, List, [], ◌∷◌, ◌++◌, length, Option, Some, None, option_and_then}
use Rattle.std.specs.List.{list_all}
use Rattle.sha2.specs.Sha256.{sha256}
use Rattle.hex.specs.Hex.{encode_lower}
use Rattle.kl1_session.specs.Files.{Entry, accounts_of, found}
use Rattle.kl1_host_front.specs.declared.sums.TheConstants.{SUM_BYTES}

-- a hexadecimal digit, with small letters
abbrev pub is_sum_byte : ℕ → Bool
is_sum_byte b = (nat_le 48 b && nat_le b 57) || (nat_le 97 b && nat_le b 102)

-- the digits of a sum
abbrev pub is_sum : List ℕ → Bool
is_sum w = length w == SUM_BYTES && list_all is_sum_byte w

-- whether there is a sum beside a name
abbrev pub has_sum : Entry → Bool
has_sum e = is_sum e.key

-- entries, if there is a sum in each
abbrev pub summed : List Entry → Option (List Entry)
summed es = if list_all has_sum es then Some es else None

-- the accounts of a file with their sums: a file of accounts with a sum in each place of a key
abbrev pub sums_of : List ℕ → Option (List Entry)
sums_of bytes = option_and_then summed (accounts_of bytes)

-- the sum of a key
abbrev pub sum_of : List ℕ → List ℕ
sum_of key = encode_lower (sha256 key)

-- the line of an account, by its name and its key
abbrev pub account_line : List ℕ → List ℕ → List ℕ
account_line name key = name ++ 32 ∷ sum_of key ++ 10 ∷ []

-- the account, by its number from 0, to which a name and a key let in: the one of this name, if what is beside it is the sum of the key
abbrev pub opened_by_sum : List Entry → List ℕ → List ℕ → Option ℕ
opened_by_sum accounts name key = found accounts name (sum_of key)
