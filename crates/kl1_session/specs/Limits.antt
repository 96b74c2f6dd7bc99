-- The numbers of a file of accounts, once each, with their units: the constants of src/limits.rt.
use Rattle.std.specs.Prelude.{ℕ}
use Rattle.kl1_session.specs.declared.limits.TheConstants.{MOST_FILE_BYTES, MOST_KEY_BYTES}

-- the most bytes of a file of accounts
abbrev pub most_file_bytes : ℕ
most_file_bytes = MOST_FILE_BYTES

-- the most bytes of a key
abbrev pub most_key_bytes : ℕ
most_key_bytes = MOST_KEY_BYTES
