-- Where tokens stand.
use Rattle.std.specs.Prelude.{ℕ, ◌<◌, ◌≤◌, List, length}
use Rattle.kl1_reasons_items.specs.declared.token.Token.{Token}

-- a token has a byte at least, and stands in a text
pub record IsIn (text : List ℕ) (t : Token) : Type 0 where
  pub some : t.start < t.end
  pub within : t.end ≤ length text
