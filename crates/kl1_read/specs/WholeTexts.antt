-- The tokens of a whole text, with the line of the first of them.
use Rattle.std.specs.Prelude.{ℕ, List, [], ◌++◌, Option, Some, None, map, option_map, unwrap_or}
use Rattle.kl1_model.specs.Token.{Token, Tokens}
use Rattle.kl1_model.specs.Module.{bare_tokens, first_line}
use Rattle.kl1_read.specs.declared.whole_text.WholeText.{WholeText}
use Rattle.kl1_read.specs.Views.{kept_token}

-- a line, and tokens if there are some
pub record Whole : Type 0 where
  pub line : ℕ
  pub tokens : Option (List (Token (List ℕ)))

-- the tokens, if no line has a byte that is no token
abbrev pub unbroken : Option ℕ → List (Token (List ℕ)) → Option (List (Token (List ℕ)))
unbroken None ts = Some ts
unbroken (Some line) ts = None

-- the whole; it may have begun on a line with tokens before these
abbrev pub whole_from : Option ℕ → List (Token (List ℕ)) → Tokens → Whole
whole_from began before ts = record { line = unwrap_or began (first_line ts.placed ts.broken_at); tokens = unbroken ts.broken_at (before ++ bare_tokens ts.placed) }

-- the whole of these tokens alone
abbrev pub whole_of : Tokens → Whole
whole_of ts = whole_from None [] ts

-- the line and the tokens of a text that was read
abbrev pub whole_view : WholeText → Whole
whole_view w = record { line = w.line; tokens = option_map (λ v. map kept_token v.items) w.tokens }
