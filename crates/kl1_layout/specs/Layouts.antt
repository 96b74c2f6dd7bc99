-- What the layout of a text keeps, and when there is none.
use Rattle.std.specs.Prelude.{◌≡◌, ℕ, List, Option, Some, None}
use Rattle.kl1_model.specs.Token.{Token, Tokens, tokens_of_text}
use Rattle.kl1_model.specs.Module.{Clause, Module, Reading, good, bad, bare_tokens, read_module}
use Rattle.kl1_layout.specs.Written.{Written, written_of}
use Rattle.kl1_layout.specs.declared.layout_fault.LayoutFault.{LayoutFault}
use Rattle.kl1_layout.specs.declared.layout_fault.LayoutFault.TheVariants.{Broken, Memory}

-- these tokens, if no line has a byte that is no token
abbrev pub if_unbroken : Option ℕ → List (Token (List ℕ)) → Option (List (Token (List ℕ)))
if_unbroken None ts = Some ts
if_unbroken (Some line) ts = None

-- the tokens of a text, without their lines; none if a byte of it is no token
abbrev pub unplaced : Tokens → Option (List (Token (List ℕ)))
unplaced ts = if_unbroken ts.broken_at (bare_tokens ts.placed)

-- the name and the clauses of a module that was read
abbrev pub clauses_read : Reading Module → Option (List ℕ × List Clause)
clauses_read (good m) = Some (m.name, m.clauses)
clauses_read (bad line) = None

-- the name and the clauses that a text is read as, if it is a module
abbrev pub clauses_in : List ℕ → Option (List ℕ × List Clause)
clauses_in text = clauses_read (read_module text)

-- `new` is a layout of the text `old`: what is written in it is all that is written in `old`, in that order. So it has the same
-- tokens by the definitions, and is a module exactly if `old` is, of the same name and with the same clauses
pub record IsLayoutOf (old new : List ℕ) : Type 0 where
  pub written : List Written
  pub before : written_of old ≡ Some written
  pub after : written_of new ≡ Some written
  pub tokens : unplaced (tokens_of_text new) ≡ unplaced (tokens_of_text old)
  pub clauses : clauses_in new ≡ clauses_in old

-- a byte that is no token is on this line; want of memory says nothing of the text
abbrev pub IsFaultOf : List ℕ → LayoutFault → Type 0
IsFaultOf text (Broken line) = (tokens_of_text text).broken_at ≡ Some line
IsFaultOf text Memory = Unit {0}
