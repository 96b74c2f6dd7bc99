-- Terms that may be started.
use Rattle.std.specs.Prelude.{ℕ, if◌then◌else◌, List, Option, Some, None, option_map, option_and_then}
use Rattle.kl1_model.specs.Term.{Term}
use Rattle.kl1_model.specs.Grammar.{Numbered}
use Rattle.kl1_model.specs.reader.Reader.{expression_tree}
use Rattle.kl1_model.specs.Meaning.{expression_term}
use Rattle.kl1_model.specs.Goal.{is_goal}
use Rattle.kl1_read.specs.Pieces.{writable}
use Rattle.kl1_model.specs.Module.{Reading, good, bad}

-- the term of tokens that are one expression, if a text can write it
abbrev pub expression_read : List Numbered → Option Term
expression_read ts = option_and_then writable (option_map expression_term (expression_tree ts))

-- a term that a text can write, if there is one and it is a goal for itself, or else a fault on this line
abbrev pub started : ℕ → Option Term → Reading Term
started line None = bad line
started line (Some t) = if is_goal t then good t else bad line
