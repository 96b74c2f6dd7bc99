-- What the tokens of the code are in the definitions.
use Rattle.std.specs.Prelude.{ℕ, List}
use Rattle.kl1_model.specs.Token.{Token, name_token, variable_token, digits_token, minus_token, sign_token, end_token}
use Rattle.kl1_model.specs.Token as model
use Rattle.kl1_model.specs.Grammar as grammar
use Rattle.kl1_read.specs.declared.spelled.Spelled.{Spelled}
use Rattle.kl1_read.specs.declared.spelled.Spelled.TheVariants as spelled
use Rattle.kl1_read.specs.declared.kept.Kept.{Kept}
use Rattle.kl1_read.specs.declared.kept.Kept.TheVariants as kept
use Rattle.kl1_read.specs.declared.numbered.Numbered.{Numbered}
use Rattle.kl1_read.specs.declared.numbered.Numbered.TheVariants as numbered
use Rattle.kl1_read.specs.declared.front.Front.{Front}
use Rattle.kl1_read.specs.declared.front.Front.TheVariants as front

-- a token whose variables are spelled
abbrev pub spelled_token : Spelled → Token (List ℕ)
spelled_token (spelled.Name text quotes applied) = name_token text quotes applied
spelled_token (spelled.Variable text) = variable_token text
spelled_token (spelled.Digits n) = digits_token n
spelled_token (spelled.Minus digit) = minus_token digit
spelled_token (spelled.Sign s) = sign_token s
spelled_token spelled.End = end_token

-- a token whose variables are spelled, in little room
abbrev pub kept_token : Kept → Token (List ℕ)
kept_token (kept.Name quotes applied text) = name_token text quotes applied
kept_token (kept.Variable text) = variable_token text
kept_token (kept.Digits n) = digits_token n
kept_token (kept.Minus digit) = minus_token digit
kept_token (kept.Sign s) = sign_token s
kept_token kept.End = end_token

-- a token whose variables are numbered
abbrev pub numbered_token : Numbered → grammar.Numbered
numbered_token (numbered.Name quotes applied text) = name_token text quotes applied
numbered_token (numbered.Variable n) = variable_token n
numbered_token (numbered.Digits n) = digits_token n
numbered_token (numbered.Minus digit) = minus_token digit
numbered_token (numbered.Sign s) = sign_token s
numbered_token numbered.End = end_token

-- what stands in front of a text
abbrev pub front_view : Front → model.Front
front_view front.Finished = model.finished
front_view front.Broken = model.broken
front_view (front.LineEnd rest) = model.line_end rest.now
front_view (front.Blank rest) = model.blank rest.now
front_view (front.Token t rest) = model.token (spelled_token t) rest.now
