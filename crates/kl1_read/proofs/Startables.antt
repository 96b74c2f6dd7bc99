-- What may be started of the terms that a text can write.
use Rattle.std.proofs.Common.{◌≡◌, ℕ, ◌&&◌, Bool, true, false, if◌then◌else◌, List, [], Option, Some, None, option_map, option_and_then, refl, ap, ◌∙◌}
use Rattle.kl1_model.specs.Term.{Term}
use Rattle.kl1_model.specs.Token.{Token}
use Rattle.kl1_model.specs.Grammar.{Numbered}
use Rattle.kl1_model.specs.Numbering.{numbered_tokens}
use Rattle.kl1_model.specs.reader.Reader.{expression_tree}
use Rattle.kl1_model.specs.Meaning.{expression_term, is_writable}
use Rattle.kl1_model.specs.Goal.{is_goal}
use Rattle.kl1_model.specs.Module.{Reading, good, bad, startable, term_of_tokens}
use Rattle.kl1_model.specs.Telling.{told_from, told_term}
use Rattle.kl1_read.specs.Pieces.{writable}
use Rattle.kl1_read.specs.Started.{started, expression_read}

started_by : (line : ℕ) (t : Term) (w : Bool) → started line (if◌then◌else◌ {A = Option Term} w (Some t) None) ≡ if◌then◌else◌ {A = Reading Term} (w && is_goal t) (good t) (bad line)
started_by line t true = refl
started_by line t false = refl

-- what may be started is what can be written, and is a goal
startable_is : (line : ℕ) (x : Option Term) → started line (option_and_then writable x) ≡ startable line x
startable_is line None = refl
startable_is line (Some t) = started_by line t (is_writable t)

-- what is started of the term that tokens are
pub started_is : (line : ℕ) (ts : List (Token (List ℕ))) (ns : List Numbered) → ns ≡ numbered_tokens ts → started line (expression_read ns) ≡ startable line (term_of_tokens ts)
started_is line ts ns n =
    startable_is line (option_map expression_term (expression_tree ns))
    ∙ ap (λ ms. startable line (option_map expression_term (expression_tree ms))) n

-- and of the term that tokens are that tell variables
pub told_started_is : (line : ℕ) (ts : List (Token (List ℕ))) (ns : List Numbered) → ns ≡ told_from [] ts → started line (expression_read ns) ≡ startable line (told_term ts)
told_started_is line ts ns n =
    startable_is line (option_map expression_term (expression_tree ns))
    ∙ ap (λ ms. startable line (option_map expression_term (expression_tree ms))) n
