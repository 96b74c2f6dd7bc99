-- What is put together where the front of a text is given up.
use Rattle.std.specs.Prelude.{◌≡◌, ℕ, List, ◌++◌, take, drop, codes, Option, Some}
use Rattle.std.proofs.Common.{ap, sym, ◌∙◌, append_assoc}
use Rattle.kl1_reasons.specs.Reasons.{line_feeds, text_from}

-- the line of a module, then the line feeds of the front, then what is after it
pub left_is : (text begun taken fed dropped whole slice : List ℕ) (front : ℕ) (given : Option ℕ) → given ≡ Some front → begun ≡ codes ":- module m." → taken ≡ take front text → fed ≡ begun ++ line_feeds taken → dropped ≡ drop front text → whole ≡ fed ++ dropped → slice ≡ whole → slice ≡ text_from text given
left_is text begun taken fed dropped whole slice front given some one two three four five six =
    six ∙ five ∙ ap (λ x. x ++ dropped) (three ∙ ap (λ x. x ++ line_feeds taken) one ∙ ap (λ x. codes ":- module m." ++ line_feeds x) two)
    ∙ ap (λ x. (codes ":- module m." ++ line_feeds (take front text)) ++ x) four
    ∙ append_assoc (codes ":- module m.") (line_feeds (take front text)) (drop front text)
    ∙ ap (text_from text) (sym some)
