-- The print of a term reads as that term.
use Rattle.std.specs.Prelude.{◌≡◌, ℕ, ◌<◌, nat_le, nat_lt, ◌&&◌, true, if◌then◌else◌, List, [], ◌∷◌, map, Some, None, option_map}
use Rattle.std.proofs.Common.{refl, ap, sym, ◌∙◌, arith}
use Rattle.std.proofs.lemmas.Bool.{and_parts, and_from, ltb-true}
use Rattle.std.proofs.lemmas.List.{append-nil}
use Rattle.std.proofs.lemmas.Option.{same_Some}
use Rattle.kl1_model.specs.declared.limits.TheConstants.{NUMBER_LIMIT}
use Rattle.kl1_model.specs.Term.{Term}
use Rattle.kl1_model.specs.Token.{Token, Placed, Tokens, tokens_of_text}
use Rattle.kl1_model.specs.Grammar.{Numbered, part_tokens}
use Rattle.kl1_model.specs.reader.Reader.{expression_tree}
use Rattle.kl1_model.specs.Meaning.{expression_term, part_term, depth, is_narrow, is_writable, variables_of, is_numbered, highest, numbered_after}
use Rattle.kl1_model.specs.Goal.{is_goal}
use Rattle.kl1_model.specs.Print.{print}
use Rattle.kl1_model.specs.Module.{Reading, good, bad, startable, bare_tokens, first_line, term_of_tokens, read_goal}
use Rattle.kl1_model.specs.laws.ReadLaws.{tokens_at, is_printable}
use Rattle.kl1_model.proofs.ReadComplete.{expression_trees_complete}
use Rattle.kl1_model_server.proofs.LexFronts.{spelled, on_first_line, lexes_nothing}
use Rattle.kl1_model_server.proofs.ReadPlanted.{plainly, planted}
use Rattle.kl1_model.proofs.ReadMeans.{numbers_of, part_variables}
use Rattle.kl1_model_server.proofs.ReadTerms.{agrees}
use Rattle.kl1_model_server.proofs.ReadNumbers.{are_few, numbered_again, few_variables}

-- what is known of a printable term
record Printable (t : Term) : Type 0 where
  pub writable : is_writable t ≡ true
  pub narrow : is_narrow t ≡ true
  pub numbered : is_numbered t ≡ true
  pub few : highest t < NUMBER_LIMIT

printable : (t : Term) → is_printable t ≡ true → Printable t
printable t h =
    let front = and_parts (is_writable t && is_numbered t) (nat_lt (highest t) NUMBER_LIMIT) h in
    let both = and_parts (is_writable t) (is_numbered t) front.0 in
    record {
      writable = both.0;
      narrow = (and_parts (is_narrow t) (nat_le (depth t) 256) both.0).0;
      numbered = both.1;
      few = ltb-true (highest t) NUMBER_LIMIT front.1;
    }

-- the tokens of a term's tree
abbrev tree_tokens : Term → List Numbered
tree_tokens t = part_tokens (planted t).whole []

-- the tokens of a term's print, on the first line
abbrev printed_tokens : Term → List Placed
printed_tokens t = map on_first_line (spelled (tree_tokens t))

tokens_are : (t : Term) → is_printable t ≡ true → tokens_of_text (print t) ≡ record { placed = printed_tokens t; broken_at = None }
tokens_are t h =
    let p = printable t h in
    ap (tokens_at 1) (sym (append-nil (print t)))
    ∙ ((agrees t p.narrow p.few).whole [] [] (record { no_word = refl; no_quote = refl; no_open = refl }) lexes_nothing).are

pub bare_again : (ts : List (Token (List ℕ))) → bare_tokens (map on_first_line ts) ≡ ts
bare_again [] = refl
bare_again (t ∷ ts) = ap (λ x. t ∷ x) (bare_again ts)

term_is : (t : Term) → is_printable t ≡ true → term_of_tokens (bare_tokens (printed_tokens t)) ≡ Some t
term_is t h =
    let p = printable t h in
    let a = agrees t p.narrow p.few in
    let variables : numbers_of (tree_tokens t) ≡ variables_of t = part_variables (planted t).whole [] ∙ append-nil (variables_of (part_term (planted t).whole)) ∙ ap variables_of a.bears.means in
    ap term_of_tokens (bare_again (spelled (tree_tokens t)))
    ∙ ap (λ ts. option_map expression_term (expression_tree ts))
    (numbered_again (tree_tokens t) 0 (ap (numbered_after 0) variables ∙ p.numbered) (ap are_few variables ∙ few_variables t p.few) (omega arith))
    ∙ ap (option_map expression_term) (expression_trees_complete (plainly (planted t).whole) a.bears.sound)
    ∙ ap Some a.bears.means

-- the print of a printable term holds no byte that is no token
pub prints_are_tokens : (t : Term) → is_printable t ≡ true → (tokens_of_text (print t)).broken_at ≡ None
prints_are_tokens t h = ap (λ (ts : Tokens). ts.broken_at) (tokens_are t h)

-- the tokens of a printable term's print are the term
pub prints_are_terms : (t : Term) → is_printable t ≡ true → term_of_tokens (bare_tokens (tokens_of_text (print t)).placed) ≡ Some t
prints_are_terms t h = ap (λ (ts : Tokens). term_of_tokens (bare_tokens ts.placed)) (tokens_are t h) ∙ term_is t h

-- a printed goal reads back
pub printed_goals_read_back : (t : Term) → is_printable t ≡ true → is_goal t ≡ true → read_goal (print t) ≡ good t
printed_goals_read_back t h goal =
    let line = first_line (printed_tokens t) None in
    ap (λ (ts : Tokens). startable (first_line ts.placed ts.broken_at) (elim ts.broken_at [ None ↦ term_of_tokens (bare_tokens ts.placed) | Some line ↦ None ])) (tokens_are t h)
    ∙ ap (startable line) (term_is t h)
    ∙ ap (λ x. if◌then◌else◌ {A = Reading Term} x (good t) (bad line)) (and_from (is_writable t) (is_goal t) (printable t h).writable goal)

-- two printable terms with one print are one term
pub printing_is_one_to_one : (t u : Term) → is_printable t ≡ true → is_printable u ≡ true → print t ≡ print u → t ≡ u
printing_is_one_to_one t u h j same =
    same_Some t u (sym (prints_are_terms t h) ∙ ap (λ bs. term_of_tokens (bare_tokens (tokens_of_text bs).placed)) same ∙ prints_are_terms u j)
