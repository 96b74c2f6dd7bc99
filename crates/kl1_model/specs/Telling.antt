-- Answers that tell variables of the account by their numbers: how their texts are read, and what stands for their variables.
use Rattle.std.specs.Prelude.{ℕ, suc, ◌+◌, ◌-◌, ◌==◌, nat_le, nat_lt, not, ◌&&◌, ◌||◌, Bool, true, false, if◌then◌else◌, List, [], ◌∷◌, ◌++◌, length, max, drop, codes, bytes_eq, decimal, Option, Some, None, option_map}
use Rattle.std.specs.List.{list_any}
use Rattle.kl1_model.specs.declared.limits.TheConstants.{FIRST_UNTOLD}
use Rattle.kl1_model.specs.declared.rules.Rules.{Rules}
use Rattle.kl1_model.specs.Term.{Term, variable, occurs, substituted}
use Rattle.kl1_model.specs.Token.{Token, name_token, variable_token, digits_token, minus_token, sign_token, end_token, number_of, tokens_of_text}
use Rattle.kl1_model.specs.Grammar.{Numbered}
use Rattle.kl1_model.specs.reader.Reader.{expression_tree}
use Rattle.kl1_model.specs.Numbering.{variable_number, seen_after}
use Rattle.kl1_model.specs.Meaning.{variables_of, expression_term}
use Rattle.kl1_model.specs.Module.{Reading, is_among, bare_tokens, first_line, startable, read_goal}
use Rattle.kl1_model.specs.State.{has_told}
use Rattle.kl1_model.specs.Event.{is_number}

-- ---- how a text tells variables

-- whether a variable is written `_n`, with the number n from 1 below 2 ^ 62 and without leading zeros
abbrev pub is_told : List ℕ → Bool
is_told v =
    let n = number_of (drop 1 v) in
    nat_le 1 n && nat_lt n FIRST_UNTOLD && bytes_eq v (codes "_" ++ decimal n)

-- the number of a variable as it is told: n if it is written `_n`; the others have the numbers from 2 ^ 62 on, by first occurrence
abbrev pub told_number : List (List ℕ) → List ℕ → ℕ
told_number seen v = if is_told v then number_of (drop 1 v) else FIRST_UNTOLD + (variable_number seen v - 1)

-- the spellings seen after this one, of variables that aren't told
abbrev pub others_after : List (List ℕ) → List ℕ → List (List ℕ)
others_after seen v = if is_told v then seen else seen_after seen v

-- tokens with the numbers of variables as they are told, after others seen before
abbrev pub told_from : List (List ℕ) → List (Token (List ℕ)) → List Numbered
told_from seen [] = []
told_from seen (name_token a quotes applied ∷ ts) = name_token a quotes applied ∷ told_from seen ts
told_from seen (variable_token v ∷ ts) = variable_token (told_number seen v) ∷ told_from (others_after seen v) ts
told_from seen (digits_token n ∷ ts) = digits_token n ∷ told_from seen ts
told_from seen (minus_token digit ∷ ts) = minus_token digit ∷ told_from seen ts
told_from seen (sign_token s ∷ ts) = sign_token s ∷ told_from seen ts
told_from seen (end_token ∷ ts) = end_token ∷ told_from seen ts

-- the term that tokens are, if they are one expression, with its variables as they are told
abbrev pub told_term : List (Token (List ℕ)) → Option Term
told_term ts = option_map expression_term (expression_tree (told_from [] ts))

-- what a text is as a goal that tells variables: it is one exactly if it is one that doesn't
abbrev pub read_told_goal : List ℕ → Reading Term
read_told_goal text =
    let ts = tokens_of_text text in
    startable (first_line ts.placed ts.broken_at) (elim ts.broken_at [ None ↦ told_term (bare_tokens ts.placed) | Some line ↦ None ])

-- whether variables are as a text tells them, if `seen` that aren't told have occurred before: those from 2 ^ 62 on are in order, and below 2 ^ 63
abbrev pub told_after : ℕ → List ℕ → Bool
told_after seen [] = true
told_after seen (v ∷ vs) =
    if nat_lt v FIRST_UNTOLD then nat_le 1 v && told_after seen vs
    else nat_le v (FIRST_UNTOLD + seen) && is_number v && told_after (max seen (suc v - FIRST_UNTOLD)) vs

-- whether a term's variables are as a text tells them
abbrev pub is_told_term : Term → Bool
is_told_term t = told_after 0 (variables_of t)

-- ---- what stands for the variables of an answer

-- the exception that an answer is for: its goal as it is now, and the variable that a substitute waits for
pub record Asked : Type 0 where
  pub goal : Term
  pub new : ℕ

-- whether variable n is told to an exception: it stands in the goal, and isn't what the substitute waits for, so that no term holds itself
abbrev pub stands_in : Asked → ℕ → Bool
stands_in a n = occurs n a.goal && not (n == a.new)

-- whether variable n is told to an exception that may be there
abbrev pub stands_at : Option Asked → ℕ → Bool
stands_at a n = elim a [ None ↦ false | Some a ↦ stands_in a n ]

-- those of variables that don't stand in the goal, by first occurrence, after others
abbrev pub new_among : Option Asked → List ℕ → List ℕ → List ℕ
new_among a seen [] = seen
new_among a seen (n ∷ ns) = if stands_at a n || is_among n seen then new_among a seen ns else new_among a (seen ++ n ∷ []) ns

-- the place of a number among others, from 1
abbrev pub place_among : List ℕ → ℕ → ℕ
place_among [] n = 1
place_among (m ∷ ms) n = if m == n then 1 else suc (place_among ms n)

-- what stands for variable n of an answer: it itself if it stands in the goal, else the account's next, by first occurrence
abbrev pub given_variable : Option Asked → List ℕ → ℕ → ℕ → Term
given_variable a new last n = if stands_at a n then variable n else variable (last + place_among new n)

-- whether a variable that the account has made is told to an exception in whose goal it doesn't stand: it was bound since, or never stood there
abbrev pub is_gone : Option Asked → ℕ → ℕ → Bool
is_gone a last n = nat_le n last && not (stands_at a n)

-- a goal as it takes the place of what a substitute waits for, how many of its variables are new, and whether it tells one that is gone
pub record Given : Type 0 where
  pub goal : Term
  pub new : ℕ
  pub tells_gone : Bool

-- a goal that tells variables to an exception that may be there; each that doesn't stand in its goal counts as new
abbrev pub given_told : Option Asked → ℕ → Term → Given
given_told a last t =
    let new = new_among a [] (variables_of t) in
    record { goal = substituted (given_variable a new last) t; new = length new; tells_gone = list_any (is_gone a last) (variables_of t) }

-- what a text is as the goal of an answer by these rules
abbrev pub read_answer : Rules → List ℕ → Reading Term
read_answer rules text = if has_told rules then read_told_goal text else read_goal text
