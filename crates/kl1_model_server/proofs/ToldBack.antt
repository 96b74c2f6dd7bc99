-- The print of a goal that tells variables reads as that goal.
use Rattle.std.specs.Prelude.{◌≡◌, ℕ, suc, ◌+◌, ◌-◌, ◌≤◌, ◌<◌, max, nat_le, nat_lt, ◌&&◌, Bool, true, false, if◌then◌else◌, List, [], ◌∷◌, ◌++◌, length, map, codes, bytes_eq, decimal, Some, None, option_map}
use Rattle.std.proofs.Common.{refl, ap, sym, ◌∙◌, arith}
use Rattle.std.proofs.lemmas.Bool.{and_parts, and_from, leb-true, le-leb, ltb-true, ltb-false, lt-ltb}
use Rattle.std.proofs.lemmas.List.{append-nil}
use Rattle.std.proofs.lemmas.Slice.Eq.{bytes_eq-Decides}
use Rattle.kl1_model.specs.declared.limits.TheConstants.{FIRST_UNTOLD, NUMBER_LIMIT, MOST_DEPTH}
use Rattle.kl1_model.specs.Term.{Term}
use Rattle.kl1_model.specs.Token.{Token, Placed, Tokens, name_token, variable_token, digits_token, minus_token, sign_token, end_token, number_of, tokens_of_text}
use Rattle.kl1_model.specs.Grammar.{Numbered, part_tokens}
use Rattle.kl1_model.specs.reader.Reader.{expression_tree}
use Rattle.kl1_model.specs.Numbering.{place_of, variable_number, seen_after}
use Rattle.kl1_model.specs.Meaning.{expression_term, part_term, depth, is_narrow, is_writable, variables_of, highest}
use Rattle.kl1_model.specs.Goal.{is_goal}
use Rattle.kl1_model.specs.Print.{print}
use Rattle.kl1_model.specs.Event.{is_number}
use Rattle.kl1_model.specs.Module.{Reading, good, bad, startable, bare_tokens, first_line}
use Rattle.kl1_model.specs.Telling.{is_told, told_number, others_after, told_from, told_term, read_told_goal, told_after, is_told_term}
use Rattle.kl1_model.specs.laws.ReadLaws.{tokens_at}
use Rattle.kl1_model.proofs.ReadComplete.{expression_trees_complete}
use Rattle.kl1_model.proofs.ReadMeans.{numbers_of, part_variables}
use Rattle.kl1_model_server.proofs.LexWords.{decimal_writes}
use Rattle.kl1_model_server.proofs.LexFronts.{spelling, spelled, on_first_line, lexes_nothing}
use Rattle.kl1_model_server.proofs.ReadPlanted.{plainly, planted}
use Rattle.kl1_model_server.proofs.ReadTerms.{agrees}
use Rattle.kl1_model_server.proofs.ReadCounts.{are_upto, highest_upto}
use Rattle.kl1_model_server.proofs.ReadNumbers.{spellings, length_spellings, one_more, place_is, not_alone}
use Rattle.kl1_model_server.proofs.ReadBack.{bare_again}

-- whether a variable's spelling is the print of this number, which is told
abbrev told_test : ℕ → ℕ → Bool
told_test v n = nat_le 1 n && nat_lt n FIRST_UNTOLD && bytes_eq (spelling v) (spelling n)

value_is : (v : ℕ) → v < NUMBER_LIMIT → number_of (decimal v) ≡ v
value_is v few = (decimal_writes v (omega arith)).value

told_is : (v : ℕ) → 1 ≤ v → v < FIRST_UNTOLD → is_told (spelling v) ≡ true
told_is v some few =
    ap (told_test v) (value_is v (omega arith))
    ∙ and_from (nat_le 1 v && nat_lt v FIRST_UNTOLD) (bytes_eq (spelling v) (spelling v))
    (and_from (nat_le 1 v) (nat_lt v FIRST_UNTOLD) (le-leb 1 v some) (lt-ltb v FIRST_UNTOLD few)) ((bytes_eq-Decides (spelling v) (spelling v)).1 refl)

no_and : (a b c : Bool) → b ≡ false → (a && b && c) ≡ false
no_and true b c e = ap (λ x. x && c) e
no_and false b c e = refl

untold_is : (v : ℕ) → nat_lt v FIRST_UNTOLD ≡ false → v < NUMBER_LIMIT → is_told (spelling v) ≡ false
untold_is v above few = ap (told_test v) (value_is v few) ∙ no_and (nat_le 1 v) (nat_lt v FIRST_UNTOLD) (bytes_eq (spelling v) (spelling v)) above

-- a variable has its number again, and so many are seen after it
record Again (v k l : ℕ) : Type 0 where
  number : told_number (spellings FIRST_UNTOLD k) (spelling v) ≡ v
  seen : others_after (spellings FIRST_UNTOLD k) (spelling v) ≡ spellings FIRST_UNTOLD l

told_again_one : (v k : ℕ) → nat_lt v FIRST_UNTOLD ≡ true → 1 ≤ v → Again v k k
told_again_one v k below some =
    let few = ltb-true v FIRST_UNTOLD below in
    let is = told_is v some few in
    record {
      number = ap (λ x. if x then number_of (decimal v) else FIRST_UNTOLD + (variable_number (spellings FIRST_UNTOLD k) (spelling v) - 1)) is ∙ value_is v (omega arith);
      seen = ap (λ x. if x then spellings FIRST_UNTOLD k else seen_after (spellings FIRST_UNTOLD k) (spelling v)) is;
    }

variable_is : (v k : ℕ) → FIRST_UNTOLD ≤ v → v ≤ FIRST_UNTOLD + k → k ≤ FIRST_UNTOLD → v < NUMBER_LIMIT → variable_number (spellings FIRST_UNTOLD k) (spelling v) ≡ suc (v - FIRST_UNTOLD)
variable_is v k above within small few =
    ap (λ x. if x then suc (length (spellings FIRST_UNTOLD k)) else place_of (spellings FIRST_UNTOLD k) (spelling v)) (not_alone (decimal v) (decimal_writes v (omega arith)).some)
    ∙ place_is k FIRST_UNTOLD (v - FIRST_UNTOLD) v (omega arith) (omega arith) (omega arith)

seen_by : (x : Bool) (v k : ℕ) → nat_lt k (suc (v - FIRST_UNTOLD)) ≡ x → FIRST_UNTOLD ≤ v → v ≤ FIRST_UNTOLD + k →
    (if x then spellings FIRST_UNTOLD k ++ spelling v ∷ [] else spellings FIRST_UNTOLD k) ≡ spellings FIRST_UNTOLD (max k (suc v - FIRST_UNTOLD))
seen_by true v k is above within =
    let more = ltb-true k (suc (v - FIRST_UNTOLD)) is in
    let most : suc k ≡ max k (suc v - FIRST_UNTOLD) = omega arith in
    one_more k FIRST_UNTOLD v (omega arith) ∙ ap (spellings FIRST_UNTOLD) most
seen_by false v k is above within =
    let less = ltb-false k (suc (v - FIRST_UNTOLD)) is in
    let most : k ≡ max k (suc v - FIRST_UNTOLD) = omega arith in
    ap (spellings FIRST_UNTOLD) most

untold_again_one : (v k : ℕ) → nat_lt v FIRST_UNTOLD ≡ false → v ≤ FIRST_UNTOLD + k → k ≤ FIRST_UNTOLD → v < NUMBER_LIMIT → Again v k (max k (suc v - FIRST_UNTOLD))
untold_again_one v k below within small few =
    let above : FIRST_UNTOLD ≤ v = (let no = ltb-false v FIRST_UNTOLD below in omega arith) in
    let is = untold_is v below few in
    let number = variable_is v k above within small few in
    let seen = spellings FIRST_UNTOLD k in
    record {
      number =
          ap (λ x. if x then number_of (decimal v) else FIRST_UNTOLD + (variable_number seen (spelling v) - 1)) is
          ∙ ap (λ n. FIRST_UNTOLD + (n - 1)) number ∙ omega arith;
      seen =
          ap (λ x. if x then seen else seen_after seen (spelling v)) is
          ∙ ap (λ n. if nat_lt n (variable_number seen (spelling v)) then seen ++ spelling v ∷ [] else seen) (length_spellings FIRST_UNTOLD k)
          ∙ ap (λ n. if nat_lt k n then seen ++ spelling v ∷ [] else seen) number
          ∙ seen_by (nat_lt k (suc (v - FIRST_UNTOLD))) v k refl above within;
    }

-- the tokens after a variable
behind_one : (v k l : ℕ) (ts : List Numbered) → Again v k l → told_from (spellings FIRST_UNTOLD l) (spelled ts) ≡ ts → told_from (spellings FIRST_UNTOLD k) (spelled (variable_token v ∷ ts)) ≡ variable_token v ∷ ts
behind_one v k l ts a rest =
    ap (λ n. variable_token n ∷ told_from (others_after (spellings FIRST_UNTOLD k) (spelling v)) (spelled ts)) a.number
    ∙ ap (λ seen. variable_token v ∷ told_from seen (spelled ts)) a.seen
    ∙ ap (λ x. variable_token v ∷ x) rest

again_by : (b : Bool) (v k : ℕ) (ts : List Numbered) → nat_lt v FIRST_UNTOLD ≡ b → k ≤ FIRST_UNTOLD →
    (if b then nat_le 1 v && told_after k (numbers_of ts) else nat_le v (FIRST_UNTOLD + k) && is_number v && told_after (max k (suc v - FIRST_UNTOLD)) (numbers_of ts)) ≡ true →
    ((l : ℕ) → told_after l (numbers_of ts) ≡ true → l ≤ FIRST_UNTOLD → told_from (spellings FIRST_UNTOLD l) (spelled ts) ≡ ts) → told_from (spellings FIRST_UNTOLD k) (spelled (variable_token v ∷ ts)) ≡ variable_token v ∷ ts
again_by true v k ts is small h go =
    let both = and_parts (nat_le 1 v) (told_after k (numbers_of ts)) h in
    behind_one v k k ts (told_again_one v k is (leb-true 1 v both.0)) (go k both.1 small)
again_by false v k ts is small h go =
    let both = and_parts (nat_le v (FIRST_UNTOLD + k) && is_number v) (told_after (max k (suc v - FIRST_UNTOLD)) (numbers_of ts)) h in
    let two = and_parts (nat_le v (FIRST_UNTOLD + k)) (is_number v) both.0 in
    let few = ltb-true v NUMBER_LIMIT two.1 in
    behind_one v k (max k (suc v - FIRST_UNTOLD)) ts (untold_again_one v k is (leb-true v (FIRST_UNTOLD + k) two.0) small few) (go (max k (suc v - FIRST_UNTOLD)) both.1 (omega arith))

-- tokens whose variables are as a text tells them have their numbers again
pub told_again : (ts : List Numbered) (k : ℕ) → told_after k (numbers_of ts) ≡ true → k ≤ FIRST_UNTOLD → told_from (spellings FIRST_UNTOLD k) (spelled ts) ≡ ts
told_again [] k h small = refl
told_again (variable_token v ∷ ts) k h small = again_by (nat_lt v FIRST_UNTOLD) v k ts refl small h (λ l i few. told_again ts l i few)
told_again (name_token a q applied ∷ ts) k h small = ap (λ x. name_token a q applied ∷ x) (told_again ts k h small)
told_again (digits_token n ∷ ts) k h small = ap (λ x. digits_token n ∷ x) (told_again ts k h small)
told_again (minus_token digit ∷ ts) k h small = ap (λ x. minus_token digit ∷ x) (told_again ts k h small)
told_again (sign_token s ∷ ts) k h small = ap (λ x. sign_token s ∷ x) (told_again ts k h small)
told_again (end_token ∷ ts) k h small = ap (λ x. end_token ∷ x) (told_again ts k h small)

upto_by : (b : Bool) (v k : ℕ) (vs : List ℕ) → nat_lt v FIRST_UNTOLD ≡ b →
    (if b then nat_le 1 v && told_after k vs else nat_le v (FIRST_UNTOLD + k) && is_number v && told_after (max k (suc v - FIRST_UNTOLD)) vs) ≡ true →
    ((l : ℕ) → told_after l vs ≡ true → are_upto 9223372036854775807 vs ≡ true) → are_upto 9223372036854775807 (v ∷ vs) ≡ true
upto_by true v k vs is h go =
    let below = ltb-true v FIRST_UNTOLD is in
    and_from (nat_le v 9223372036854775807) (are_upto 9223372036854775807 vs) (le-leb v 9223372036854775807 (omega arith)) (go k (and_parts (nat_le 1 v) (told_after k vs) h).1)
upto_by false v k vs is h go =
    let both = and_parts (nat_le v (FIRST_UNTOLD + k) && is_number v) (told_after (max k (suc v - FIRST_UNTOLD)) vs) h in
    let few = ltb-true v NUMBER_LIMIT (and_parts (nat_le v (FIRST_UNTOLD + k)) (is_number v) both.0).1 in
    and_from (nat_le v 9223372036854775807) (are_upto 9223372036854775807 vs) (le-leb v 9223372036854775807 (omega arith)) (go (max k (suc v - FIRST_UNTOLD)) both.1)

told_upto : (vs : List ℕ) (k : ℕ) → told_after k vs ≡ true → are_upto 9223372036854775807 vs ≡ true
told_upto [] k h = refl
told_upto (v ∷ vs) k h = upto_by (nat_lt v FIRST_UNTOLD) v k vs refl h (λ l i. told_upto vs l i)

-- numbers of variables that are as a text tells them are below 2 ^ 63
pub told_few : (t : Term) → is_told_term t ≡ true → highest t < NUMBER_LIMIT
told_few t h = let most = highest_upto t 9223372036854775807 (told_upto (variables_of t) 0 h) in omega arith

-- the tokens of a term's tree
abbrev tree_tokens : Term → List Numbered
tree_tokens t = part_tokens (planted t).whole []

abbrev printed_tokens : Term → List Placed
printed_tokens t = map on_first_line (spelled (tree_tokens t))

tokens_are : (t : Term) → is_narrow t ≡ true → highest t < NUMBER_LIMIT → tokens_of_text (print t) ≡ record { placed = printed_tokens t; broken_at = None }
tokens_are t narrow few =
    ap (tokens_at 1) (sym (append-nil (print t)))
    ∙ ((agrees t narrow few).whole [] [] (record { no_word = refl; no_quote = refl; no_open = refl }) lexes_nothing).are

term_is : (t : Term) → is_narrow t ≡ true → is_told_term t ≡ true → told_term (bare_tokens (printed_tokens t)) ≡ Some t
term_is t narrow told =
    let a = agrees t narrow (told_few t told) in
    let variables : numbers_of (tree_tokens t) ≡ variables_of t = part_variables (planted t).whole [] ∙ append-nil (variables_of (part_term (planted t).whole)) ∙ ap variables_of a.bears.means in
    ap told_term (bare_again (spelled (tree_tokens t)))
    ∙ ap (λ ts. option_map expression_term (expression_tree ts)) (told_again (tree_tokens t) 0 (ap (told_after 0) variables ∙ told) (omega arith))
    ∙ ap (option_map expression_term) (expression_trees_complete (plainly (planted t).whole) a.bears.sound)
    ∙ ap Some a.bears.means

-- a printed goal that tells variables reads back
pub told_goals_read_back : (t : Term) → is_writable t ≡ true → is_told_term t ≡ true → is_goal t ≡ true → read_told_goal (print t) ≡ good t
told_goals_read_back t writable told goal =
    let narrow = (and_parts (is_narrow t) (nat_le (depth t) MOST_DEPTH) writable).0 in
    let line = first_line (printed_tokens t) None in
    ap (λ (ts : Tokens). startable (first_line ts.placed ts.broken_at) (elim ts.broken_at [ None ↦ told_term (bare_tokens ts.placed) | Some line ↦ None ])) (tokens_are t narrow (told_few t told))
    ∙ ap (startable line) (term_is t narrow told)
    ∙ ap (λ x. if◌then◌else◌ {A = Reading Term} x (good t) (bad line)) (and_from (is_writable t) (is_goal t) writable goal)
