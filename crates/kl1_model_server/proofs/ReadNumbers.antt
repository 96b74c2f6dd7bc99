-- Printed variables have their numbers again.
use Rattle.std.specs.Prelude.{◌≡◌, ℕ, zero, suc, ◌+◌, ◌-◌, ◌^◌, ◌≤◌, ◌<◌, max, nat_le, nat_lt, ◌&&◌, Bool, true, false, if◌then◌else◌, List, [], ◌∷◌, ◌++◌, length, codes, bytes_eq, decimal}
use Rattle.std.specs.List.{list_all}
use Rattle.std.proofs.Common.{refl, ap, ◌∙◌, arith}
use Rattle.std.proofs.lemmas.Bool.{and_parts, and_from, leb-true, ltb-true, ltb-false, lt-ltb, false_from_ne_true}
use Rattle.std.proofs.lemmas.List.Folds.{list_all-append}
use Rattle.std.proofs.lemmas.Slice.Eq.{bytes_eq-Decides}
use Rattle.std.proofs.lemmas.Fmt.{decimal_injective}
use Rattle.kl1_model.specs.declared.limits.TheConstants.{NUMBER_LIMIT}
use Rattle.kl1_model.specs.Term.{Term, variable, integer, atom, structure, Terms, none, more}
use Rattle.kl1_model.specs.Token.{name_token, variable_token, digits_token, minus_token, sign_token, end_token}
use Rattle.kl1_model.specs.Grammar.{Numbered}
use Rattle.kl1_model.specs.Numbering.{place_of, variable_number, seen_after, numbered_from}
use Rattle.kl1_model.specs.Meaning.{variables_of, variables_in, highest, highest_in, numbered_after}
use Rattle.kl1_model_server.proofs.LexWords.{decimal_writes}
use Rattle.kl1_model_server.proofs.LexFronts.{spelling, spelled}
use Rattle.kl1_model.proofs.ReadMeans.{numbers_of}

-- the spellings of `k` variables, from number `i` on
abbrev pub spellings : ℕ → ℕ → List (List ℕ)
spellings i zero = []
spellings i (suc k) = spelling i ∷ spellings (suc i) k

pub length_spellings : (i k : ℕ) → length (spellings i k) ≡ k
length_spellings i zero = refl
length_spellings i (suc k) = ap suc (length_spellings (suc i) k)

pub one_more : (k i v : ℕ) → v ≡ i + k → spellings i k ++ spelling v ∷ [] ≡ spellings i (suc k)
one_more zero i v is = let same : v ≡ i = omega arith in ap (λ n. spelling n ∷ []) same
one_more (suc k) i v is = ap (λ x. spelling i ∷ x) (one_more k (suc i) v (omega arith))

same_spelling : (i v : ℕ) → i ≡ v → bytes_eq (spelling i) (spelling v) ≡ true
same_spelling i v is = (bytes_eq-Decides (spelling i) (spelling v)).1 (ap spelling is)

tails : (x y : ℕ) (xs ys : List ℕ) → x ∷ xs ≡ y ∷ ys → xs ≡ ys
tails x y xs ys h = cc

other_spelling : (i v : ℕ) → i < 2 ^ 64 → v < 2 ^ 64 → i < v → bytes_eq (spelling i) (spelling v) ≡ false
other_spelling i v few less above =
    false_from_ne_true (bytes_eq (spelling i) (spelling v)) (λ is.
    let same = decimal_injective i v few less (tails 95 95 (decimal i) (decimal v) ((bytes_eq-Decides (spelling i) (spelling v)).0 is)) in
    omega arith)

-- the place of a variable's spelling
pub place_is : (k i j v : ℕ) → v ≡ i + j → j ≤ k → i + k < 2 ^ 64 → place_of (spellings i k) (spelling v) ≡ suc j
place_is zero i j v is within few = omega arith
place_is (suc k) i zero v is within few = rw (same_spelling i v (omega arith))
place_is (suc k) i (suc j) v is within few =
    rw (other_spelling i v (omega arith) (omega arith) (omega arith)) (ap suc (place_is k (suc i) j v (omega arith) (omega arith) (omega arith)))

pub not_alone : (ds : List ℕ) → 1 ≤ length ds → bytes_eq (95 ∷ ds) (codes "_") ≡ false
not_alone [] some = absurd (omega arith)
not_alone (d ∷ ds) some = refl

number_is : (k v : ℕ) → 1 ≤ v → v ≤ suc k → k < NUMBER_LIMIT → variable_number (spellings 1 k) (spelling v) ≡ v
number_is k v some within few =
    ap (λ x. if x then suc (length (spellings 1 k)) else place_of (spellings 1 k) (spelling v)) (not_alone (decimal v) (decimal_writes v (omega arith)).some)
    ∙ place_is k 1 (v - 1) v (omega arith) (omega arith) (omega arith)
    ∙ omega arith

seen_by : (x : Bool) (k v : ℕ) → nat_lt k v ≡ x → v ≤ suc k → (if x then spellings 1 k ++ spelling v ∷ [] else spellings 1 k) ≡ spellings 1 (max k v)
seen_by true k v is within =
    let above = ltb-true k v is in
    let most : suc k ≡ max k v = omega arith in
    one_more k 1 v (omega arith) ∙ ap (spellings 1) most
seen_by false k v is within =
    let below = ltb-false k v is in
    let most : k ≡ max k v = omega arith in
    ap (spellings 1) most

seen_is : (k v : ℕ) → 1 ≤ v → v ≤ suc k → k < NUMBER_LIMIT → seen_after (spellings 1 k) (spelling v) ≡ spellings 1 (max k v)
seen_is k v some within few =
    ap (λ n. if nat_lt n (variable_number (spellings 1 k) (spelling v)) then spellings 1 k ++ spelling v ∷ [] else spellings 1 k) (length_spellings 1 k)
    ∙ ap (λ n. if nat_lt k n then spellings 1 k ++ spelling v ∷ [] else spellings 1 k) (number_is k v some within few)
    ∙ seen_by (nat_lt k v) k v refl within

-- whether each number is below number_limit
abbrev pub are_few : List ℕ → Bool
are_few vs = list_all (λ v. nat_lt v NUMBER_LIMIT) vs

-- tokens whose variables are numbered by first occurrence have their numbers again
pub numbered_again : (ts : List Numbered) (k : ℕ) → numbered_after k (numbers_of ts) ≡ true → are_few (numbers_of ts) ≡ true → k < NUMBER_LIMIT → numbered_from (spellings 1 k) (spelled ts) ≡ ts
numbered_again [] k h few small = refl
numbered_again (variable_token v ∷ ts) k h few small =
    let here = and_parts (nat_le 1 v && nat_le v (suc k)) (numbered_after (max k v) (numbers_of ts)) h in
    let between = and_parts (nat_le 1 v) (nat_le v (suc k)) here.0 in
    let some = leb-true 1 v between.0 in
    let within = leb-true v (suc k) between.1 in
    let less = and_parts (nat_lt v NUMBER_LIMIT) (are_few (numbers_of ts)) few in
    let most = ltb-true v NUMBER_LIMIT less.0 in
    ap (λ n. variable_token n ∷ numbered_from (seen_after (spellings 1 k) (spelling v)) (spelled ts)) (number_is k v some within small)
    ∙ ap (λ seen. variable_token v ∷ numbered_from seen (spelled ts)) (seen_is k v some within small)
    ∙ ap (λ x. variable_token v ∷ x) (numbered_again ts (max k v) here.1 less.1 (omega arith))
numbered_again (name_token a q applied ∷ ts) k h few small = ap (λ x. name_token a q applied ∷ x) (numbered_again ts k h few small)
numbered_again (digits_token n ∷ ts) k h few small = ap (λ x. digits_token n ∷ x) (numbered_again ts k h few small)
numbered_again (minus_token digit ∷ ts) k h few small = ap (λ x. minus_token digit ∷ x) (numbered_again ts k h few small)
numbered_again (sign_token s ∷ ts) k h few small = ap (λ x. sign_token s ∷ x) (numbered_again ts k h few small)
numbered_again (end_token ∷ ts) k h few small = ap (λ x. end_token ∷ x) (numbered_again ts k h few small)

-- if the greatest number is below number_limit, each is
mutual
  pub few_variables : (t : Term) → highest t < NUMBER_LIMIT → are_few (variables_of t) ≡ true
  few_variables (variable n) few = and_from (nat_lt n NUMBER_LIMIT) true (lt-ltb n NUMBER_LIMIT few) refl
  few_variables (integer i) few = refl
  few_variables (atom a) few = refl
  few_variables (structure f ts) few = few_variables_in ts few

  few_variables_in : (ts : Terms) → highest_in ts < NUMBER_LIMIT → are_few (variables_in ts) ≡ true
  few_variables_in none few = refl
  few_variables_in (more t ts) few =
      list_all-append (λ v. nat_lt v NUMBER_LIMIT) (variables_of t) (variables_in ts)
      ∙ and_from (are_few (variables_of t)) (are_few (variables_in ts)) (few_variables t (omega arith)) (few_variables_in ts (omega arith))
