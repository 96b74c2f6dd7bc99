-- The tokens of a text without a count of steps.
use Rattle.std.specs.Prelude.{◌≡◌, ℕ, zero, suc, ◌≤◌, ◌<◌, ◌==◌, Bool, true, false, if◌then◌else◌, List, [], ◌∷◌, ◌++◌, length, Option, Some, None}
use Rattle.std.proofs.Common.{refl, ap, ◌∙◌, subst, arith}
use Rattle.std.proofs.lemmas.List.{length-drop}
use Rattle.kl1_model.specs.declared.sign.Sign.{Sign}
use Rattle.kl1_model.specs.declared.sign.Sign.TheVariants.{Neck}
use Rattle.kl1_model.specs.Text.{is_name_byte}
use Rattle.kl1_model.specs.Name.{is_word_byte}
use Rattle.kl1_model.specs.Token.{Token, Front, finished, broken, line_end, blank, token, is_digit, is_source_byte, behind_word, behind_digits, behind_comment, dot_front, sign_at, spelling_of, front_of, Tokens, tokens_by, tokens_within}
use Rattle.kl1_model.specs.code.Fronts.{quoted_front, comment_front, sign_front, quoted_from}
use Rattle.kl1_model.specs.laws.ReadLaws.{tokens_at, LeavesLess}
use Rattle.kl1_model.proofs.LexStarts.{Start, ends_line, blanks, comments, names, variables, numbers, quotes, dots, subtracts, signs_or_nothing, start_of, front_by, front_starts}

-- a token under a condition leaves less if what is after it is less
if_leaves : (x : Bool) (most : ℕ) (t : Token (List ℕ)) (rest : List ℕ) → length rest < most → LeavesLess most (if x then token t rest else broken)
if_leaves true most t rest less = less
if_leaves false most t rest less = tt

word_case : (x : Bool) (b : ℕ) (bs : List ℕ) → length (behind_word bs) ≤ length bs → length {A = ℕ} (elim x [ true ↦ behind_word bs | false ↦ b ∷ bs ]) ≤ suc (length bs)
word_case true b bs h = omega arith
word_case false b bs h = omega arith

behind_word_less : (bs : List ℕ) → length (behind_word bs) ≤ length bs
behind_word_less [] = omega arith
behind_word_less (b ∷ bs) = word_case (is_word_byte b) b bs (behind_word_less bs)

digits_case : (x : Bool) (b : ℕ) (bs : List ℕ) → length (behind_digits bs) ≤ length bs → length {A = ℕ} (elim x [ true ↦ behind_digits bs | false ↦ b ∷ bs ]) ≤ suc (length bs)
digits_case true b bs h = omega arith
digits_case false b bs h = omega arith

behind_digits_less : (bs : List ℕ) → length (behind_digits bs) ≤ length bs
behind_digits_less [] = omega arith
behind_digits_less (b ∷ bs) = digits_case (is_digit b) b bs (behind_digits_less bs)

comment_case : (x y : Bool) (most b : ℕ) (bs : List ℕ) → suc (length bs) < most → LeavesLess most (comment_front (behind_comment bs)) → LeavesLess most (comment_front (elim x [ true ↦ Some (b ∷ bs) | false ↦ elim y [ true ↦ behind_comment bs | false ↦ None ] ]))
comment_case true y most b bs less h = less
comment_case false true most b bs less h = h
comment_case false false most b bs less h = tt

comment_leaves : (most : ℕ) (bs : List ℕ) → length bs < most → LeavesLess most (comment_front (behind_comment bs))
comment_leaves most [] less = less
comment_leaves most (b ∷ bs) less = comment_case (b == 10) (is_source_byte b) most b bs less (comment_leaves most bs (omega arith))

-- quoted text so far, at the next byte
behind_quote_case : (x : Bool) (most b : ℕ) (text bs : List ℕ) → suc (length bs) < most → LeavesLess most (quoted_front (quoted_from false (text ++ b ∷ []) bs)) → LeavesLess most (quoted_front (elim x [ true ↦ quoted_from false (text ++ b ∷ []) bs | false ↦ Some (text, b ∷ bs) ]))
behind_quote_case true most b text bs less h = h
behind_quote_case false most b text bs less h = if_leaves _ most _ (b ∷ bs) less

in_quotes_case : (x y : Bool) (most b : ℕ) (text bs : List ℕ) → LeavesLess most (quoted_front (quoted_from true text bs)) → LeavesLess most (quoted_front (quoted_from false (text ++ b ∷ []) bs)) → LeavesLess most (quoted_front (elim x [ true ↦ quoted_from true text bs | false ↦ elim y [ true ↦ quoted_from false (text ++ b ∷ []) bs | false ↦ None ] ]))
in_quotes_case true y most b text bs h j = h
in_quotes_case false true most b text bs h j = j
in_quotes_case false false most b text bs h j = tt

quoted_leaves : (bs : List ℕ) (q : Bool) (most : ℕ) (text : List ℕ) → length bs < most → LeavesLess most (quoted_front (quoted_from q text bs))
quoted_leaves [] true most text less = if_leaves _ most _ [] less
quoted_leaves [] false most text less = tt
quoted_leaves (b ∷ bs) true most text less = behind_quote_case (b == 39) most b text bs less (quoted_leaves bs false most (text ++ b ∷ []) (omega arith))
quoted_leaves (b ∷ bs) false most text less =
    in_quotes_case (b == 39) (is_name_byte b) most b text bs (quoted_leaves bs true most text (omega arith)) (quoted_leaves bs false most (text ++ b ∷ []) (omega arith))

dot_leaves : (bs : List ℕ) → LeavesLess (suc (length bs)) (dot_front bs)
dot_leaves [] = omega arith
dot_leaves (b ∷ bs) = if_leaves _ _ _ (b ∷ bs) (omega arith)

-- each sign has a byte
spelling_some : (s : Sign) → 1 ≤ length (spelling_of s)
spelling_some Neck = omega arith
spelling_some _ = omega arith

sign_leaves : (found : Option Sign) (b : ℕ) (bs : List ℕ) → LeavesLess (suc (length bs)) (sign_front found (b ∷ bs))
sign_leaves None b bs = tt
sign_leaves (Some s) b bs = omega (arith, spelling_some s, length-drop (length (spelling_of s)) (b ∷ bs))

start_leaves : (s : Start) (b : ℕ) (bs : List ℕ) → LeavesLess (suc (length bs)) (front_by s b bs)
start_leaves ends_line b bs = omega arith
start_leaves blanks b bs = omega arith
start_leaves comments b bs = comment_leaves (suc (length bs)) bs (omega arith)
start_leaves names b bs = if_leaves _ _ _ (behind_word bs) (omega (arith, behind_word_less bs))
start_leaves variables b bs = if_leaves _ _ _ (behind_word bs) (omega (arith, behind_word_less bs))
start_leaves numbers b bs = if_leaves _ _ _ (behind_digits bs) (omega (arith, behind_digits_less bs))
start_leaves quotes b bs = quoted_leaves bs false (suc (length bs)) [] (omega arith)
start_leaves dots b bs = dot_leaves bs
start_leaves subtracts b bs = omega arith
start_leaves signs_or_nothing b bs = sign_leaves (sign_at (b ∷ bs)) b bs

-- each front leaves less of the text
pub fronts_leave_less : (bs : List ℕ) → LeavesLess (length bs) (front_of bs)
fronts_leave_less [] = tt
fronts_leave_less (b ∷ bs) = subst (LeavesLess (suc (length bs))) (front_starts b bs) (start_leaves (start_of b) b bs)

-- two ways to go on that agree on fewer than `most` bytes give the same tokens
tokens_by_same : (f g : ℕ → List ℕ → Tokens) (line most : ℕ) (x : Front) → LeavesLess most x → ((l : ℕ) (rest : List ℕ) → length rest < most → f l rest ≡ g l rest) → tokens_by f line x ≡ tokens_by g line x
tokens_by_same f g line most finished less same = refl
tokens_by_same f g line most broken less same = refl
tokens_by_same f g line most (line_end rest) less same = same (suc line) rest less
tokens_by_same f g line most (blank rest) less same = same line rest less
tokens_by_same f g line most (token t rest) less same = ap (λ (after : Tokens). record { placed = record { line = line; token = t } ∷ after.placed; broken_at = after.broken_at }) (same line rest less)

-- more steps than bytes give the same tokens
pub steps_are_enough : (m n line : ℕ) (bs : List ℕ) → length bs < m → length bs < n → tokens_within m line bs ≡ tokens_within n line bs
unfolding tokens_within
steps_are_enough zero n line bs h j = absurd (omega arith)
steps_are_enough (suc m) zero line bs h j = absurd (omega arith)
steps_are_enough (suc m) (suc n) line bs h j =
    tokens_by_same (tokens_within m) (tokens_within n) line (length bs) (front_of bs) (fronts_leave_less bs) (λ l rest less. steps_are_enough m n l rest (omega arith) (omega arith))

one_step : (n line : ℕ) (bs : List ℕ) → tokens_within (suc n) line bs ≡ tokens_by (tokens_within n) line (front_of bs)
unfolding tokens_within
one_step n line bs = refl

-- the tokens of a text are what its front makes of those after it
pub tokens_go_on : (line : ℕ) (bs : List ℕ) → tokens_at line bs ≡ tokens_by tokens_at line (front_of bs)
tokens_go_on line bs =
    one_step (length bs) line bs
    ∙ tokens_by_same (tokens_within (length bs)) tokens_at line (length bs) (front_of bs) (fronts_leave_less bs) (λ l rest less. steps_are_enough (length bs) (suc (length rest)) l rest less (omega arith))
