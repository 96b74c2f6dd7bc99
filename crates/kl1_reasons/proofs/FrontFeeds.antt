-- What is after the front of a text has no more line feeds than the text, and one less after the end of a line.
use Rattle.std.specs.Prelude.{ℕ, zero, suc, ◌≤◌, ◌==◌, ◌||◌, nat_le, Bool, true, false, if◌then◌else◌, List, [], ◌∷◌, ◌++◌, length, drop, Option, Some, None}
use Rattle.std.proofs.Common.{arith}
use Rattle.kl1_model.specs.declared.sign.Sign.{Sign}
use Rattle.kl1_model.specs.declared.sign.Sign.TheVariants.{Neck}
use Rattle.kl1_model.specs.Text.{is_name_byte, behind_leading}
use Rattle.kl1_model.specs.Name.{is_small_letter, is_word_byte}
use Rattle.kl1_model.specs.declared.limits.TheConstants.{MOST_NAME_BYTES, MOST_VARIABLE_BYTES, NUMBER_LIMIT}
use Rattle.kl1_model.specs.Token.{Token, name_token, variable_token, digits_token, minus_token, sign_token, end_token, Front, finished, broken, line_end, blank, token, is_variable_start, is_digit, is_blank, is_source_byte, first_is, word_of, behind_word, digits_of, behind_digits, number_of, behind_comment, bounded, name_front, digits_front, dot_front, sign_at, spelling_of, front_of}
use Rattle.kl1_model.specs.code.Fronts.{quoted_front, comment_front, sign_front, quoted_from}
use Rattle.kl1_reasons.proofs.Feeds.{feeds, feeds_tail, feeds_drop}

-- what is after a front has at most so many line feeds, and one less after the end of a line
unfoldable pub LeavesFeeds : ℕ → Front → Type 0
LeavesFeeds most finished = Unit {0}
LeavesFeeds most broken = Unit {0}
LeavesFeeds most (line_end rest) = suc (feeds rest) ≤ most
LeavesFeeds most (blank rest) = feeds rest ≤ most
LeavesFeeds most (token t rest) = feeds rest ≤ most

at_most : (n : ℕ) → n ≤ n
at_most n = omega arith

finished_feeds : (most : ℕ) → LeavesFeeds most finished
unfolding LeavesFeeds
finished_feeds most = tt

broken_feeds : (most : ℕ) → LeavesFeeds most broken
unfolding LeavesFeeds
broken_feeds most = tt

end_feeds : (most : ℕ) (rest : List ℕ) → suc (feeds rest) ≤ most → LeavesFeeds most (line_end rest)
unfolding LeavesFeeds
end_feeds most rest less = less

blank_feeds : (most : ℕ) (rest : List ℕ) → feeds rest ≤ most → LeavesFeeds most (blank rest)
unfolding LeavesFeeds
blank_feeds most rest less = less

token_feeds : (most : ℕ) (t : Token (List ℕ)) (rest : List ℕ) → feeds rest ≤ most → LeavesFeeds most (token t rest)
unfolding LeavesFeeds
token_feeds most t rest less = less

if_feeds : (x : Bool) (most : ℕ) (f g : Front) → LeavesFeeds most f → LeavesFeeds most g → LeavesFeeds most (if x then f else g)
if_feeds true most f g h j = h
if_feeds false most f g h j = j

token_or_broken : (x : Bool) (most : ℕ) (t : Token (List ℕ)) (rest : List ℕ) → feeds rest ≤ most → LeavesFeeds most (if x then token t rest else broken)
token_or_broken x most t rest less = if_feeds x most (token t rest) broken (token_feeds most t rest less) (broken_feeds most)

bounded_feeds : (limit most : ℕ) (text : List ℕ) (t : Token (List ℕ)) (rest : List ℕ) → feeds rest ≤ most → LeavesFeeds most (bounded limit text t rest)
bounded_feeds limit most text t rest less = token_or_broken (nat_le (length text) limit) most t rest less

name_feeds : (quotes : Bool) (most : ℕ) (text rest : List ℕ) → feeds rest ≤ most → LeavesFeeds most (name_front quotes text rest)
name_feeds quotes most text rest less = bounded_feeds MOST_NAME_BYTES most text (name_token text quotes (first_is (λ b. b == 40) rest)) rest less

digits_feeds : (n most : ℕ) (rest : List ℕ) → feeds rest ≤ most → LeavesFeeds most (digits_front n rest)
digits_feeds n most rest less = token_or_broken (nat_le n NUMBER_LIMIT) most (digits_token n) rest less

leading_case : (test : ℕ → Bool) (x : Bool) (b : ℕ) (bs : List ℕ) → feeds (behind_leading test bs) ≤ feeds bs → feeds (let r : List ℕ = elim x [ true ↦ behind_leading test bs | false ↦ b ∷ bs ] in r) ≤ feeds (b ∷ bs)
leading_case test true b bs h = omega (arith, feeds_tail b bs)
leading_case test false b bs h = omega arith

leading_feeds : (test : ℕ → Bool) (bs : List ℕ) → feeds (behind_leading test bs) ≤ feeds bs
leading_feeds test [] = omega arith
leading_feeds test (b ∷ bs) = leading_case test (test b) b bs (leading_feeds test bs)

comment_case : (x y : Bool) (most b : ℕ) (bs : List ℕ) → feeds (b ∷ bs) ≤ most → LeavesFeeds most (comment_front (behind_comment bs)) → LeavesFeeds most (comment_front (elim x [ true ↦ Some (b ∷ bs) | false ↦ elim y [ true ↦ behind_comment bs | false ↦ None ] ]))
comment_case true y most b bs less h = blank_feeds most (b ∷ bs) less
comment_case false true most b bs less h = h
comment_case false false most b bs less h = broken_feeds most

comment_feeds : (most : ℕ) (bs : List ℕ) → feeds bs ≤ most → LeavesFeeds most (comment_front (behind_comment bs))
comment_feeds most [] less = blank_feeds most [] less
comment_feeds most (b ∷ bs) less = comment_case (b == 10) (is_source_byte b) most b bs less (comment_feeds most bs (omega (arith, feeds_tail b bs)))

behind_quote_case : (x : Bool) (most b : ℕ) (text bs : List ℕ) → feeds (b ∷ bs) ≤ most → LeavesFeeds most (quoted_front (quoted_from false (text ++ b ∷ []) bs)) → LeavesFeeds most (quoted_front (elim x [ true ↦ quoted_from false (text ++ b ∷ []) bs | false ↦ Some (text, b ∷ bs) ]))
behind_quote_case true most b text bs less h = h
behind_quote_case false most b text bs less h = name_feeds true most text (b ∷ bs) less

in_quotes_case : (x y : Bool) (most b : ℕ) (text bs : List ℕ) → LeavesFeeds most (quoted_front (quoted_from true text bs)) → LeavesFeeds most (quoted_front (quoted_from false (text ++ b ∷ []) bs)) → LeavesFeeds most (quoted_front (elim x [ true ↦ quoted_from true text bs | false ↦ elim y [ true ↦ quoted_from false (text ++ b ∷ []) bs | false ↦ None ] ]))
in_quotes_case true y most b text bs h j = h
in_quotes_case false true most b text bs h j = j
in_quotes_case false false most b text bs h j = broken_feeds most

quoted_feeds : (bs : List ℕ) (q : Bool) (most : ℕ) (text : List ℕ) → feeds bs ≤ most → LeavesFeeds most (quoted_front (quoted_from q text bs))
quoted_feeds [] true most text less = name_feeds true most text [] less
quoted_feeds [] false most text less = broken_feeds most
quoted_feeds (b ∷ bs) true most text less = behind_quote_case (b == 39) most b text bs less (quoted_feeds bs false most (text ++ b ∷ []) (omega (arith, feeds_tail b bs)))
quoted_feeds (b ∷ bs) false most text less =
    in_quotes_case (b == 39) (is_name_byte b) most b text bs (quoted_feeds bs true most text (omega (arith, feeds_tail b bs))) (quoted_feeds bs false most (text ++ b ∷ []) (omega (arith, feeds_tail b bs)))

dot_feeds : (bs : List ℕ) → LeavesFeeds (feeds bs) (dot_front bs)
dot_feeds [] = token_feeds (feeds []) end_token [] (at_most (feeds []))
dot_feeds (b ∷ bs) = token_or_broken (is_blank b || b == 37) (feeds (b ∷ bs)) end_token (b ∷ bs) (at_most (feeds (b ∷ bs)))

spelling_some : (s : Sign) → 1 ≤ length (spelling_of s)
spelling_some Neck = omega arith
spelling_some _ = omega arith

dropped_feeds : (n b : ℕ) (bs : List ℕ) → 1 ≤ n → feeds (drop n (b ∷ bs)) ≤ feeds bs
dropped_feeds zero b bs h = absurd (omega arith)
dropped_feeds (suc n) b bs h = feeds_drop n bs

sign_feeds : (found : Option Sign) (b : ℕ) (bs : List ℕ) → LeavesFeeds (feeds bs) (sign_front found (b ∷ bs))
sign_feeds None b bs = broken_feeds (feeds bs)
sign_feeds (Some s) b bs = token_feeds (feeds bs) (sign_token s) (drop (length (spelling_of s)) (b ∷ bs)) (dropped_feeds (length (spelling_of s)) b bs (spelling_some s))

-- the end of a line, or else what has at most so many
first_feeds : (x : Bool) (bs : List ℕ) (f : Front) → LeavesFeeds (feeds bs) f → LeavesFeeds (if x then suc (feeds bs) else feeds bs) (if x then line_end bs else f)
first_feeds true bs f h = end_feeds (suc (feeds bs)) bs (at_most (suc (feeds bs)))
first_feeds false bs f h = h

-- what each front leaves
pub fronts_leave_feeds : (bs : List ℕ) → LeavesFeeds (feeds bs) (front_of bs)
fronts_leave_feeds [] = finished_feeds (feeds [])
fronts_leave_feeds (b ∷ bs) =
    first_feeds (b == 10) bs _
    (if_feeds (is_blank b) (feeds bs) _ _ (blank_feeds (feeds bs) bs (at_most (feeds bs)))
    (if_feeds (b == 37) (feeds bs) _ _ (comment_feeds (feeds bs) bs (at_most (feeds bs)))
    (if_feeds (is_small_letter b) (feeds bs) _ _ (name_feeds false (feeds bs) (b ∷ word_of bs) (behind_word bs) (leading_feeds is_word_byte bs))
    (if_feeds (is_variable_start b) (feeds bs) _ _ (bounded_feeds MOST_VARIABLE_BYTES (feeds bs) (b ∷ word_of bs) (variable_token (b ∷ word_of bs)) (behind_word bs) (leading_feeds is_word_byte bs))
    (if_feeds (is_digit b) (feeds bs) _ _ (digits_feeds (number_of (b ∷ digits_of bs)) (feeds bs) (behind_digits bs) (leading_feeds is_digit bs))
    (if_feeds (b == 39) (feeds bs) _ _ (quoted_feeds bs false (feeds bs) [] (at_most (feeds bs)))
    (if_feeds (b == 46) (feeds bs) _ _ (dot_feeds bs)
    (if_feeds (b == 45) (feeds bs) _ _ (token_feeds (feeds bs) (minus_token (first_is is_digit bs)) bs (at_most (feeds bs))) (sign_feeds (sign_at (b ∷ bs)) b bs)))))))))
