-- The tokens of printed names, numbers and signs, in front of a text whose tokens are known.
use Rattle.std.specs.Prelude.{◌≡◌, ℕ, ◌≤◌, ◌<◌, ◌==◌, nat_le, not, Bool, true, false, if◌then◌else◌, List, [], ◌∷◌, ◌++◌, length, map, Some, None, decimal}
use Rattle.std.specs.List.{list_all}
use Rattle.std.proofs.Common.{refl, ap, sym, ◌∙◌, arith}
use Rattle.std.proofs.lemmas.Bool.{and_parts, le-leb, eqb-true}
use Rattle.std.proofs.lemmas.List.{append_assoc, append-nil}
use Rattle.std.proofs.lemmas.Fmt.{length-decimal-le}
use Rattle.kl1_model.specs.declared.limits.TheConstants.{MOST_NAME_BYTES, MOST_VARIABLE_BYTES, NUMBER_LIMIT}
use Rattle.kl1_model.specs.declared.sign.Sign.TheVariants.{Colon}
use Rattle.kl1_model.specs.Text.{is_name_byte, is_text}
use Rattle.kl1_model.specs.Name.{is_small_letter, is_word_byte, is_bare, doubled, quoted, name_text}
use Rattle.kl1_model.specs.Token.{Token, name_token, variable_token, digits_token, minus_token, sign_token, end_token, broken, token, is_digit, first_is, behind_word, behind_digits, number_of, bounded, name_front, digits_front, front_of, Placed, Tokens, tokens_by, in_quotes, after_quote}
use Rattle.kl1_model.specs.Grammar.{Numbered}
use Rattle.kl1_model.specs.code.Fronts.{quoted_front, quoted_from}
use Rattle.kl1_model.specs.laws.ReadLaws.{tokens_at}
use Rattle.kl1_model.proofs.LexStarts.{front_by, front_starts}
use Rattle.kl1_model.proofs.LexSteps.{tokens_go_on}
use Rattle.kl1_model_server.proofs.LexWords.{word_stops, behind_word_is, digits_stop, behind_digits_is, digits_are_words, letter_begins, digit_begins, Writes, decimal_writes}

-- how a printed variable is spelled
abbrev pub spelling : ℕ → List ℕ
spelling v = 95 ∷ decimal v

-- a token with its variable as it is printed
abbrev pub spelled_token : Token ℕ → Token (List ℕ)
spelled_token (name_token a q applied) = name_token a q applied
spelled_token (variable_token v) = variable_token (spelling v)
spelled_token (digits_token n) = digits_token n
spelled_token (minus_token digit) = minus_token digit
spelled_token (sign_token s) = sign_token s
spelled_token end_token = end_token

-- tokens with their variables as they are printed
abbrev pub spelled : List Numbered → List (Token (List ℕ))
spelled ts = map spelled_token ts

-- a token on the first line
abbrev pub on_first_line : Token (List ℕ) → Placed
on_first_line t = record { line = 1; token = t }

-- a text of one line has these tokens, and no byte that is none
pub record Lexes (bs : List ℕ) (ts : List Numbered) : Type 0 where
  pub are : tokens_at 1 bs ≡ record { placed = map on_first_line (spelled ts); broken_at = None }

-- no text has no tokens
pub lexes_nothing : Lexes [] []
lexes_nothing = record { are = tokens_go_on 1 [] }

-- one more token in front
pub lexes_token : {bs rest : List ℕ} (t : Token ℕ) {ts : List Numbered} → front_of bs ≡ token (spelled_token t) rest → Lexes rest ts → Lexes bs (t ∷ ts)
lexes_token {bs = bs} t front behind =
    record { are = tokens_go_on 1 bs ∙ ap (tokens_by tokens_at 1) front ∙ ap (λ (after : Tokens). record { placed = on_first_line (spelled_token t) ∷ after.placed; broken_at = after.broken_at }) behind.are }

-- what may follow a printed term: no byte of a word, no quote and no parenthesis that opens
pub record Calm (bs : List ℕ) : Type 0 where
  pub no_word : first_is is_word_byte bs ≡ false
  pub no_quote : first_is (λ b. b == 39) bs ≡ false
  pub no_open : first_is (λ b. b == 40) bs ≡ false

-- the front of a name that isn't too long
short_front : (quotes : Bool) (text rest : List ℕ) → nat_le (length text) MOST_NAME_BYTES ≡ true → name_front quotes text rest ≡ token (name_token text quotes (first_is (λ b. b == 40) rest)) rest
short_front quotes text rest short = ap (λ x. if x then token (name_token text quotes (first_is (λ b. b == 40) rest)) rest else broken) short

bare_front : (f rest : List ℕ) → is_bare f ≡ true → nat_le (length f) MOST_NAME_BYTES ≡ true → first_is is_word_byte rest ≡ false → front_of (f ++ rest) ≡ token (name_token f false (first_is (λ b. b == 40) rest)) rest
bare_front [] rest bare short none = cc
bare_front (b ∷ bs) rest bare short none =
    let both = and_parts (is_small_letter b) (list_all is_word_byte bs) bare in
    sym (front_starts b (bs ++ rest))
    ∙ ap (λ s. front_by s b (bs ++ rest)) (letter_begins b both.0)
    ∙ ap (λ w. name_front false (b ∷ w) (behind_word (bs ++ rest))) (word_stops bs rest both.1 none)
    ∙ ap (name_front false (b ∷ bs)) (behind_word_is bs rest both.1 none)
    ∙ short_front false (b ∷ bs) rest short

-- a quote at the end ends the text in quotes
quote_ends : (text rest : List ℕ) → first_is (λ b. b == 39) rest ≡ false → quoted_from true text rest ≡ Some (text, rest)
quote_ends text [] none = refl
quote_ends text (b ∷ bs) none = ap (λ (x : Bool). elim x [ true ↦ in_quotes (text ++ b ∷ []) bs | false ↦ Some (text, b ∷ bs) ]) none

plain_byte : (b : ℕ) (bs text : List ℕ) → (b == 39) ≡ false → is_name_byte b ≡ true → quoted_from false text (b ∷ bs) ≡ quoted_from false (text ++ b ∷ []) bs
plain_byte b bs text is fine =
    ap (λ (x : Bool). elim x [ true ↦ after_quote text bs | false ↦ elim (is_name_byte b) [ true ↦ in_quotes (text ++ b ∷ []) bs | false ↦ None ] ]) is
    ∙ ap (λ (x : Bool). elim x [ true ↦ in_quotes (text ++ b ∷ []) bs | false ↦ None ]) fine

-- one byte of the text between quotes
byte_in_quotes : (x : Bool) (b : ℕ) (bs text rest : List ℕ) → (b == 39) ≡ x → is_name_byte b ≡ true → quoted_from false text (doubled (b ∷ bs) ++ rest) ≡ quoted_from false (text ++ b ∷ []) (doubled bs ++ rest)
byte_in_quotes true b bs text rest is fine = let same : b ≡ 39 = eqb-true b 39 is in rw same
byte_in_quotes false b bs text rest is fine = rw is (plain_byte b (doubled bs ++ rest) text is fine)

-- the text between quotes, in which each quote stands twice
doubled_ends : (bs text rest : List ℕ) → list_all is_name_byte bs ≡ true → first_is (λ b. b == 39) rest ≡ false → quoted_from false text (doubled bs ++ 39 ∷ rest) ≡ Some (text ++ bs, rest)
doubled_ends [] text rest all none = quote_ends text rest none ∙ ap (λ x. Some (x, rest)) (sym (append-nil text))
doubled_ends (b ∷ bs) text rest all none =
    let both = and_parts (is_name_byte b) (list_all is_name_byte bs) all in
    byte_in_quotes (b == 39) b bs text (39 ∷ rest) refl both.0
    ∙ doubled_ends bs (text ++ b ∷ []) rest both.1 none
    ∙ ap (λ x. Some (x, rest)) (append_assoc text (b ∷ []) bs)

quoted_name_front : (f rest : List ℕ) → list_all is_name_byte f ≡ true → nat_le (length f) MOST_NAME_BYTES ≡ true → first_is (λ b. b == 39) rest ≡ false → front_of (quoted f ++ rest) ≡ token (name_token f true (first_is (λ b. b == 40) rest)) rest
quoted_name_front f rest all short none =
    ap (λ x. front_of (39 ∷ x)) (append_assoc (doubled f) (39 ∷ []) rest)
    ∙ ap quoted_front (doubled_ends f [] rest all none)
    ∙ short_front true f rest short

-- a name with its quotes, if it needs them
name_front_by : (x : Bool) (f rest : List ℕ) → is_bare f ≡ x → is_text f ≡ true → first_is is_word_byte rest ≡ false → first_is (λ b. b == 39) rest ≡ false → front_of ((if x then f else quoted f) ++ rest) ≡ token (name_token f (not x) (first_is (λ b. b == 40) rest)) rest
name_front_by true f rest is fine no_word no_quote = bare_front f rest is (and_parts (nat_le (length f) MOST_NAME_BYTES) (list_all is_name_byte f) fine).0 no_word
name_front_by false f rest is fine no_word no_quote =
    let both = and_parts (nat_le (length f) MOST_NAME_BYTES) (list_all is_name_byte f) fine in
    quoted_name_front f rest both.1 both.0 no_quote

-- a name before arguments
pub lexes_called : (f rest : List ℕ) (ts : List Numbered) → is_text f ≡ true → Lexes (40 ∷ rest) ts → Lexes (name_text f ++ 40 ∷ rest) (name_token f (not (is_bare f)) true ∷ ts)
lexes_called f rest ts fine behind = lexes_token (name_token f (not (is_bare f)) true) (name_front_by (is_bare f) f (40 ∷ rest) refl fine refl refl) behind

-- a name alone
pub lexes_name : (f rest : List ℕ) (ts : List Numbered) → is_text f ≡ true → Calm rest → Lexes rest ts → Lexes (name_text f ++ rest) (name_token f (not (is_bare f)) false ∷ ts)
lexes_name f rest ts fine calm behind =
    lexes_token (name_token f (not (is_bare f)) false)
    (name_front_by (is_bare f) f rest refl fine calm.no_word calm.no_quote ∙ ap (λ x. token (name_token f (not (is_bare f)) x) rest) calm.no_open)
    behind

-- digits that write a number
digits_in_front : (n : ℕ) (ds rest : List ℕ) → Writes n ds → nat_le n NUMBER_LIMIT ≡ true → first_is is_digit rest ≡ false → front_of (ds ++ rest) ≡ token (digits_token n) rest
digits_in_front n [] rest writes few none = absurd (omega (arith, writes.some))
digits_in_front n (d ∷ ds) rest writes few none =
    let both = and_parts (is_digit d) (list_all is_digit ds) writes.digits in
    sym (front_starts d (ds ++ rest))
    ∙ ap (λ s. front_by s d (ds ++ rest)) (digit_begins d both.0)
    ∙ ap (λ w. digits_front (number_of (d ∷ w)) (behind_digits (ds ++ rest))) (digits_stop ds rest both.1 none)
    ∙ ap (λ w. digits_front (number_of (d ∷ ds)) w) (behind_digits_is ds rest both.1 none)
    ∙ ap (λ m. digits_front m rest) writes.value
    ∙ ap (λ x. if x then token (digits_token n) rest else broken) few

-- a number of at most number_limit
pub lexes_digits : (n : ℕ) (rest : List ℕ) (ts : List Numbered) → n ≤ NUMBER_LIMIT → first_is is_digit rest ≡ false → Lexes rest ts → Lexes (decimal n ++ rest) (digits_token n ∷ ts)
lexes_digits n rest ts few none behind =
    lexes_token (digits_token n) (digits_in_front n (decimal n) rest (decimal_writes n (omega arith)) (le-leb n NUMBER_LIMIT few) none) behind

first_digit : (n : ℕ) (ds rest : List ℕ) → Writes n ds → first_is is_digit (ds ++ rest) ≡ true
first_digit n [] rest writes = absurd (omega (arith, writes.some))
first_digit n (d ∷ ds) rest writes = (and_parts (is_digit d) (list_all is_digit ds) writes.digits).0

-- a number of at most number_limit after a `-`
pub lexes_negative : (n : ℕ) (rest : List ℕ) (ts : List Numbered) → n ≤ NUMBER_LIMIT → first_is is_digit rest ≡ false → Lexes rest ts → Lexes (45 ∷ (decimal n ++ rest)) (minus_token true ∷ digits_token n ∷ ts)
lexes_negative n rest ts few none behind =
    lexes_token (minus_token true) (ap (λ x. token (minus_token x) (decimal n ++ rest)) (first_digit n (decimal n) rest (decimal_writes n (omega arith)))) (lexes_digits n rest ts few none behind)

-- a variable
pub lexes_variable : (v : ℕ) (rest : List ℕ) (ts : List Numbered) → v < NUMBER_LIMIT → first_is is_word_byte rest ≡ false → Lexes rest ts → Lexes (spelling v ++ rest) (variable_token v ∷ ts)
lexes_variable v rest ts few none behind =
    let words = digits_are_words (decimal v) (decimal_writes v (omega arith)).digits in
    let short = length-decimal-le 20 v (omega arith) (omega arith) (omega arith) in
    lexes_token (variable_token v)
    (ap (λ w. bounded MOST_VARIABLE_BYTES (95 ∷ w) (variable_token (95 ∷ w)) (behind_word (decimal v ++ rest))) (word_stops (decimal v) rest words none)
    ∙ ap (λ w. bounded MOST_VARIABLE_BYTES (spelling v) (variable_token (spelling v)) w) (behind_word_is (decimal v) rest words none)
    ∙ ap (λ x. if x then token (variable_token (spelling v)) rest else broken) (le-leb (length (spelling v)) MOST_VARIABLE_BYTES (omega (arith, short))))
    behind

-- a colon before what begins with neither `-` nor `=`
pub lexes_colon : (rest : List ℕ) (ts : List Numbered) → first_is (λ b. 45 == b) rest ≡ false → first_is (λ b. 61 == b) rest ≡ false → Lexes rest ts → Lexes (58 ∷ rest) (sign_token Colon ∷ ts)
lexes_colon [] ts no_minus no_equals behind = lexes_token (sign_token Colon) refl behind
lexes_colon (b ∷ bs) ts no_minus no_equals behind = lexes_token (sign_token Colon) (rw (no_minus, no_equals)) behind
