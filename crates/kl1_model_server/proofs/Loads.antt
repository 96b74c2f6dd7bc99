-- The line of a load as it is kept: it reads back.
use Rattle.std.proofs.Common.{◌≡◌, ℕ, ◌+◌, ◌-◌, ◌*◌, ◌/◌, ◌%◌, ◌^◌, ◌<◌, ◌≤◌, nat_le, Bool, true, false, ◌&&◌, List, [], ◌∷◌, ◌++◌, length, codes, decimal, bytes_eq, Option, Some, None, refl, ap, sym, ◌∙◌, arith, append_assoc, length-append, lit<}
use Rattle.std.specs.Prelude.{fold}
use Rattle.std.specs.List.{list_all, list_any}
use Rattle.std.proofs.lemmas.List.{append-nil}
use Rattle.std.proofs.lemmas.Bool.{true≢false, and_parts, and_from, le-leb, lt-ltb, leb-true, ltb-true, eqb-true, ne_eqb}
use Rattle.std.proofs.lemmas.Fmt.{decimal_by_steps, length-decimal-le}
use Rattle.kl1_model.specs.declared.limits.TheConstants.{MOST_COMMAND_BYTES, MOST_SOURCE_BYTES, MOST_DIGITS, NUMBER_LIMIT}
use Rattle.kl1_model.specs.Token.{is_digit, number_of}
use Rattle.kl1_model.specs.Line.{is_space, first_word, behind_first, word_in, behind_word_in, number_in, up_to, only_number, without_return, line_in, behind_feed}
use Rattle.kl1_model.specs.Record.{source_bytes_in}
use Rattle.kl1_model_server.specs.Cut.{has_feed}
use Rattle.kl1_model_server.proofs.Feeds.{before_at, behind_at, feed_at}

-- a digit is no blank, no line feed and no carriage return
digit_range : (b : ℕ) → is_digit b ≡ true → (48 ≤ b) × (b ≤ 57)
digit_range b h = let p = and_parts (nat_le 48 b) (nat_le b 57) h in (leb-true 48 b p.0, leb-true b 57 p.1)

digit_no_space : (b : ℕ) → is_digit b ≡ true → is_space b ≡ false
digit_no_space b h =
    let r : (48 ≤ b) × (b ≤ 57) = digit_range b h in
    rw (ne_eqb b 32 (λ e. omega (arith, r.0, e)), ne_eqb b 9 (λ e. omega (arith, r.0, e))) refl

-- a word of digits alone
digits_word : (a : ℕ) (before bs : List ℕ) → list_all is_digit bs ≡ true → first_word (a ∷ before) bs ≡ (a ∷ before) ++ bs
digits_word a before [] h = ap (λ x. a ∷ x) (sym (append-nil before))
digits_word a before (b ∷ bs) h =
    let p = and_parts (is_digit b) (list_all is_digit bs) h in
    rw (digit_no_space b p.0, first_word) (digits_word a (before ++ b ∷ []) bs p.1 ∙ ap (λ x. a ∷ x) (append_assoc before (b ∷ []) bs))

digits_behind : (bs : List ℕ) → list_all is_digit bs ≡ true → behind_first true bs ≡ []
digits_behind [] h = refl
digits_behind (b ∷ bs) h =
    let p = and_parts (is_digit b) (list_all is_digit bs) h in
    rw (digit_no_space b p.0, behind_first) (digits_behind bs p.1)

word_of_digits : (bs : List ℕ) → list_all is_digit bs ≡ true → word_in bs ≡ bs
word_of_digits [] h = refl
word_of_digits (b ∷ bs) h =
    let p = and_parts (is_digit b) (list_all is_digit bs) h in
    rw (digit_no_space b p.0, first_word) (digits_word b [] bs p.1)

behind_of_digits : (bs : List ℕ) → list_all is_digit bs ≡ true → behind_word_in bs ≡ []
behind_of_digits [] h = refl
behind_of_digits (b ∷ bs) h =
    let p = and_parts (is_digit b) (list_all is_digit bs) h in
    rw (digit_no_space b p.0, behind_first) (digits_behind bs p.1)

-- digits have no line feed, and no carriage return at their end
pub digits_no_feed : (bs : List ℕ) → list_all is_digit bs ≡ true → has_feed bs ≡ false
digits_no_feed [] h = refl
digits_no_feed (b ∷ bs) h =
    let p = and_parts (is_digit b) (list_all is_digit bs) h in
    let r : (48 ≤ b) × (b ≤ 57) = digit_range b p.0 in
    rw (ne_eqb b 10 (λ e. omega (arith, r.0, e)), list_any) (digits_no_feed bs p.1)

digits_no_return : (bs : List ℕ) → list_all is_digit bs ≡ true → without_return bs ≡ bs
digits_no_return [] h = refl
digits_no_return (b ∷ []) h =
    let p = and_parts (is_digit b) true h in
    let r : (48 ≤ b) × (b ≤ 57) = digit_range b p.0 in
    rw (ne_eqb b 13 (λ e. omega (arith, r.0, e))) refl
digits_no_return (b ∷ c ∷ bs) h =
    let p = and_parts (is_digit b) (list_all is_digit (c ∷ bs)) h in
    ap (λ x. b ∷ x) (digits_no_return (c ∷ bs) p.1)

-- what holds of the digits `ds` of number `n`
record Writes (n : ℕ) (ds : List ℕ) : Type 0 where
  all : list_all is_digit ds ≡ true
  value : number_of ds ≡ n
  some : 0 < length ds

all_more : (ds : List ℕ) (b : ℕ) → list_all is_digit ds ≡ true → is_digit b ≡ true → list_all is_digit (ds ++ b ∷ []) ≡ true
all_more [] b h k = and_from (is_digit b) true k refl
all_more (d ∷ ds) b h k =
    let p = and_parts (is_digit d) (list_all is_digit ds) h in
    and_from (is_digit d) (list_all is_digit (ds ++ b ∷ [])) p.0 (all_more ds b p.1 k)

value_more : (n : ℕ) (ds : List ℕ) (b : ℕ) → fold (λ m c. 10 * m + (c - 48)) n (ds ++ b ∷ []) ≡ 10 * fold (λ m c. 10 * m + (c - 48)) n ds + (b - 48)
value_more n [] b = refl
value_more n (d ∷ ds) b = value_more (10 * n + (d - 48)) ds b

is_digit_of : (d : ℕ) → d < 10 → is_digit (48 + d) ≡ true
is_digit_of d h = and_from (nat_le 48 (48 + d)) (nat_le (48 + d) 57) (le-leb 48 (48 + d) (omega arith)) (le-leb (48 + d) 57 (omega arith))

one_digit : (n : ℕ) → n < 10 → Writes n ((48 + n) ∷ [])
one_digit n h = record { all = and_from (is_digit (48 + n)) true (is_digit_of n h) refl; value = omega arith; some = lit< tt }

more_digits : (n : ℕ) (ds : List ℕ) → 10 ≤ n → Writes (n / 10) ds → Writes n (ds ++ ((48 + n % 10) ∷ []))
more_digits n ds h w = record {
  all = all_more ds (48 + n % 10) w.all (is_digit_of (n % 10) (omega arith));
  value = value_more 0 ds (48 + n % 10) ∙ omega (arith, w.value);
  some = omega (arith, length-append ds ((48 + n % 10) ∷ []));
}

decimal_writes : (n : ℕ) → n < 2 ^ 64 → Writes n (decimal n)
decimal_writes = decimal_by_steps Writes one_digit more_digits

-- the words of the line, with any digits
load_words : (ds : List ℕ) → list_all is_digit ds ≡ true → only_number (32 ∷ ds) ≡ number_in ds
load_words ds h = rw (behind_of_digits ds h, word_of_digits ds h) refl

number_of_decimal : (n : ℕ) → n ≤ MOST_SOURCE_BYTES → number_in (decimal n) ≡ Some n
number_of_decimal n h =
    let w : Writes n (decimal n) = decimal_writes n (omega (arith, h)) in
    let few : length (decimal n) ≤ 5 = length-decimal-le 5 n (lit< tt) (omega (arith, h)) (omega (arith, h)) in
    rw (le-leb 1 (length (decimal n)) w.some, le-leb (length (decimal n)) MOST_DIGITS (omega (arith, few)), w.all, w.value, lt-ltb n NUMBER_LIMIT (omega (arith, h))) refl

-- the line of a load, without its end, asks for `n` bytes
pub source_of_load : (n : ℕ) → n ≤ MOST_SOURCE_BYTES → source_bytes_in (codes "load " ++ decimal n) ≡ Some n
source_of_load n h =
    let w : Writes n (decimal n) = decimal_writes n (omega (arith, h)) in
    let few : length (decimal n) ≤ 5 = length-decimal-le 5 n (lit< tt) (omega (arith, h)) (omega (arith, h)) in
    let short : nat_le (length (codes "load " ++ decimal n)) MOST_COMMAND_BYTES ≡ true = le-leb (length (codes "load " ++ decimal n)) MOST_COMMAND_BYTES (omega (arith, few)) in
    rw (short, load_words (decimal n) w.all, number_of_decimal n h, le-leb n MOST_SOURCE_BYTES h) refl

-- and stands in front of what follows
load_no_feed : (n : ℕ) → n ≤ MOST_SOURCE_BYTES → has_feed (codes "load " ++ decimal n) ≡ false
load_no_feed n h = digits_no_feed (decimal n) (decimal_writes n (omega (arith, h))).all

pub load_line : (n : ℕ) (bs : List ℕ) → n ≤ MOST_SOURCE_BYTES → line_in (codes "load " ++ decimal n ++ 10 ∷ bs) ≡ codes "load " ++ decimal n
load_line n bs h =
    let w : Writes n (decimal n) = decimal_writes n (omega (arith, h)) in
    ap without_return (before_at (codes "load " ++ decimal n) bs (load_no_feed n h)) ∙ no_return (decimal n) w.all w.some
  where
    no_return : (ds : List ℕ) → list_all is_digit ds ≡ true → 0 < length ds → without_return (codes "load " ++ ds) ≡ codes "load " ++ ds
    no_return [] all some = absurd (omega arith)
    no_return (d ∷ ds) all some = ap (λ x. codes "load " ++ x) (digits_no_return (d ∷ ds) all)

pub load_behind : (n : ℕ) (bs : List ℕ) → n ≤ MOST_SOURCE_BYTES → behind_feed (codes "load " ++ decimal n ++ 10 ∷ bs) ≡ bs
load_behind n bs h = behind_at (codes "load " ++ decimal n) bs (load_no_feed n h)

pub load_feed : (n : ℕ) (bs : List ℕ) → n ≤ MOST_SOURCE_BYTES → has_feed (codes "load " ++ decimal n ++ 10 ∷ bs) ≡ true
load_feed n bs h = feed_at (codes "load " ++ decimal n) bs (load_no_feed n h)

-- a line asks for no more bytes than a source may have
up_to_less : (most : ℕ) (o : Option ℕ) (n : ℕ) → up_to most o ≡ Some n → n ≤ most
up_to_less most None n h = cc
up_to_less most (Some m) n h = by (nat_le m most) refl
  where
    by : (v : Bool) → nat_le m most ≡ v → n ≤ most
    by true e = let i : m ≡ n = let j : Some m ≡ Some n = rw e at h in cc in omega (arith, leb-true m most e, i)
    by false e = let none : Option ℕ = None in let j : none ≡ Some n = rw e at h in cc

pub source_bounded : (line : List ℕ) (n : ℕ) → source_bytes_in line ≡ Some n → n ≤ MOST_SOURCE_BYTES
source_bounded line n h = by (nat_le (length line) MOST_COMMAND_BYTES && bytes_eq (word_in line) (codes "load")) refl
  where
    by : (v : Bool) → (nat_le (length line) MOST_COMMAND_BYTES && bytes_eq (word_in line) (codes "load")) ≡ v → n ≤ MOST_SOURCE_BYTES
    by true e = up_to_less MOST_SOURCE_BYTES (only_number (behind_word_in line)) n (rw e at h)
    by false e = let none : Option ℕ = None in let j : none ≡ Some n = rw e at h in cc

-- a line that is too long asks for none
pub source_too_long : (line : List ℕ) → MOST_COMMAND_BYTES < length line → source_bytes_in line ≡ None
source_too_long line h = rw (Rattle.std.proofs.lemmas.Bool.lt-leb (length line) MOST_COMMAND_BYTES h) refl
