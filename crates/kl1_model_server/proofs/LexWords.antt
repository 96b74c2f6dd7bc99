-- Where the words and digits in front of a text stop, and what a byte begins.
use Rattle.std.specs.Prelude.{◌≡◌, ℕ, ◌+◌, ◌-◌, ◌*◌, ◌/◌, ◌%◌, ◌^◌, ◌≤◌, ◌<◌, ◌==◌, nat_le, not, ◌&&◌, ◌||◌, Bool, true, false, List, [], ◌∷◌, ◌++◌, length, decimal, fold}
use Rattle.std.specs.List.{list_all}
use Rattle.std.proofs.Common.{refl, ap, sym, ◌∙◌, arith}
use Rattle.std.proofs.lemmas.Bool.{and_parts, and_from, leb-true, le-leb, or_parts, or_left, or_right, agree_below_at}
use Rattle.std.proofs.lemmas.List.{length-append}
use Rattle.std.proofs.lemmas.List.Folds.{list_all-append}
use Rattle.std.proofs.lemmas.Fmt.{decimal_by_steps}
use Rattle.kl1_model.specs.Text.{leading, behind_leading}
use Rattle.kl1_model.specs.Name.{is_small_letter, is_word_byte}
use Rattle.kl1_model.specs.Token.{is_digit, first_is, word_of, behind_word, digits_of, behind_digits, number_of}
use Rattle.kl1_model.proofs.LexStarts.{Start, names, numbers, start_of}

-- a word goes to the first byte that is none of a word
pub word_stops : (ws rest : List ℕ) → list_all is_word_byte ws ≡ true → first_is is_word_byte rest ≡ false → word_of (ws ++ rest) ≡ ws
word_stops [] [] all none = refl
word_stops [] (b ∷ bs) all none = rw (none, leading)
word_stops (w ∷ ws) rest all none =
    let both = and_parts (is_word_byte w) (list_all is_word_byte ws) all in
    rw (both.0, leading) (ap (λ x. w ∷ x) (word_stops ws rest both.1 none))

-- after a word stands what is no part of it
pub behind_word_is : (ws rest : List ℕ) → list_all is_word_byte ws ≡ true → first_is is_word_byte rest ≡ false → behind_word (ws ++ rest) ≡ rest
behind_word_is [] [] all none = refl
behind_word_is [] (b ∷ bs) all none = rw (none, behind_leading)
behind_word_is (w ∷ ws) rest all none =
    let both = and_parts (is_word_byte w) (list_all is_word_byte ws) all in
    rw (both.0, behind_leading) (behind_word_is ws rest both.1 none)

-- digits go to the first byte that is none
pub digits_stop : (ds rest : List ℕ) → list_all is_digit ds ≡ true → first_is is_digit rest ≡ false → digits_of (ds ++ rest) ≡ ds
digits_stop [] [] all none = refl
digits_stop [] (b ∷ bs) all none = rw (none, leading)
digits_stop (d ∷ ds) rest all none =
    let both = and_parts (is_digit d) (list_all is_digit ds) all in
    rw (both.0, leading) (ap (λ x. d ∷ x) (digits_stop ds rest both.1 none))

-- after digits stands what is none
pub behind_digits_is : (ds rest : List ℕ) → list_all is_digit ds ≡ true → first_is is_digit rest ≡ false → behind_digits (ds ++ rest) ≡ rest
behind_digits_is [] [] all none = refl
behind_digits_is [] (b ∷ bs) all none = rw (none, behind_leading)
behind_digits_is (d ∷ ds) rest all none =
    let both = and_parts (is_digit d) (list_all is_digit ds) all in
    rw (both.0, behind_leading) (behind_digits_is ds rest both.1 none)

-- a digit is a byte of a word
digit_is_word : (b : ℕ) → is_digit b ≡ true → is_word_byte b ≡ true
digit_is_word b digit = or_left _ (b == 95) (or_right (is_small_letter b || nat_le 65 b && nat_le b 90) (is_digit b) digit)

-- digits are bytes of a word
pub digits_are_words : (ds : List ℕ) → list_all is_digit ds ≡ true → list_all is_word_byte ds ≡ true
digits_are_words [] all = refl
digits_are_words (d ∷ ds) all =
    let both = and_parts (is_digit d) (list_all is_digit ds) all in
    and_from (is_word_byte d) (list_all is_word_byte ds) (digit_is_word d both.0) (digits_are_words ds both.1)

-- if no word goes on, no digits do
pub no_word_no_digit : (bs : List ℕ) → first_is is_word_byte bs ≡ false → first_is is_digit bs ≡ false
no_word_no_digit [] none = refl
no_word_no_digit (b ∷ bs) none =
    let front = or_parts (is_small_letter b || nat_le 65 b && nat_le b 90 || is_digit b) (b == 95) none in
    (or_parts (is_small_letter b || nat_le 65 b && nat_le b 90) (is_digit b) front.0).1

-- whether a byte begins a name, and whether it begins digits
abbrev is_names : Start → Bool
is_names names = true
is_names _ = false

abbrev is_numbers : Start → Bool
is_numbers numbers = true
is_numbers _ = false

names_from : (s : Start) → is_names s ≡ true → s ≡ names
names_from names h = refl
names_from _ h = cc

numbers_from : (s : Start) → is_numbers s ≡ true → s ≡ numbers
numbers_from numbers h = refl
numbers_from _ h = cc

implied : (x y : Bool) → true ≡ (not x || y) → x ≡ true → y ≡ true
implied true y h is = sym h
implied false y h is = cc

-- a small letter begins a name
pub letter_begins : (b : ℕ) → is_small_letter b ≡ true → start_of b ≡ names
letter_begins b letter =
    let most = leb-true b 122 (and_parts (nat_le 97 b) (nat_le b 122) letter).1 in
    let table = agree_below_at (λ n. true) (λ n. not (is_small_letter n) || is_names (start_of n)) 123 b refl (omega arith) in
    names_from (start_of b) (implied (is_small_letter b) (is_names (start_of b)) table letter)

-- a digit begins digits
pub digit_begins : (b : ℕ) → is_digit b ≡ true → start_of b ≡ numbers
digit_begins b digit =
    let most = leb-true b 57 (and_parts (nat_le 48 b) (nat_le b 57) digit).1 in
    let table = agree_below_at (λ n. true) (λ n. not (is_digit n) || is_numbers (start_of n)) 58 b refl (omega arith) in
    numbers_from (start_of b) (implied (is_digit b) (is_numbers (start_of b)) table digit)

-- digits that write a number
pub record Writes (n : ℕ) (ds : List ℕ) : Type 0 where
  pub digits : list_all is_digit ds ≡ true
  pub value : number_of ds ≡ n
  pub some : 1 ≤ length ds

fold_push : (f : ℕ → ℕ → ℕ) (a : ℕ) (xs : List ℕ) (y : ℕ) → fold f a (xs ++ y ∷ []) ≡ f (fold f a xs) y
fold_push f a [] y = refl
fold_push f a (x ∷ xs) y = fold_push f (f a x) xs y

last_digit : (d : ℕ) → d < 10 → is_digit (48 + d) ≡ true
last_digit d small = and_from (nat_le 48 (48 + d)) (nat_le (48 + d) 57) (le-leb 48 (48 + d) (omega arith)) (le-leb (48 + d) 57 (omega arith))

one_digit : (n : ℕ) → n < 10 → Writes n ((48 + n) ∷ [])
one_digit n small = record { digits = and_from (is_digit (48 + n)) true (last_digit n small) refl; value = omega arith; some = omega arith }

more_digits : (n : ℕ) (ds : List ℕ) → 10 ≤ n → Writes (n / 10) ds → Writes n (ds ++ ((48 + n % 10) ∷ []))
more_digits n ds large front =
    let d = 48 + n % 10 in
    record {
      digits = list_all-append is_digit ds (d ∷ []) ∙ and_from (list_all is_digit ds) (is_digit d && true) front.digits (and_from (is_digit d) true (last_digit (n % 10) (omega arith)) refl);
      value = fold_push (λ m b. 10 * m + (b - 48)) 0 ds d ∙ omega (arith, front.value);
      some = omega (arith, length-append ds (d ∷ []));
    }

-- decimal digits write their number
pub decimal_writes : (n : ℕ) → n < 2 ^ 64 → Writes n (decimal n)
decimal_writes = decimal_by_steps Writes one_digit more_digits
