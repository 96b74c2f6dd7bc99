-- What holds of words, digits and quotes in front of a text.
use Rattle.std.proofs.Common.{◌≡◌, ℕ, ◌-◌, ◌<◌, ◌≤◌, ◌==◌, Bool, true, false, List, [], ◌∷◌, ◌++◌, length, take, IsTrue, Some, None, refl, ap, arith, length-append}
use Rattle.std.specs.List.{list_all}
use Rattle.std.proofs.Math.Seq.{take-append_seam}
use Rattle.std.proofs.lemmas.Bool.Decides.{nat_tests}
use Rattle.std.proofs.lemmas.Bool.{and_from, lt-leb}
use Rattle.std.proofs.lemmas.List.Folds.{list_all-append}
use Rattle.kl1_model.specs.declared.limits.TheConstants.{MOST_NAME_BYTES}
use Rattle.kl1_model.specs.Text.{is_name_byte}
use Rattle.kl1_model.specs.Name.{is_word_byte}
use Rattle.kl1_model.specs.Token.{word_of, behind_word, digits_of, behind_digits, is_digit}
use Rattle.kl1_model.specs.code.Fronts.{quoted_from}
use Rattle.kl1_read.specs.Quotes.{short}

-- the front part of a text, by what is after it
front_taken : (xs ys zs : List ℕ) → xs ++ ys ≡ zs → take (length zs - length ys) zs ≡ xs
front_taken xs ys zs e =
    let n : length (xs ++ ys) - length ys ≡ length xs = omega (arith, length-append xs ys) in
    rw (← e) (rw n (take-append_seam xs ys))

-- a word and what is after it are the text
word_joined : (bs : List ℕ) → word_of bs ++ behind_word bs ≡ bs
word_joined [] = refl
word_joined (b ∷ bs) =
    elim (is_word_byte b) as (λ w. (elim w [ true ↦ b ∷ word_of bs | false ↦ [] ]) ++ (elim w [ true ↦ behind_word bs | false ↦ b ∷ bs ]) ≡ b ∷ bs) [ true ↦ ap (λ cs. b ∷ cs) (word_joined bs) | false ↦ refl ]

-- digits and what is after them are the text
digits_joined : (bs : List ℕ) → digits_of bs ++ behind_digits bs ≡ bs
digits_joined [] = refl
digits_joined (b ∷ bs) =
    elim (is_digit b) as (λ w. (elim w [ true ↦ b ∷ digits_of bs | false ↦ [] ]) ++ (elim w [ true ↦ behind_digits bs | false ↦ b ∷ bs ]) ≡ b ∷ bs) [ true ↦ ap (λ cs. b ∷ cs) (digits_joined bs) | false ↦ refl ]

-- the word that begins with a byte, as a part of its text
pub word_taken : (b : ℕ) (bs : List ℕ) → take (length (b ∷ bs) - length (behind_word bs)) (b ∷ bs) ≡ b ∷ word_of bs
word_taken b bs =
    front_taken (b ∷ word_of bs) (behind_word bs) (b ∷ bs) (ap (λ cs. b ∷ cs) (word_joined bs))

-- the digits that begin with a byte, as a part of their text
pub digits_taken : (b : ℕ) (bs : List ℕ) → take (length (b ∷ bs) - length (behind_digits bs)) (b ∷ bs) ≡ b ∷ digits_of bs
digits_taken b bs =
    front_taken (b ∷ digits_of bs) (behind_digits bs) (b ∷ bs) (ap (λ cs. b ∷ cs) (digits_joined bs))

-- what is after a word is no longer than the text
pub behind_word_length : (bs : List ℕ) → length (behind_word bs) ≤ length bs
behind_word_length bs = omega (arith, length-append (word_of bs) (behind_word bs), ap length (word_joined bs))

-- what is after digits is no longer than the text
pub behind_digits_length : (bs : List ℕ) → length (behind_digits bs) ≤ length bs
behind_digits_length bs = omega (arith, length-append (digits_of bs) (behind_digits bs), ap length (digits_joined bs))

-- a byte of a word is a byte of a name
word_byte_named : (b : ℕ) → is_word_byte b ≡ true → is_name_byte b ≡ true
word_byte_named b h = grind (arith, nat_tests)

word_named_by : (b : ℕ) (w : Bool) (cs : List ℕ) → (w ≡ true → is_name_byte b ≡ true) → IsTrue (list_all is_name_byte cs) → IsTrue (list_all is_name_byte (elim w [ true ↦ b ∷ cs | false ↦ [] ]))
word_named_by b true cs h k = and_from (is_name_byte b) (list_all is_name_byte cs) (h refl) k
word_named_by b false cs h k = refl

-- the bytes of a word are bytes of a name
pub word_named : (bs : List ℕ) → IsTrue (list_all is_name_byte (word_of bs))
word_named [] = refl
word_named (b ∷ bs) = word_named_by b (is_word_byte b) (word_of bs) (word_byte_named b) (word_named bs)

-- a name with one more byte
pub name_grows : (text : List ℕ) (b : ℕ) → IsTrue (list_all is_name_byte text) → IsTrue (is_name_byte b) → IsTrue (list_all is_name_byte (text ++ b ∷ []))
name_grows text b h k = rw list_all-append (and_from _ _ h (and_from _ _ k refl))

-- a text in quotes of more than most_name_bytes bytes is no name
pub quotes_too_long : (after : Bool) (text bs : List ℕ) → MOST_NAME_BYTES < length text → short (quoted_from after text bs) ≡ None
quotes_too_long true text [] h = rw (lt-leb (length text) MOST_NAME_BYTES h)
quotes_too_long false text [] h = refl
quotes_too_long true text (b ∷ bs) h =
    elim (b == 39) as (λ w. short (elim w [ true ↦ quoted_from false (text ++ b ∷ []) bs | false ↦ Some (text, b ∷ bs) ]) ≡ None) [ true ↦ quotes_too_long false (text ++ b ∷ []) bs (omega (arith, length-append text (b ∷ []))) | false ↦ (rw (lt-leb (length text) MOST_NAME_BYTES h)) ]
quotes_too_long false text (b ∷ bs) h =
    elim (b == 39) as (λ w. short (elim w [ true ↦ quoted_from true text bs | false ↦ elim (is_name_byte b) [ true ↦ quoted_from false (text ++ b ∷ []) bs | false ↦ None ] ]) ≡ None) [ true ↦ quotes_too_long true text bs h | false ↦ elim (is_name_byte b) as (λ w. short (elim w [ true ↦ quoted_from false (text ++ b ∷ []) bs | false ↦ None ]) ≡ None) [ true ↦ quotes_too_long false (text ++ b ∷ []) bs (omega (arith, length-append text (b ∷ []))) | false ↦ refl ] ]
