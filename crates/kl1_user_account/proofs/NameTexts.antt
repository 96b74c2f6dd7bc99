-- The name of an account is a name.
use Rattle.kl1_user_account.proofs.Words.{◌≡◌, ℕ, suc, ◌≤◌, ◌&&◌, ◌||◌, true, List, [], ◌∷◌, length, IsTrue, refl, arith, list_all, false≢true, and_parts, and_from, leb-true, le-leb, nat_tests, is_small_letter, is_text, is_name_byte, is_digit, MOST_ACCOUNT_NAME_BYTES, MOST_NAME_BYTES, is_account_name, ap}
use Rattle.std.proofs.Common.{nat_le}

byte_in_text : (b : ℕ) → (is_small_letter b || is_digit b) ≡ true → is_name_byte b ≡ true
byte_in_text b h = grind (arith, nat_tests)

bytes_in_text : (bs : List ℕ) → list_all (λ c. is_small_letter c || is_digit c) bs ≡ true → list_all is_name_byte bs ≡ true
bytes_in_text [] h = refl
bytes_in_text (b ∷ bs) h =
    let p = and_parts _ _ h in
    and_from _ _ (byte_in_text b p.0) (bytes_in_text bs p.1)

-- the name of an account is a name
pub account_is_text : (word : List ℕ) → is_account_name word ≡ true → IsTrue (is_text word)
account_is_text [] h = absurd (false≢true h)
account_is_text (b ∷ bs) h =
    let p = and_parts (is_small_letter b && list_all (λ c. is_small_letter c || is_digit c) bs) (nat_le (length (b ∷ bs)) MOST_ACCOUNT_NAME_BYTES) h in
    let q = and_parts (is_small_letter b) (list_all (λ c. is_small_letter c || is_digit c) bs) p.0 in
    let short : length (b ∷ bs) ≤ MOST_ACCOUNT_NAME_BYTES = leb-true (length (b ∷ bs)) MOST_ACCOUNT_NAME_BYTES p.1 in
    and_from _ _ (le-leb (suc (length bs)) MOST_NAME_BYTES (omega (arith, short))) (and_from _ _ (byte_in_text b (ap (λ x. x || is_digit b) q.0)) (bytes_in_text bs q.1))
