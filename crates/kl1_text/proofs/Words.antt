-- Names come back from the words that hold them.
use Rattle.std.proofs.Common.{lit<, nat_le, ◌≡◌, ℕ, zero, suc, ◌+◌, ◌-◌, ◌*◌, ◌/◌, ◌%◌, ◌^◌, ◌<◌, ◌≤◌, ◌==◌, if◌then◌else◌, List, [], ◌∷◌, ◌++◌, length, take, drop, replicate, slice_index, slice_set, IsTrue, refl, true, false, Bool, ap, subst, inl, inr, ◌∙◌, sym, arith, Decides, bytes_eq, add_comm, get_or, sub-one, add-one}
use Rattle.std.specs.List.{list_all}
use Rattle.std.specs.Bool.{one_answer}
use Rattle.std.proofs.lemmas.Slice.Eq.{bytes_eq-Decides}
use Rattle.std.proofs.Math.Nat.{mul-suc, pow-suc, pow-le-pow_right, one-le-pow}
use Rattle.std.proofs.Math.Seq.{take-add, drop-cons}
use Rattle.std.proofs.lemmas.List.{take_all, drop_all, drop-drop, length-drop, length-set, length-replicate, get_or-set_same, get_or-set_other, ext_get_or}
use Rattle.std.proofs.lemmas.Bool.{and_parts, leb-true, ne_eqb, eq-eqb, cases_eq, cases_lt}
use Rattle.kl1_model.specs.declared.limits.TheConstants.{MOST_NAME_BYTES}
use Rattle.kl1_model.specs.Text.{is_name_byte, is_text}
use Rattle.kl1_text.specs.Words.{name_words, number_of, bytes_in, words_of, bytes_of, word_at, word_count, words_to_end, HoldsName}

-- a byte of a name is neither zero nor over 126
pub name_byte_bounds : (b : ℕ) → is_name_byte b ≡ true → (32 ≤ b) × (b ≤ 126)
name_byte_bounds b h = let p = and_parts _ _ h in (leb-true 32 b p.0, leb-true b 126 p.1)

-- the lowest byte, and what is above it
low_byte : (b r : ℕ) → b < 256 → ((b + 256 * r) % 256 ≡ b) × ((b + 256 * r) / 256 ≡ r)
low_byte b r small = (omega arith, omega arith)

-- a number of name bytes has those bytes
pub bytes_in-number_of : (n : ℕ) (bs : List ℕ) → list_all is_name_byte bs ≡ true → bytes_in n (number_of n bs) ≡ take n bs
unfolding bytes_in number_of
bytes_in-number_of zero bs h = refl
bytes_in-number_of (suc n) [] h = refl
bytes_in-number_of (suc n) (b ∷ bs) h =
    let p = and_parts _ _ h in
    let bounds = name_byte_bounds b p.0 in
    let small : b < 256 = omega arith in
    let low = low_byte b (number_of n bs) small in
    rw (low.0, low.1, ne_eqb b 0 (λ e. absurd (omega arith))) (ap (λ xs. b ∷ xs) (bytes_in-number_of n bs p.1))

-- bytes further on are name bytes too
names-drop : (n : ℕ) (bs : List ℕ) → list_all is_name_byte bs ≡ true → list_all is_name_byte (drop n bs) ≡ true
names-drop zero bs h = h
names-drop (suc n) [] h = h
names-drop (suc n) (b ∷ bs) h = names-drop n bs (and_parts _ _ h).1

-- eight bytes and those after them
eight_more : (n : ℕ) (bs : List ℕ) → take 8 bs ++ take (8 * n) (drop 8 bs) ≡ take (8 * suc n) bs
eight_more n bs = rw (mul-suc 8 n, add_comm (8 * n) 8) (sym (take-add 8 (8 * n) bs))

-- words that hold name bytes have those bytes
pub bytes_of-words_of : (n : ℕ) (bs : List ℕ) → list_all is_name_byte bs ≡ true → bytes_of (words_of n bs) ≡ take (8 * n) bs
unfolding bytes_of words_of
bytes_of-words_of zero bs h = refl
bytes_of-words_of (suc n) bs h =
    rw (bytes_in-number_of 8 bs h, bytes_of-words_of n (drop 8 bs) (names-drop 8 bs h)) (eight_more n bs)

-- words hold a name that they have room for
held_in : (n : ℕ) (bs : List ℕ) → list_all is_name_byte bs ≡ true → length bs ≤ 8 * n → bytes_of (words_of n bs) ≡ bs
held_in n bs h room = bytes_of-words_of n bs h ∙ take_all (8 * n) bs room

-- the bytes of a name
pub name_bytes : (bs : List ℕ) → IsTrue (is_text bs) → list_all is_name_byte bs ≡ true
name_bytes bs h = (and_parts (nat_le (length bs) MOST_NAME_BYTES) (list_all is_name_byte bs) h).1

-- a name is short
pub name_length : (bs : List ℕ) → IsTrue (is_text bs) → length bs ≤ MOST_NAME_BYTES
name_length bs h = leb-true (length bs) MOST_NAME_BYTES (and_parts (nat_le (length bs) MOST_NAME_BYTES) (list_all is_name_byte bs) h).0

-- `name_words` words hold a name
pub words_hold : (bs : List ℕ) → IsTrue (is_text bs) → bytes_of (words_of name_words bs) ≡ bs
words_hold bs h = held_in name_words bs (name_bytes bs h) (let l = name_length bs h in omega arith)

-- so do those up to the one in which it ends
pub ended_hold : (bs : List ℕ) → IsTrue (is_text bs) → bytes_of (words_to_end bs) ≡ bs
ended_hold bs h = held_in (word_count bs) bs (name_bytes bs h) (omega arith)

-- and those are no more
pub few_words : (bs : List ℕ) → IsTrue (is_text bs) → word_count bs ≤ name_words
few_words bs h = let l = name_length bs h in omega arith

-- `words_of n` gives `n` words
pub length-words_of : (n : ℕ) (bs : List ℕ) → length (words_of n bs) ≡ n
unfolding words_of
length-words_of zero bs = refl
length-words_of (suc n) bs = ap suc (length-words_of n _)

-- which are the words of the bytes
pub word_of : (n k : ℕ) (bs : List ℕ) → k < n → slice_index (words_of n bs) k ≡ word_at bs k
unfolding words_of
word_of zero k bs h = absurd (omega arith)
word_of (suc n) zero bs h = refl
word_of (suc n) (suc k) bs h =
    let next : drop (8 * k) (drop 8 bs) ≡ drop (8 * suc k) bs = drop-drop (8 * k) 8 bs ∙ ap (λ i. drop i bs) (let e : 8 + 8 * k ≡ 8 * suc k = omega arith in e) in
    word_of n k (drop 8 bs) (omega arith) ∙ ap (number_of 8) next

-- fewer words are the first of more
pub take-words_of : (m n : ℕ) (bs : List ℕ) → m ≤ n → take m (words_of n bs) ≡ words_of m bs
unfolding words_of
take-words_of zero n bs h = refl
take-words_of (suc m) zero bs h = absurd (omega arith)
take-words_of (suc m) (suc n) bs h = ap (λ ws. number_of 8 bs ∷ ws) (take-words_of m n (drop 8 bs) (omega arith))

-- a number of few bytes is small
few_bytes : (n m : ℕ) (bs : List ℕ) → list_all is_name_byte bs ≡ true → length bs ≤ m → number_of n bs < 256 ^ m
unfolding number_of
few_bytes zero m bs h l = one-le-pow m 256 (omega arith)
few_bytes (suc n) m [] h l = one-le-pow m 256 (omega arith)
few_bytes (suc n) zero (b ∷ bs) h l = absurd (omega arith)
few_bytes (suc n) (suc m) (b ∷ bs) h l =
    let p = and_parts (is_name_byte b) (list_all is_name_byte bs) h in
    let bounds = name_byte_bounds b p.0 in
    let rest : number_of n bs < 256 ^ m = few_bytes n m bs p.1 (omega arith) in
    rw (pow-suc 256 m) (omega arith)

-- and one of more bytes isn't
many_bytes : (n m : ℕ) (bs : List ℕ) → list_all is_name_byte bs ≡ true → n ≤ m → n < length bs → 256 ^ n ≤ number_of (suc m) bs
unfolding number_of
many_bytes n m [] h few l = absurd (omega arith)
many_bytes zero m (b ∷ bs) h few l = let bounds = name_byte_bounds b (and_parts (is_name_byte b) (list_all is_name_byte bs) h).0 in omega arith
many_bytes (suc n) zero (b ∷ bs) h few l = absurd (omega arith)
many_bytes (suc n) (suc m) (b ∷ bs) h few l =
    let p = and_parts (is_name_byte b) (list_all is_name_byte bs) h in
    let rest : 256 ^ n ≤ number_of (suc m) bs = many_bytes n m bs p.1 (omega arith) (omega arith) in
    rw (pow-suc 256 n) (omega arith)

-- a word that is full has eight bytes
pub full_word : (bs : List ℕ) (k : ℕ) → IsTrue (is_text bs) → 256 ^ 7 ≤ word_at bs k → 8 * k + 8 ≤ length bs
full_word bs k h full = elim (cases_lt (length bs) (8 * k + 8)) [
  | inl short ↦
      let less : word_at bs k < 256 ^ 7 = few_bytes 8 7 (drop (8 * k) bs) (names-drop (8 * k) bs (name_bytes bs h)) (let l = length-drop (8 * k) bs in omega arith) in
      absurd (omega arith)
  | inr long ↦ long
]

-- one that isn't has fewer
pub short_word : (bs : List ℕ) (k : ℕ) → IsTrue (is_text bs) → word_at bs k < 256 ^ 7 → length bs < 8 * k + 8
short_word bs k h less = elim (cases_lt (length bs) (8 * k + 8)) [
  | inl short ↦ short
  | inr long ↦
      let full : 256 ^ 7 ≤ word_at bs k = many_bytes 7 7 (drop (8 * k) bs) (names-drop (8 * k) bs (name_bytes bs h)) (omega arith) (let l = length-drop (8 * k) bs in omega arith) in
      absurd (omega arith)
]

-- a name whose word is full, as the other's, goes on
goes_on : (t u : List ℕ) (k : ℕ) → IsTrue (is_text t) → IsTrue (is_text u) → word_at u k ≡ word_at t k → suc k < word_count t → suc k < word_count u
goes_on t u k name its same within = elim (cases_lt (word_at t k) (256 ^ 7)) [
  | inl less ↦ let l = short_word t k name less in absurd (omega arith)
  | inr full ↦ let l = full_word u k its (rw same full) in omega arith
]

-- so a name whose words so far are another's goes on if the other does
pub goes_to : (t u : List ℕ) (k : ℕ) → IsTrue (is_text t) → IsTrue (is_text u) → ((j : ℕ) → j < k → word_at u j ≡ word_at t j) → k < word_count t → k < word_count u
goes_to t u zero name its same within = omega arith
goes_to t u (suc k) name its same within = goes_on t u k name its (same k (omega arith)) within

-- names whose words are the same as far as both go go equally far
goes_with : (t u : List ℕ) (k : ℕ) → IsTrue (is_text t) → IsTrue (is_text u) → ((j : ℕ) → j < word_count t → j < word_count u → word_at u j ≡ word_at t j) → k < word_count t → k < word_count u
goes_with t u zero name its same within = omega arith
goes_with t u (suc k) name its same within =
    let before : k < word_count u = goes_with t u k name its same (omega arith) in
    goes_on t u k name its (same k (omega arith) before) within

-- names whose words are the same as far as one of them goes are one
pub same_to_end : (t u : List ℕ) → IsTrue (is_text t) → IsTrue (is_text u) → ((k : ℕ) → k < word_count t → word_at u k ≡ word_at t k) → u ≡ t
same_to_end t u name its same =
    let last : length t / 8 < word_count u = goes_to t u (length t / 8) name its (λ j h. same j (omega arith)) (omega arith) in
    let ends : length u < 8 * (length t / 8) + 8 = elim (cases_lt (word_at t (length t / 8)) (256 ^ 7)) [
      | inl less ↦ short_word u (length t / 8) its (rw (same (length t / 8) (omega arith)) less)
      | inr full ↦ let l = full_word t (length t / 8) name full in absurd (omega arith)
    ] in
    let count : word_count u ≡ word_count t = omega arith in
    let words : words_of (word_count t) u ≡ words_of (word_count t) t = ext_get_or 0 (words_of (word_count t) u) (words_of (word_count t) t) (length-words_of (word_count t) u ∙ sym (length-words_of (word_count t) t))
    (λ k h. let below : k < word_count t = subst (λ m. k < m) (length-words_of (word_count t) u) h in word_of (word_count t) k u below ∙ same k below ∙ sym (word_of (word_count t) k t below)) in
    sym (ended_hold u its) ∙ ap bytes_of (ap (λ n. words_of n u) count ∙ words) ∙ ended_hold t name

-- and so are names whose words are the same as far as both go
pub one_name : (t u : List ℕ) → IsTrue (is_text t) → IsTrue (is_text u) → ((k : ℕ) → k < word_count t → k < word_count u → word_at u k ≡ word_at t k) → u ≡ t
one_name t u name its same = same_to_end t u name its (λ k h. same k h (goes_with t u k name its same h))

-- no bytes as a number
pub number_of_none : (n : ℕ) (bs : List ℕ) → n ≡ 0 → number_of n bs ≡ 0
unfolding number_of
number_of_none zero bs e = refl
number_of_none (suc n) bs e = absurd (omega arith)

-- if no byte is left
pub number_of_end : (n : ℕ) (bs : List ℕ) → length bs < 1 → number_of n bs ≡ 0
unfolding number_of
number_of_end zero bs e = refl
number_of_end (suc n) [] e = refl
number_of_end (suc n) (b ∷ bs) e = absurd (omega arith)

-- no word is left after the end
pub no_word : (bs : List ℕ) (k : ℕ) → length bs ≤ 8 * k → word_at bs k ≡ 0
no_word bs k past = number_of_end 8 (drop (8 * k) bs) (rw (drop_all (8 * k) bs past) (omega arith))

-- the first byte and those after it
pub number_of_step : (n : ℕ) (bs : List ℕ) → 0 < n → 0 < length bs → number_of n bs ≡ get_or bs 0 0 + 256 * number_of (n - 1) (drop 1 bs)
unfolding number_of
number_of_step zero bs h l = absurd (omega arith)
number_of_step (suc n) [] h l = absurd (omega arith)
number_of_step (suc n) (b ∷ bs) h l = rw sub-one refl

-- one byte more has room
pub one_byte_more : (n b r : ℕ) → 0 < n → b < 256 → r < 256 ^ (n - 1) → b + 256 * r < 256 ^ n
one_byte_more zero b r h small below = absurd (omega arith)
one_byte_more (suc n) b r h small below =
    let less : r < 256 ^ n = rw sub-one at below in
    rw (pow-suc 256 n) (omega arith)

-- eight bytes fit a word
pub eight_fit : (n r : ℕ) → n ≤ 8 → r < 256 ^ n → r < 2 ^ 64
eight_fit n r few below =
    let most : 256 ^ n ≤ 256 ^ 8 = pow-le-pow_right (lit< tt) few in
    omega arith

-- a word of a name, of all those that hold it
held_word : (t ws : List ℕ) (k : ℕ) → ws ≡ words_of name_words t → k < name_words → slice_index ws k ≡ word_at t k
held_word t ws k e within = ap (λ vs. slice_index vs k) e ∙ word_of name_words k t within

-- names are one if all words are the same as far as one of them goes
pub same_by : (xs ys vs ws : List ℕ) (n : ℕ) → vs ≡ words_of name_words xs → ws ≡ words_of name_words ys → IsTrue (is_text xs) → IsTrue (is_text ys) → word_count xs ≤ n → n ≤ name_words
    → ((k : ℕ) → k < n → slice_index vs k ≡ slice_index ws k) → Decides true (xs ≡ ys)
same_by xs ys vs ws n e d name its enough few same =
    let one : ys ≡ xs = same_to_end xs ys name its (λ k h. sym (held_word ys ws k d (omega arith)) ∙ sym (same k (omega arith)) ∙ held_word xs vs k e (omega arith)) in
    ((λ yes. sym one), (λ are. refl))

-- the words up to a short one are all that a name takes
pub ends_within : (t ws : List ℕ) (k : ℕ) → ws ≡ words_of name_words t → IsTrue (is_text t) → k < name_words → slice_index ws k < 256 ^ 7 → word_count t ≤ k + 1
ends_within t ws k e name within less =
    let word = held_word t ws k e within in
    let small : word_at t k < 256 ^ 7 = omega arith in
    let short = short_word t k name small in omega arith

-- a test of whether two lists are one is the test of their elements
pub same_bytes : (xs ys : List ℕ) (r : Bool) → Decides r (xs ≡ ys) → r ≡ bytes_eq xs ys
same_bytes xs ys r h = one_answer r (bytes_eq xs ys) h (bytes_eq-Decides xs ys)

-- no bytes, if none is left
pub bytes_in_none : (n w : ℕ) → n ≡ 0 → bytes_in n w ≡ []
unfolding bytes_in
bytes_in_none zero w e = refl
bytes_in_none (suc n) w e = absurd (omega arith)

-- if the lowest byte is zero
pub bytes_in_zero : (n w : ℕ) → w % 256 ≡ 0 → bytes_in n w ≡ []
unfolding bytes_in
bytes_in_zero zero w e = refl
bytes_in_zero (suc n) w e = rw (eq-eqb (w % 256) 0 e) refl

-- the lowest byte and those above it
pub bytes_in_step : (n w : ℕ) → 0 < n → (w % 256 ≡ 0 → ⊥) → bytes_in n w ≡ w % 256 ∷ bytes_in (n - 1) (w / 256)
unfolding bytes_in
bytes_in_step zero w h some = absurd (omega arith)
bytes_in_step (suc n) w h some = rw (ne_eqb (w % 256) 0 some, sub-one) refl

-- the bytes of no words
pub bytes_of_none : (i : ℕ) (ws : List ℕ) → length ws ≤ i → bytes_of (drop i ws) ≡ []
unfolding bytes_of
bytes_of_none i ws h = rw (drop_all i ws h) refl

-- the bytes of a word and of those after it
pub bytes_of_step : (i : ℕ) (ws : List ℕ) → i < length ws → bytes_of (drop i ws) ≡ bytes_in 8 (get_or ws i 0) ++ bytes_of (drop (i + 1) ws)
unfolding bytes_of
bytes_of_step i ws h = rw (drop-cons ws i 0, add-one) refl

-- `n` bytes at most
length-bytes_in : (n w : ℕ) → length (bytes_in n w) ≤ n
unfolding bytes_in
length-bytes_in zero w = omega arith
length-bytes_in (suc n) w = elim (w % 256 == 0) as (λ b. length (if b then [] else w % 256 ∷ bytes_in n (w / 256)) ≤ suc n) [ true ↦ omega arith | false ↦ let l = length-bytes_in n (w / 256) in omega arith ]

-- a name whose second word is zero has eight bytes at most
pub one_word : (t : List ℕ) → IsTrue (is_text t) → word_at t 1 ≡ 0 → length t ≤ 8
one_word t name empty = elim (cases_lt 8 (length t)) [
  | inl long ↦
      let some : 256 ^ 0 ≤ word_at t 1 = many_bytes 0 7 (drop (8 * 1) t) (names-drop (8 * 1) t (name_bytes t name)) (omega arith) (let l = length-drop (8 * 1) t in omega arith) in
      absurd (omega arith)
  | inr short ↦ short
]

-- its first word has its bytes
pub word_bytes : (t : List ℕ) → IsTrue (is_text t) → length t ≤ 8 → bytes_in 8 (number_of 8 t) ≡ t
word_bytes t name short = bytes_in-number_of 8 t (name_bytes t name) ∙ take_all 8 t short

-- and so holds it
pub holds_name : (t : List ℕ) → IsTrue (is_text t) → length t ≤ 8 → HoldsName (number_of 8 t)
holds_name t name short =
    let e = word_bytes t name short in
    record { same = ap (number_of 8) (sym e); name = subst (λ bs. IsTrue (is_text bs)) (sym e) name }

-- a word that holds a name, and zeros after it, are the name's words
pub words_of_one : (ws : List ℕ) (w : ℕ) → HoldsName w → length ws ≡ name_words → slice_index ws 0 ≡ w → ((k : ℕ) → 0 < k → slice_index ws k ≡ 0) → ws ≡ words_of name_words (bytes_in 8 w)
words_of_one ws w holds size first others =
    ext_get_or 0 ws (words_of name_words (bytes_in 8 w)) (size ∙ sym (length-words_of name_words (bytes_in 8 w)))
    (λ k h. let below : k < name_words = subst (λ m. k < m) size h in elim (cases_eq k 0) [
      | inl here ↦ rw here (first ∙ holds.same ∙ sym (word_of name_words 0 (bytes_in 8 w) (omega arith)))
      | inr other ↦ others k (omega arith) ∙ sym (word_of name_words k (bytes_in 8 w) below ∙ no_word (bytes_in 8 w) k (let l = length-bytes_in 8 w in omega arith))
    ])

-- zeros
zeros_at : (n k : ℕ) → slice_index (replicate n 0) k ≡ 0
zeros_at zero k = refl
zeros_at (suc n) zero = refl
zeros_at (suc n) (suc k) = zeros_at n k

-- a word put before zeros, and the bytes of that row
pub row_of_word : (w : ℕ) → HoldsName w → slice_set (replicate name_words 0) 0 w ≡ words_of name_words (bytes_in 8 w)
row_of_word w holds =
    let size : length {A = ℕ} (replicate name_words 0) ≡ name_words = length-replicate {A = ℕ} name_words 0 in
    words_of_one (slice_set (replicate name_words 0) 0 w) w holds (length-set (replicate name_words 0) 0 w ∙ size) (get_or-set_same (replicate name_words 0) 0 w 0 (omega (arith, size)))
    (λ k h. get_or-set_other (replicate name_words 0) 0 k w 0 (λ same. absurd (omega arith)) ∙ zeros_at name_words k)

pub bytes_of_row : (w : ℕ) → HoldsName w → bytes_of (slice_set (replicate name_words 0) 0 w) ≡ bytes_in 8 w
bytes_of_row w holds = ap bytes_of (row_of_word w holds) ∙ words_hold (bytes_in 8 w) holds.name
