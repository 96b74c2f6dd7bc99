-- Lines, names and words as parts of a text that end at places.
use Rattle.std.proofs.Common.{◌≡◌, ℕ, zero, suc, ◌+◌, ◌-◌, ◌<◌, ◌≢◌, eqb, true, false, List, [], ◌∷◌, ◌++◌, length, take, drop, get_or, refl, ap, sym, ◌∙◌, arith, add-one, append_assoc}
use Rattle.std.proofs.lemmas.List.{append-nil}
use Rattle.kl1_model.specs.Line.{is_space, first_word, behind_first, word_in, behind_word_in, before_feed, behind_feed, without_return, before_space, behind_space}
use Rattle.kl1_lines.specs.Places.{place_of, blank_place, BeginsWord}

pub before_feed_taken : (bs : List ℕ) → take (place_of 10 bs) bs ≡ before_feed bs
before_feed_taken [] = refl
before_feed_taken (b ∷ bs) = elim (eqb b 10) as (λ v. take (elim v [ true ↦ 0 | false ↦ suc (place_of 10 bs) ]) (b ∷ bs) ≡ elim v [ true ↦ [] | false ↦ b ∷ before_feed bs ]) [ true ↦ refl | false ↦ ap (λ x. b ∷ x) (before_feed_taken bs) ]

pub behind_feed_dropped : (bs : List ℕ) → drop (place_of 10 bs + 1) bs ≡ behind_feed bs
behind_feed_dropped [] = refl
behind_feed_dropped (b ∷ bs) = rw add-one (elim (eqb b 10) as (λ v. drop (suc (elim v [ true ↦ 0 | false ↦ suc (place_of 10 bs) ])) (b ∷ bs) ≡ elim v [ true ↦ bs | false ↦ behind_feed bs ]) [ true ↦ refl | false ↦ rw (add-one) at (behind_feed_dropped bs) ])

pub before_space_taken : (bs : List ℕ) → take (place_of 32 bs) bs ≡ before_space bs
before_space_taken [] = refl
before_space_taken (b ∷ bs) = elim (eqb b 32) as (λ v. take (elim v [ true ↦ 0 | false ↦ suc (place_of 32 bs) ]) (b ∷ bs) ≡ elim v [ true ↦ [] | false ↦ b ∷ before_space bs ]) [ true ↦ refl | false ↦ ap (λ x. b ∷ x) (before_space_taken bs) ]

pub behind_space_dropped : (bs : List ℕ) → drop (place_of 32 bs + 1) bs ≡ behind_space bs
behind_space_dropped [] = refl
behind_space_dropped (b ∷ bs) = rw add-one (elim (eqb b 32) as (λ v. drop (suc (elim v [ true ↦ 0 | false ↦ suc (place_of 32 bs) ])) (b ∷ bs) ≡ elim v [ true ↦ bs | false ↦ behind_space bs ]) [ true ↦ refl | false ↦ rw (add-one) at (behind_space_dropped bs) ])

-- a carriage return at the end is left out
pub return_left_out : (bs : List ℕ) (last : ℕ) → length bs ≡ suc last → get_or bs last 0 ≡ 13 → without_return bs ≡ take last bs
return_left_out [] last e r = absurd (omega arith)
return_left_out (b ∷ []) zero e r = rw r refl
return_left_out (b ∷ []) (suc last) e r = absurd (omega arith)
return_left_out (b ∷ c ∷ bs) zero e r = absurd (omega arith)
return_left_out (b ∷ c ∷ bs) (suc last) e r = ap (λ x. b ∷ x) (return_left_out (c ∷ bs) last (omega arith) r)

-- another byte stays
pub others_stay : (bs : List ℕ) (last : ℕ) → length bs ≡ suc last → get_or bs last 0 ≢ 13 → without_return bs ≡ bs
others_stay [] last e r = absurd (omega arith)
others_stay (b ∷ []) zero e r = grind arith
others_stay (b ∷ []) (suc last) e r = absurd (omega arith)
others_stay (b ∷ c ∷ bs) zero e r = absurd (omega arith)
others_stay (b ∷ c ∷ bs) (suc last) e r = ap (λ x. b ∷ x) (others_stay (c ∷ bs) last (omega arith) r)

-- a word that has begun goes on to the next blank
pub word_goes_on : (a : ℕ) (before bs : List ℕ) → first_word (a ∷ before) bs ≡ (a ∷ before) ++ take (blank_place bs) bs
word_goes_on a before [] = ap (λ x. a ∷ x) (sym (append-nil _))
word_goes_on a before (b ∷ bs) = elim (is_space b) as (λ v. elim v [ true ↦ a ∷ before | false ↦ first_word (a ∷ before ++ b ∷ []) bs ] ≡ (a ∷ before) ++ take (elim v [ true ↦ 0 | false ↦ suc (blank_place bs) ]) (b ∷ bs)) [ true ↦ ap (λ x. a ∷ x) (sym (append-nil _)) | false ↦ word_goes_on a (before ++ b ∷ []) bs ∙ ap (λ x. a ∷ x) (append_assoc before (b ∷ []) (take (blank_place bs) bs)) ]

pub behind_goes_on : (bs : List ℕ) → behind_first true bs ≡ drop (blank_place bs) bs
behind_goes_on [] = refl
behind_goes_on (b ∷ bs) = elim (is_space b) as (λ v. elim v [ true ↦ b ∷ bs | false ↦ behind_first true bs ] ≡ drop (elim v [ true ↦ 0 | false ↦ suc (blank_place bs) ]) (b ∷ bs)) [ true ↦ refl | false ↦ behind_goes_on bs ]

-- a line that begins with no blank
pub word_in_front : (bs : List ℕ) → BeginsWord bs → take (blank_place bs) bs ≡ word_in bs
word_in_front [] e = refl
word_in_front (b ∷ bs) e = rw (e, take, first_word) (sym (word_goes_on b [] bs))

pub behind_in_front : (bs : List ℕ) → BeginsWord bs → drop (blank_place bs) bs ≡ behind_word_in bs
behind_in_front [] e = refl
behind_in_front (b ∷ bs) e = rw (e, drop, behind_first) (sym (behind_goes_on bs))

-- a line that ends with a carriage return, and one that does not
pub with_return : (bs : List ℕ) → 0 < length bs → get_or bs (length bs - 1) 0 ≡ 13 → take (length bs - 1) bs ≡ without_return bs
with_return bs h e = sym (return_left_out bs (length bs - 1) (omega arith) e)

pub without_one : (bs : List ℕ) → 0 < length bs → get_or bs (length bs - 1) 0 ≢ 13 → bs ≡ without_return bs
without_one bs h e = sym (others_stay bs (length bs - 1) (omega arith) e)
