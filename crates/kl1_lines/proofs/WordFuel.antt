-- The bound on the words of a line is out of reach: words go on by the rule alone.
use Rattle.std.proofs.Common.{◌≡◌, ℕ, zero, suc, ◌<◌, ◌≤◌, Bool, true, false, List, [], ◌∷◌, length, refl, ap, sym, ◌∙◌, arith}
use Rattle.std.proofs.lemmas.Bool.{true≢false}
use Rattle.kl1_model.specs.Line.{is_space, behind_first, word_in, behind_word_in, is_blank_line, words_within, words_of}

-- what is after a word is no longer than the line
behind_begun : (bs : List ℕ) → length (behind_first true bs) ≤ length bs
behind_begun [] = omega arith
behind_begun (b ∷ bs) =
    elim (is_space b) as (λ v. let rest : List ℕ = elim v [ true ↦ b ∷ bs | false ↦ behind_first true bs ] in length rest ≤ suc (length bs)) [ true ↦ omega arith | false ↦ omega (arith, behind_begun bs) ]

behind_by : (v : Bool) (b : ℕ) (bs : List ℕ) → is_space b ≡ v → is_blank_line (b ∷ bs) ≡ false → (is_blank_line bs ≡ false → length (behind_first false bs) < length bs) → length (behind_first false (b ∷ bs)) < length (b ∷ bs)
behind_by true b bs e h next =
    let blank : is_blank_line bs ≡ false = rw e at h in
    let less : length (behind_first false bs) < length bs = next blank in
    rw (behind_first, e) (omega (arith, less))
behind_by false b bs e h next = rw (behind_first, e) (omega (arith, behind_begun bs))

-- and shorter if the line has a word
pub behind_word_less : (bs : List ℕ) → is_blank_line bs ≡ false → length (behind_word_in bs) < length bs
behind_word_less [] h = absurd (true≢false h)
behind_word_less (b ∷ bs) h = behind_by (is_space b) b bs refl h (behind_word_less bs)

-- the words of a line in which this says whether it is blank
by_blank : (n : ℕ) (line : List ℕ) (v : Bool) → is_blank_line line ≡ v → words_within (suc n) line ≡ elim v [ true ↦ [] | false ↦ word_in line ∷ words_within n (behind_word_in line) ]
unfolding words_within
by_blank n line v e =
    ap (λ w. let words : List (List ℕ) = elim w [ true ↦ [] | false ↦ word_in line ∷ words_within n (behind_word_in line) ] in words) e

-- any two bounds above the length give the same
same_bounds : (n m : ℕ) (line : List ℕ) (v : Bool) → is_blank_line line ≡ v → length line < n → length line < m → words_within n line ≡ words_within m line
same_bounds zero m line v e h k = absurd (omega arith)
same_bounds (suc n) zero line v e h k = absurd (omega arith)
same_bounds (suc n) (suc m) line true e h k = by_blank n line true e ∙ sym (by_blank m line true e)
same_bounds (suc n) (suc m) line false e h k =
    let less : length (behind_word_in line) < length line = behind_word_less line e in
    let next : words_within n (behind_word_in line) ≡ words_within m (behind_word_in line) = same_bounds n m (behind_word_in line) (is_blank_line (behind_word_in line)) refl (omega arith) (omega arith) in
    by_blank n line false e ∙ ap (λ words. word_in line ∷ words) next ∙ sym (by_blank m line false e)

-- a blank line has no words
pub words_none : (line : List ℕ) → is_blank_line line ≡ true → words_of line ≡ []
words_none line e = by_blank (length line) line true e

-- another line has its first word, and those after it
pub words_more : (line : List ℕ) → is_blank_line line ≡ false → words_of line ≡ word_in line ∷ words_of (behind_word_in line)
words_more line e =
    let less : length (behind_word_in line) < length line = behind_word_less line e in
    let next : words_within (length line) (behind_word_in line) ≡ words_of (behind_word_in line) = same_bounds (length line) (suc (length (behind_word_in line))) (behind_word_in line) (is_blank_line (behind_word_in line)) refl (omega arith) (omega arith) in
    by_blank (length line) line false e ∙ ap (λ words. word_in line ∷ words) next
