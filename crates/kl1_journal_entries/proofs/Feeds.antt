-- The first line of a text.
use Rattle.std.proofs.Common.{◌≡◌, ℕ, suc, ◌<◌, ◌≤◌, ◌+◌, ◌==◌, Bool, true, false, List, [], ◌∷◌, length, take, drop, refl, sym, ap, ◌∙◌, arith}
use Rattle.kl1_lines.specs.Places.{place_of}
use Rattle.kl1_model_server.specs.JournalText.{Lines, lines_of}
use Rattle.kl1_model_server.proofs.TextLines.{byte_first, line_first}
use Rattle.kl1_journal_entries.specs.Reading.{with_line}

-- the lines of a text by its first byte
lines_by : Bool → ℕ → Lines → Lines
lines_by x b ls = elim x [ true ↦ line_first ls | false ↦ byte_first b ls.whole ls.rest ]

-- where the first line feed is, by the first byte
place_by : Bool → ℕ → ℕ
place_by x n = elim x [ true ↦ 0 | false ↦ suc n ]

feed_by : (x : Bool) (b : ℕ) (bs : List ℕ) → (place_of 10 bs < length bs → lines_of bs ≡ with_line (take (place_of 10 bs) bs) (lines_of (drop (suc (place_of 10 bs)) bs))) → place_by x (place_of 10 bs) < suc (length bs) →
    lines_by x b (lines_of bs) ≡ with_line (take (place_by x (place_of 10 bs)) (b ∷ bs)) (lines_of (drop (place_by x (place_of 10 bs)) bs))
unfolding lines_by place_by
feed_by true b bs next less = refl
feed_by false b bs next less = ap (λ (ls : Lines). byte_first b ls.whole ls.rest) (next (omega (arith, less)))

feed_here : (text : List ℕ) → place_of 10 text < length text → lines_of text ≡ with_line (take (place_of 10 text) text) (lines_of (drop (suc (place_of 10 text)) text))
unfolding lines_by place_by
feed_here [] less = absurd (omega (arith, less))
feed_here (b ∷ bs) less = feed_by (b == 10) b bs (feed_here bs) less

-- a text with a line feed is its first line and the text after that
pub first_of_lines : (text : List ℕ) (n : ℕ) → n ≡ place_of 10 text → n < length text → lines_of text ≡ with_line (take n text) (lines_of (drop (n + 1) text))
first_of_lines text n is less =
    let here : place_of 10 text < length text = omega (arith, is, less) in
    let more : n + 1 ≡ suc n = omega arith in
    feed_here text here ∙ ap (λ (k : ℕ). with_line (take k text) (lines_of (drop (suc k) text))) (sym is) ∙ ap (λ (k : ℕ). with_line (take n text) (lines_of (drop k text))) (sym more)

none_by : (x : Bool) (b : ℕ) (bs : List ℕ) → (place_of 10 bs ≡ length bs → lines_of bs ≡ record { whole = []; rest = bs }) → place_by x (place_of 10 bs) ≡ suc (length bs) → lines_by x b (lines_of bs) ≡ record { whole = []; rest = b ∷ bs }
unfolding lines_by place_by
none_by true b bs next past = absurd (omega (arith, past))
none_by false b bs next past = ap (λ (ls : Lines). byte_first b ls.whole ls.rest) (next (omega (arith, past)))

none_here : (text : List ℕ) → place_of 10 text ≡ length text → lines_of text ≡ record { whole = []; rest = text }
unfolding lines_by place_by
none_here [] past = refl
none_here (b ∷ bs) past = none_by (b == 10) b bs (none_here bs) past

-- a text without a line feed has no line
pub no_lines : (text : List ℕ) (n : ℕ) → n ≡ place_of 10 text → n ≤ length text → length text ≤ n → lines_of text ≡ record { whole = []; rest = text }
no_lines text n is within past = none_here text (omega (arith, is, within, past))
