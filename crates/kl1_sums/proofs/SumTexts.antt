-- Texts with sums.
use Rattle.std.proofs.Common.{◌≡◌, ℕ, ◌==◌, not, Bool, true, false, if◌then◌else◌, List, [], ◌∷◌, ◌++◌, length, drop, refl, sym, ap, ◌∙◌, arith}
use Rattle.std.specs.Prelude.{Option, Some, None, is_some, bytes_eq}
use Rattle.std.proofs.lemmas.Bool.{and_parts, false≢true, eq-eqb}
use Rattle.std.proofs.lemmas.List.{append-nil}
use Rattle.std.proofs.lemmas.Slice.Eq.{bytes_eq-Decides}
use Rattle.kl1_model_server.specs.Command.{written_lines}
use Rattle.kl1_model_server.specs.JournalText.{Lines, lines_of, Heading, heading_in, heading_line}
use Rattle.kl1_model_server.proofs.TextLines.{lines_of_lines, texts_are_lines}
use Rattle.kl1_model_server.proofs.TextNames.{strict_lines_are_headings}
use Rattle.kl1_sums.specs.Sums.{sum_of, summed_line, summed_lines, summed_text, sum_after, plain_line, plain_from, have_sums, plain_lines, plain_text, last_digits, last_sum}
use Rattle.kl1_sums.specs.laws.SumLaws.{TextsGoOn, JournalsStay}
use Rattle.kl1_sums.proofs.Digits.{avoids, length_sum, sum_avoids}
use Rattle.kl1_sums.proofs.TextsOfLines.{written_more, lines_then, lines_read, whole_is}
use Rattle.kl1_sums.proofs.SumsOff.{sums_come_off, summed_more, last_is, summed_unbroken, lines_unbroken}

-- the lines of a text with sums
pub summed_read : (prev text : List ℕ) → lines_of (summed_text prev text) ≡ record { whole = summed_lines prev (lines_of text).whole; rest = [] }
summed_read prev text = lines_read (summed_lines prev (lines_of text).whole) (summed_unbroken prev (lines_of text).whole (texts_are_lines text).1)

-- the lines of a text without its sums
pub plain_read : (text : List ℕ) → lines_of (plain_text text) ≡ record { whole = plain_lines (lines_of text).whole; rest = (lines_of text).rest }
plain_read text =
    let ts = texts_are_lines text in
    lines_of_lines (plain_lines (lines_of text).whole) (lines_of text).rest (lines_unbroken (lines_of text).whole ts.1) ts.2

-- a text of whole lines with sums, and then without them
pub text_comes_off : (text : List ℕ) → (lines_of text).rest ≡ [] → plain_text (summed_text [] text) ≡ text
text_comes_off text none =
    let w = (lines_of text).whole in
    ap (λ (ls : Lines). written_lines (plain_lines ls.whole) ++ ls.rest) (summed_read [] text)
    ∙ append-nil (written_lines (plain_lines (summed_lines [] w)))
    ∙ ap written_lines (sums_come_off w)
    ∙ sym (whole_is text none)

-- the last sum of a text with sums
pub last_of_text : (text : List ℕ) → last_sum (summed_text [] text) ≡ sum_after [] (lines_of text).whole
last_of_text text = ap (λ (ls : Lines). last_digits [] ls.whole) (summed_read [] text) ∙ last_is [] (lines_of text).whole

-- nothing is after the last line feed of a text with sums, nor of what it is without them
pub nothing_after : (text : List ℕ) → text ≡ summed_text [] (plain_text text) → (lines_of text).rest ≡ []
nothing_after text is = ap (λ (t : List ℕ). (lines_of t).rest) is ∙ ap (λ (ls : Lines). ls.rest) (summed_read [] (plain_text text))

-- whole lines, and then others, with sums
pub summed_then : (prev text bytes : List ℕ) → (lines_of text).rest ≡ [] → summed_text prev (text ++ bytes) ≡ summed_text prev text ++ summed_text (sum_after prev (lines_of text).whole) bytes
summed_then prev text bytes none =
    let w = (lines_of text).whole in
    let v = (lines_of bytes).whole in
    let lines : (lines_of (text ++ bytes)).whole ≡ w ++ v = ap (λ (t : List ℕ). (lines_of (t ++ bytes)).whole) (whole_is text none) ∙ ap (λ (ls : Lines). ls.whole) (lines_then w bytes (texts_are_lines text).1) in
    ap (λ (ls : List (List ℕ)). written_lines (summed_lines prev ls)) lines ∙ ap written_lines (summed_more prev w v) ∙ written_more (summed_lines prev w) (summed_lines (sum_after prev w) v)

pub texts_go_on : TextsGoOn
texts_go_on text bytes is =
    let p = plain_text text in
    let none : (lines_of p).rest ≡ [] = ap (λ (ls : Lines). ls.rest) (plain_read text) ∙ nothing_after text is in
    let last : last_sum text ≡ sum_after [] (lines_of p).whole = ap last_sum is ∙ last_of_text p in
    ap (λ (t : List ℕ). t ++ summed_text (last_sum text) bytes) is
    ∙ ap (λ (s : List ℕ). summed_text [] p ++ summed_text s bytes) last
    ∙ sym (summed_then [] p bytes none)

-- ---- a text without sums

no_first : (c : ℕ) (s xs ys : List ℕ) → length s ≡ 16 → avoids c s ≡ true → c ∷ xs ≡ s ++ ys → ⊥
no_first c [] xs ys size h is = absurd (omega (arith, size))
no_first c (b ∷ bs) xs ys size h is =
    let other = (and_parts (not (b == c)) (avoids c bs) h).0 in
    let same : b ≡ c = ap (λ (l : List ℕ). elim l [ [] ↦ c | x ∷ rest ↦ x ]) (sym is) in
    false≢true (sym (ap not (eq-eqb b c same)) ∙ other)

pub none_by : (b : Bool) (line other plain : List ℕ) → bytes_eq line other ≡ b → (line ≡ other → ⊥) → is_some (if◌then◌else◌ {A = Option (List ℕ)} b (Some plain) None) ≡ false
none_by true line other plain is differ = absurd (differ ((bytes_eq-Decides line other).0 is))
none_by false line other plain is differ = refl

-- the first line of a journal doesn't have its sum
pub heading_plain : (line : List ℕ) (h : Heading) → heading_in line ≡ Some h → is_some (plain_line [] line) ≡ false
heading_plain line h is =
    let written : heading_line h.rules h.sessions h.names ≡ line = (strict_lines_are_headings line h is).2 in
    let behind = drop 17 line in
    let s = sum_of [] behind in
    none_by (bytes_eq line (summed_line [] behind)) line (summed_line [] behind) behind refl
    (λ same. no_first 106 s (drop 1 line) (32 ∷ behind) (length_sum [] behind) (sum_avoids 106 [] behind refl refl) (first written ∙ same))
  where
    first : heading_line h.rules h.sessions h.names ≡ line → 106 ∷ drop 1 line ≡ line
    first w = ap (λ (x : List ℕ). 106 ∷ drop 1 x) (sym w) ∙ w

pub lines_are_plain : (line : List ℕ) (lines : List (List ℕ)) (h : Heading) → heading_in line ≡ Some h → plain_lines (line ∷ lines) ≡ line ∷ lines
lines_are_plain line lines h is = ap (λ (b : Bool). if◌then◌else◌ {A = List (List ℕ)} b (plain_from [] (line ∷ lines)) (line ∷ lines)) (heading_plain line h is)

pub journals_stay : JournalsStay
journals_stay text line lines h of is =
    ap (λ (ls : List (List ℕ)). written_lines ls ++ (lines_of text).rest) (ap plain_lines of ∙ lines_are_plain line lines h is ∙ sym of) ∙ (texts_are_lines text).0

text_by : (b : Bool) (ls : List (List ℕ)) → b ≡ false → (if◌then◌else◌ {A = List (List ℕ)} b (plain_from [] ls) ls) ≡ ls
text_by b ls h = rw h refl

-- a text whose first line doesn't have its sum
pub text_stays : (text : List ℕ) → have_sums (lines_of text).whole ≡ false → plain_text text ≡ text
text_stays text none = ap (λ (ls : List (List ℕ)). written_lines ls ++ (lines_of text).rest) (text_by (have_sums (lines_of text).whole) (lines_of text).whole none) ∙ (texts_are_lines text).0
