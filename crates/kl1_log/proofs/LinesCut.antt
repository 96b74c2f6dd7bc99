-- The lines of a text that is cut, and of one that goes on.
use Rattle.std.proofs.Common.{◌≡◌, ℕ, zero, suc, ◌+◌, ◌≤◌, ◌<◌, ◌-◌, ◌==◌, not, Bool, true, false, if◌then◌else◌, List, [], ◌∷◌, ◌++◌, length, take, refl, sym, ap, ◌∙◌, arith, inl, inr, append_assoc}
use Rattle.std.specs.Prelude.{Option, Some, None}
use Rattle.std.specs.List.{list_all}
use Rattle.std.proofs.Math.Seq.{take-append-add}
use Rattle.std.proofs.lemmas.Bool.{and_parts, and_from, cases_lt, eqb-true}
use Rattle.std.proofs.lemmas.List.{append-nil, take-append-le, length-append}
use Rattle.std.proofs.lemmas.Option.{none-some}
use Rattle.kl1_model_server.specs.Command.{written_line, written_lines}
use Rattle.kl1_model_server.specs.Journal.{Journal}
use Rattle.kl1_model_server.specs.JournalText.{Lines, lines_of, journal_of, journal_in}
use Rattle.kl1_model_server.specs.laws.TextLaws.{is_unbroken}
use Rattle.kl1_model_server.proofs.TextLines.{lines_of_lines, texts_are_lines}
use Rattle.kl1_sums.specs.Sums.{plain_text}
use Rattle.kl1_sums.proofs.TextsOfLines.{lines_then}
use Rattle.kl1_sums.proofs.SumTexts.{plain_read}
use Rattle.kl1_log.specs.Deeds.{file_in}
use Rattle.kl1_log.specs.Cuts.{whole_lines, recovered}

-- the front of a line has no line feed either
front_unbroken : (n : ℕ) (line : List ℕ) → is_unbroken line ≡ true → is_unbroken (take n line) ≡ true
front_unbroken zero line h = refl
front_unbroken (suc n) [] h = refl
front_unbroken (suc n) (b ∷ bs) h =
    let both = and_parts (not (b == 10)) (is_unbroken bs) h in
    and_from (not (b == 10)) (is_unbroken (take n bs)) both.0 (front_unbroken n bs both.1)

-- lines as they are written are the lines of that text
pub lines_back : (ls : List (List ℕ)) → list_all is_unbroken ls ≡ true → whole_lines (written_lines ls) ≡ ls
lines_back ls h = ap whole_lines (sym (append-nil (written_lines ls))) ∙ ap (λ (x : Lines). x.whole) (lines_of_lines ls [] h refl)

-- bytes without a line feed are no line
no_line : (bs : List ℕ) → is_unbroken bs ≡ true → whole_lines bs ≡ []
no_line bs h = ap (λ (x : Lines). x.whole) (lines_of_lines [] bs refl h)

-- The lines of a text that is cut to `n` bytes are its first lines: each that is whole.
pub record IsCut (ls : List (List ℕ)) (n : ℕ) : Type 0 where
  pub count : ℕ
  pub within : count ≤ length ls
  pub lines : whole_lines (take n (written_lines ls)) ≡ take count ls
  pub most : (k : ℕ) → k ≤ length ls → length (written_lines (take k ls)) ≤ n → k ≤ count

take_none : {X : Type 0} (n : ℕ) → take n (let x : List X = [] in x) ≡ []
take_none zero = refl
take_none (suc n) = refl

cut_before : (l : List ℕ) (ls : List (List ℕ)) (n : ℕ) → n ≤ length l → is_unbroken l ≡ true → IsCut (l ∷ ls) n
cut_before l ls n few h = record {
  count = 0;
  within = omega arith;
  lines =
      ap whole_lines (ap (take n) (append_assoc l (10 ∷ []) (written_lines ls)) ∙ take-append-le n l (10 ∷ written_lines ls) few)
      ∙ no_line (take n l) (front_unbroken n l h);
  most = none;
}
  where
    none : (k : ℕ) → k ≤ suc (length ls) → length (written_lines (take k (l ∷ ls))) ≤ n → k ≤ 0
    none zero within le = omega arith
    none (suc k) within le = absurd (omega (arith, few, le, length-append l (10 ∷ []), length-append (written_line l) (written_lines (take k ls))))

cut_after : (l : List ℕ) (ls : List (List ℕ)) (n : ℕ) → length l < n → is_unbroken l ≡ true → ((m : ℕ) → IsCut ls m) → IsCut (l ∷ ls) n
cut_after l ls n less h more =
    let m = n - suc (length l) in
    let c = more m in
    let long : length (written_line l) ≡ suc (length l) = omega (arith, length-append l (10 ∷ [])) in
    let at : n ≡ length (written_line l) + m = omega (arith, less, long) in
    let t = take m (written_lines ls) in
    let cut : take n (written_line l ++ written_lines ls) ≡ written_line l ++ t = ap (λ (k : ℕ). take k (written_line l ++ written_lines ls)) at ∙ take-append-add (written_line l) (written_lines ls) m in
    let one : written_line l ++ t ≡ written_lines (l ∷ []) ++ t = ap (λ (x : List ℕ). x ++ t) (sym (append-nil (written_line l))) in
    record {
      count = suc c.count;
      within = let w = c.within in omega (arith, w);
      lines = ap whole_lines (cut ∙ one) ∙ ap (λ (x : Lines). x.whole) (lines_then (l ∷ []) t (and_from (is_unbroken l) true h refl)) ∙ ap (λ (x : List (List ℕ)). l ∷ x) c.lines;
      most = each;
    }
  where
    each : (k : ℕ) → k ≤ suc (length ls) → length (written_lines (take k (l ∷ ls))) ≤ n → k ≤ suc (more (n - suc (length l))).count
    each zero within le = omega arith
    each (suc k) within le =
        let m = n - suc (length l) in
        let fits : length (written_lines (take k ls)) ≤ m = omega (arith, less, le, length-append l (10 ∷ []), length-append (written_line l) (written_lines (take k ls))) in
        let w = (more m).most k (omega (arith, within)) fits in
        omega (arith, w)

pub cut_lines : (ls : List (List ℕ)) (n : ℕ) → list_all is_unbroken ls ≡ true → IsCut ls n
cut_lines [] n h = record {
  count = 0;
  within = omega arith;
  lines = ap whole_lines (take_none n);
  most = λ k within le. within;
}
cut_lines (l ∷ ls) n h =
    let both = and_parts (is_unbroken l) (list_all is_unbroken ls) h in
    elim (cases_lt (length l) n) [
      | inl less ↦ cut_after l ls n less both.0 (λ m. cut_lines ls m both.1)
      | inr few ↦ cut_before l ls n few both.0
    ]

-- ---- a text that is a journal

no_length : (bs : List ℕ) → length bs ≡ 0 → bs ≡ []
no_length [] h = refl
no_length (b ∷ bs) h = absurd (omega (arith, h))

-- the text of a journal: its lines are the journal, and nothing is left
pub record IsText (text : List ℕ) (j : Journal) : Type 0 where
  pub of : journal_of (whole_lines text) ≡ Some j
  pub none : (lines_of text).rest ≡ []
  pub whole : text ≡ written_lines (whole_lines text)
  pub unbroken : list_all is_unbroken (whole_lines text) ≡ true

text_by : (b : Bool) (text : List ℕ) (j : Journal) → (length (lines_of text).rest == 0) ≡ b → if◌then◌else◌ {A = Option Journal} b (journal_of (lines_of text).whole) None ≡ Some j → IsText text j
text_by false text j is h = absurd (none-some j h)
text_by true text j is h =
    let ts = texts_are_lines text in
    let none = no_length (lines_of text).rest (eqb-true (length (lines_of text).rest) 0 is) in
    record {
      of = h;
      none = none;
      whole = sym ts.0 ∙ ap (λ (x : List ℕ). written_lines (whole_lines text) ++ x) none ∙ append-nil (written_lines (whole_lines text));
      unbroken = ts.1;
    }

pub text_of_journal : (text : List ℕ) (j : Journal) → journal_in text ≡ Some j → IsText text j
text_of_journal text j h = text_by (length (lines_of text).rest == 0) text j refl h

-- the text of a journal's file: its whole lines are the journal, and nothing is left
pub record IsFileText (text : List ℕ) (j : Journal) : Type 0 where
  pub of : recovered text ≡ Some j
  pub none : (lines_of text).rest ≡ []
  pub whole : text ≡ written_lines (whole_lines text)
  pub unbroken : list_all is_unbroken (whole_lines text) ≡ true

pub text_of_file : (text : List ℕ) (j : Journal) → file_in text ≡ Some j → IsFileText text j
text_of_file text j h =
    let t = text_of_journal (plain_text text) j h in
    let ts = texts_are_lines text in
    let none : (lines_of text).rest ≡ [] = ap (λ (ls : Lines). ls.rest) (sym (plain_read text)) ∙ t.none in
    record {
      of = ap (λ (ls : Lines). journal_of ls.whole) (sym (plain_read text)) ∙ t.of;
      none = none;
      whole = sym ts.0 ∙ ap (λ (x : List ℕ). written_lines (whole_lines text) ++ x) none ∙ append-nil (written_lines (whole_lines text));
      unbroken = ts.1;
    }

-- the journal of a text of which nothing is left after its whole lines
pub read_in : (text : List ℕ) → (lines_of text).rest ≡ [] → journal_in text ≡ journal_of (whole_lines text)
read_in text none = ap (λ (x : List ℕ). if◌then◌else◌ {A = Option Journal} (length x == 0) (journal_of (whole_lines text)) None) none
