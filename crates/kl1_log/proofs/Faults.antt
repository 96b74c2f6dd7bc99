-- The first lines of a text, and where its fault is.
use Rattle.std.proofs.Common.{◌≡◌, ℕ, suc, ◌+◌, ◌-◌, ◌≤◌, ◌==◌, true, false, if◌then◌else◌, List, [], ◌∷◌, ◌++◌, length, take, refl, sym, ap, ◌∙◌, arith, append_assoc, subst, inl}
use Rattle.std.specs.Prelude.{Option, Some, None, is_some, option_and_then}
use Rattle.std.specs.List.{list_all}
use Rattle.std.proofs.Math.Seq.{take-append_seam}
use Rattle.std.proofs.lemmas.Bool.{and_parts, false≢true}
use Rattle.std.proofs.lemmas.List.{append-nil, length-append, length-take, take_all}
use Rattle.std.proofs.lemmas.List.Folds.{list_all-append}
use Rattle.kl1_model_server.specs.Command.{written_line, written_lines}
use Rattle.kl1_model_server.specs.Journal.{Journal}
use Rattle.kl1_model_server.specs.JournalText.{Lines, lines_of, Heading, heading_in, journal_of, journal_in}
use Rattle.kl1_model_server.specs.laws.TextLaws.{is_unbroken}
use Rattle.kl1_model_server.proofs.TextLines.{lines_of_lines, texts_are_lines}
use Rattle.kl1_sums.specs.Sums.{plain_lines, plain_text, last_sum, is_spoilt}
use Rattle.kl1_sums.proofs.TextsOfLines.{written_more, lines_read}
use Rattle.kl1_sums.proofs.SumTexts.{plain_read}
use Rattle.kl1_sums.proofs.Rightness.{right_long}
use Rattle.kl1_log.specs.declared.recovery.Found.{Found}
use Rattle.kl1_log.specs.declared.recovery.Found.TheVariants.{Whole, Fault, Unopened}
use Rattle.kl1_log.specs.Cuts.{whole_lines, whole_text, file_lines, recovered, opening_of, IsSpoilt, IsFoundIn, IsFound}
use Rattle.kl1_log.proofs.LinesCut.{read_in}

-- a text is these lines, `count` of them, and then its rest
abbrev pub IsSplit : List ℕ → List ℕ → ℕ → Type 0
IsSplit text rest count = (ls : List (List ℕ)) × (length ls ≡ count) × (whole_lines text ≡ ls ++ whole_lines rest) × (text ≡ written_lines ls ++ rest)

pub split_begins : (text : List ℕ) → IsSplit text text 0
split_begins text = ([], refl, refl, refl)

pub split_goes_on : (text rest line after : List ℕ) (count : ℕ) → IsSplit text rest count → lines_of rest ≡ record { whole = line ∷ (lines_of after).whole; rest = (lines_of after).rest } → IsSplit text after (count + 1)
split_goes_on text rest line after count s is =
    let w = whole_lines after in
    let r = (lines_of after).rest in
    let here : rest ≡ written_line line ++ after =
    sym (texts_are_lines rest).0
    ∙ ap (λ (ls : Lines). written_lines ls.whole ++ ls.rest) is
    ∙ append_assoc (written_line line) (written_lines w) r
    ∙ ap (λ (x : List ℕ). written_line line ++ x) (texts_are_lines after).0 in
    let more : List (List ℕ) = s.0 ++ line ∷ [] in (
      more,
      (let n = s.1 in omega (arith, n, length-append s.0 (line ∷ []))),
      s.2 ∙ ap (λ (ls : Lines). s.0 ++ ls.whole) is ∙ sym (append_assoc s.0 (line ∷ []) w),
      s.3
          ∙ ap (λ (x : List ℕ). written_lines s.0 ++ x) here
          ∙ sym (append_assoc (written_lines s.0) (written_line line) after)
          ∙ ap (λ (x : List ℕ). x ++ after) (ap (λ (x : List ℕ). written_lines s.0 ++ x) (sym (append-nil (written_line line))) ∙ sym (written_more s.0 (line ∷ []))),
    )

lines_in : (ls : List (List ℕ)) → list_all is_unbroken ls ≡ true → journal_in (written_lines ls) ≡ journal_of ls
lines_in ls h =
    ap journal_in (sym (append-nil (written_lines ls)))
    ∙ ap (λ (x : Lines). if◌then◌else◌ {A = Option Journal} (length x.rest == 0) (journal_of x.whole) None) (lines_of_lines ls [] h refl)

front_read : (text rest : List ℕ) (count lines : ℕ) (s : IsSplit text rest count) → s.0 ≡ take lines (whole_lines text) → journal_in (take (length text - length rest) text) ≡ journal_of (take lines (whole_lines text))
front_read text rest count lines s is =
    let long = ap (length {A = ℕ}) s.3 in
    let at : length text - length rest ≡ length (written_lines s.0) = omega (arith, long, length-append (written_lines s.0) rest) in
    let front : take (length text - length rest) text ≡ written_lines s.0 =
    ap (λ (n : ℕ). take n text) at ∙ ap (take (length (written_lines s.0))) s.3 ∙ take-append_seam (written_lines s.0) rest in
    let all : list_all is_unbroken (s.0 ++ whole_lines rest) ≡ true = ap (list_all is_unbroken) (sym s.2) ∙ (texts_are_lines text).1 in
    let unbroken = and_parts (list_all is_unbroken s.0) (list_all is_unbroken (whole_lines rest)) (sym (list_all-append is_unbroken s.0 (whole_lines rest)) ∙ all) in
    ap journal_in front ∙ lines_in s.0 unbroken.0 ∙ ap journal_of is

-- as many lines as were asked for
pub front_whole : (text rest : List ℕ) (count lines : ℕ) → IsSplit text rest count → count ≡ lines → journal_in (take (length text - length rest) text) ≡ journal_of (take lines (whole_lines text))
front_whole text rest count lines s same =
    front_read text rest count lines s (sym (ap (take lines) s.2 ∙ ap (λ (n : ℕ). take n (s.0 ++ whole_lines rest)) (sym (s.1 ∙ same)) ∙ take-append_seam s.0 (whole_lines rest)))

-- there are no more
pub front_short : (text rest : List ℕ) (count lines : ℕ) → IsSplit text rest count → count ≤ lines → lines_of rest ≡ record { whole = []; rest = rest } → journal_in (take (length text - length rest) text) ≡ journal_of (take lines (whole_lines text))
front_short text rest count lines s few none =
    let n = s.1 in
    let all : whole_lines text ≡ s.0 = s.2 ∙ ap (λ (ls : Lines). s.0 ++ ls.whole) none ∙ append-nil s.0 in
    front_read text rest count lines s (sym (ap (take lines) all ∙ take_all lines s.0 (omega (arith, n, few))))

-- ---- how many bytes the whole lines are

pub whole_count : (text rest : List ℕ) → (lines_of text).rest ≡ rest → (length text - length rest ≡ length (whole_text text)) × (take (length text - length rest) text ≡ whole_text text)
whole_count text rest is =
    let written : text ≡ whole_text text ++ rest = sym (texts_are_lines text).0 ∙ ap (λ (x : List ℕ). whole_text text ++ x) is in
    let long = ap (length {A = ℕ}) written in
    let at : length text - length rest ≡ length (whole_text text) = omega (arith, long, length-append (whole_text text) rest) in
    (at, ap (λ (n : ℕ). take n text) at ∙ ap (take (length (whole_text text))) written ∙ take-append_seam (whole_text text) rest)

-- ---- the opening

opened_by : (o : Option Heading) (h : Heading) (lines : List (List ℕ)) → o ≡ Some h → option_and_then (λ (x : Heading). journal_of (take (suc x.names) lines)) o ≡ journal_of (take (suc h.names) lines)
opened_by o h lines is = ap (option_and_then (λ (x : Heading). journal_of (take (suc x.names) lines))) is

pub opening_is : (text line after : List ℕ) (h : Heading) (n : ℕ) → lines_of text ≡ record { whole = line ∷ (lines_of after).whole; rest = (lines_of after).rest } → heading_in line ≡ Some h → n ≡ h.names + 1 → opening_of (whole_lines text) ≡ journal_of (take n (whole_lines text))
opening_is text line after h n is read at =
    let ls = line ∷ whole_lines after in
    let same : n ≡ suc h.names = omega (arith, at) in
    ap (λ (x : Lines). opening_of x.whole) is
    ∙ opened_by (heading_in line) h ls read
    ∙ ap (λ (k : ℕ). journal_of (take k ls)) (sym same)
    ∙ ap (λ (x : Lines). journal_of (take n x.whole)) (sym is)

pub no_heading : (text line after : List ℕ) → lines_of text ≡ record { whole = line ∷ (lines_of after).whole; rest = (lines_of after).rest } → heading_in line ≡ None → opening_of (whole_lines text) ≡ None
no_heading text line after is none =
    ap (λ (x : Lines). opening_of x.whole) is ∙ ap (option_and_then (λ (x : Heading). journal_of (take (suc x.names) (line ∷ whole_lines after)))) none

pub no_lines : (text : List ℕ) → lines_of text ≡ record { whole = []; rest = text } → opening_of (whole_lines text) ≡ None
no_lines text none = ap (λ (x : Lines). opening_of x.whole) none

-- ---- the fault

lines_few : (ls : List (List ℕ)) → length ls ≤ length (written_lines ls)
lines_few [] = omega arith
lines_few (l ∷ ls) =
    let less = lines_few ls in
    omega (arith, less, length-append l (10 ∷ []), length-append (written_line l) (written_lines ls))

-- a text has no more lines than bytes
pub all_lines : (text : List ℕ) (n : ℕ) → length text ≤ n → take n (whole_lines text) ≡ whole_lines text
all_lines text n few =
    let ts = ap (length {A = ℕ}) (texts_are_lines text).0 in
    take_all n (whole_lines text) (omega (arith, few, ts, lines_few (whole_lines text), length-append (whole_text text) (lines_of text).rest))

is_none_by : (o : Option Journal) → is_some o ≡ false → o ≡ None
is_none_by None h = refl
is_none_by (Some j) h = absurd (false≢true (sym h))

pub none_is : (o : Option Journal) → is_some o ≡ false → o ≡ None
none_is o h = is_none_by o h

some_is : (o : Option Journal) (j : Journal) → Some j ≡ o → is_some o ≡ true
some_is o j h = sym (ap (λ (x : Option Journal). is_some x) h)

pub still_none : (o : Option Journal) → o ≡ None → is_some o ≡ false
still_none o h = ap (λ (x : Option Journal). is_some x) h

-- the lines of a text that isn't a journal are none, if they are all taken
pub all_none : (text : List ℕ) (n : ℕ) → length text ≤ n → journal_of (whole_lines text) ≡ None → is_some (journal_of (take n (whole_lines text))) ≡ false
all_none text n few none = ap (λ (ls : List (List ℕ)). is_some (journal_of ls)) (all_lines text n few) ∙ still_none (journal_of (whole_lines text)) none

-- ---- a file without its sums

-- the lines of a file's whole lines without their sums
pub plain_whole : (text front plain : List ℕ) → front ≡ whole_text text → plain ≡ plain_text front → lines_of plain ≡ record { whole = file_lines text; rest = [] }
plain_whole text front plain is so =
    let w = whole_lines text in
    ap lines_of so
    ∙ plain_read front
    ∙ ap (λ (x : List ℕ). let ls : Lines = record { whole = plain_lines (lines_of x).whole; rest = (lines_of x).rest } in ls) is
    ∙ ap (λ (ls : Lines). let ms : Lines = record { whole = plain_lines ls.whole; rest = ls.rest } in ms) (lines_read w (texts_are_lines text).1)

pub plain_read_as : (text front plain : List ℕ) (o : Option Journal) → front ≡ whole_text text → plain ≡ plain_text front → o ≡ journal_in plain → recovered text ≡ o
plain_read_as text front plain o is so h =
    let p = plain_whole text front plain is so in
    sym (h ∙ read_in plain (ap (λ (ls : Lines). ls.rest) p) ∙ ap (λ (ls : Lines). journal_of ls.whole) p)

pub plain_none : (text front plain : List ℕ) (o : Option Journal) → front ≡ whole_text text → plain ≡ plain_text front → o ≡ journal_in plain → o ≡ None → journal_of (whole_lines plain) ≡ None
plain_none text front plain o is so h none =
    let p = plain_whole text front plain is so in
    sym (read_in plain (ap (λ (ls : Lines). ls.rest) p)) ∙ sym h ∙ none

found_by : (text : List ℕ) (lines : List (List ℕ)) (found : Found) → lines ≡ file_lines text → IsFoundIn lines found → IsFound text found
found_by text lines (Whole journal bytes) is h = absurd h
found_by text lines (Fault line before) is h = inl (subst (λ (ls : List (List ℕ)). IsFoundIn ls (Fault line before)) is h)
found_by text lines Unopened is h = ap opening_of (sym is) ∙ h

-- what was found in a file that is no journal
pub plain_found : (text front plain : List ℕ) (found : Found) → front ≡ whole_text text → plain ≡ plain_text front → IsFoundIn (whole_lines plain) found → IsFound text found
plain_found text front plain found is so h = found_by text (whole_lines plain) found (ap (λ (ls : Lines). ls.whole) (plain_whole text front plain is so)) h

-- ---- a line whose line feed was another byte

rest_some : (text : List ℕ) → is_spoilt text ≡ true → 1 ≤ length (lines_of text).rest
rest_some text h =
    let rest = (lines_of text).rest in
    let long = right_long (last_sum text) (take (length rest - 1) rest) h in
    omega (arith, long, length-take (length rest - 1) rest)

pub spoilt_room : (text : List ℕ) → is_spoilt text ≡ true → length (whole_lines text) + 1 ≤ length text
spoilt_room text h =
    let some = rest_some text h in
    let long = ap (length {A = ℕ}) (texts_are_lines text).0 in
    omega (arith, some, long, lines_few (whole_lines text), length-append (whole_text text) (lines_of text).rest)

pub spoilt_is : (text : List ℕ) (n line : ℕ) (j : Journal) → is_spoilt text ≡ true → recovered text ≡ Some j → n ≡ length (whole_lines text) → line ≡ n + 1 → IsSpoilt text line j
spoilt_is text n line j h of at is = record { journal = of; spoilt = h; at = omega (arith, at, is) }

-- a text has no more whole lines than bytes
pub lines_within : (text : List ℕ) → length (whole_lines text) ≤ length text
lines_within text =
    let long = ap (length {A = ℕ}) (texts_are_lines text).0 in
    omega (arith, long, lines_few (whole_lines text), length-append (whole_text text) (lines_of text).rest)

-- a journal isn't none
pub not_both : (o : Option Journal) (j : Journal) → Some j ≡ o → is_some o ≡ false → ⊥
not_both o j some none = false≢true (sym none ∙ some_is o j some)
