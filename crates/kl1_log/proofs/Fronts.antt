-- What is recovered from a journal's file that is cut, or that is being made longer.
use Rattle.std.proofs.Common.{◌≡◌, ℕ, zero, suc, ◌+◌, ◌≤◌, ◌-◌, min, List, [], ◌∷◌, ◌++◌, map, length, take, drop, refl, sym, ap, ◌∙◌, subst, arith}
use Rattle.std.specs.Prelude.{Option, Some, None, option_map}
use Rattle.std.specs.List.{AllByRecursion}
use Rattle.std.proofs.Math.Seq.{take-append-add, take-append_seam}
use Rattle.std.proofs.lemmas.List.{append-nil, length-append, length-map, take-append-drop}
use Rattle.std.proofs.lemmas.Option.{none-some, same_Some}
use Rattle.kl1_model.specs.declared.rules.Rules.{Rules}
use Rattle.kl1_model_server.specs.Command.{written_lines}
use Rattle.kl1_model_server.specs.Journal.{Entry, Journal}
use Rattle.kl1_model_server.specs.JournalText.{entry_line, name_line, heading_line, journal_lines, Lines, lines_of, entries_in, journal_of}
use Rattle.kl1_model_server.specs.laws.TextLaws.{HasLine, IsWritten, journal_text}
use Rattle.kl1_model_server.proofs.TextJournals.{journals_read_back, text_lines, lines_unbroken}
use Rattle.kl1_model_server.proofs.TextLines.{lines_of_lines, texts_are_lines}
use Rattle.kl1_sums.specs.Sums.{summed_lines, plain_lines}
use Rattle.kl1_sums.proofs.TextsOfLines.{lines_then}
use Rattle.kl1_sums.proofs.SumsOff.{sums_come_off, fronts_are_fronts, lines_stay, summed_unbroken, summed_front, summed_count}
use Rattle.kl1_log.specs.Cuts.{whole_lines, file_lines, recovered, file_text, opening_text, front_of}
use Rattle.kl1_log.specs.laws.LogLaws.{CutsAreFronts, TornIsDropped, AppendsAreFronts}
use Rattle.kl1_log.proofs.LinesCut.{IsCut, cut_lines, text_of_journal, text_of_file}
use Rattle.kl1_log.proofs.EntriesMore.{with_more, journal_then, entries_front}

pub torn_is_dropped : TornIsDropped
torn_is_dropped text torn j h none =
    let t = text_of_file text j h in
    let ls = whole_lines text in
    ap (λ (x : List ℕ). recovered (x ++ torn)) t.whole ∙ ap (λ (x : Lines). journal_of (plain_lines x.whole)) (lines_of_lines ls torn t.unbroken none) ∙ t.of

-- ---- a file that is made longer

-- the journal that more entries lead to
more_are : (j k : Journal) (o : Option (List Entry)) → option_map (with_more j) o ≡ Some k → (es : List Entry) × (o ≡ Some es) × (with_more j es ≡ k)
more_are j k None h = absurd (none-some k h)
more_are j k (Some es) h = (es, refl, same_Some (with_more j es) k h)

front_more : (j : Journal) (es : List Entry) (m : ℕ) → with_more j (take m es) ≡ front_of (with_more j es) (length j.entries + m)
front_more j es m = ap (λ (xs : List Entry). let k : Journal = record j { entries = xs } in k) (sym (take-append-add j.entries es m))

nothing_lost : (j : Journal) (es : List Entry) → take (length j.entries) (j.entries ++ es) ≡ j.entries
nothing_lost j es = take-append_seam j.entries es

-- the lines of a file are those that it had, and those that were appended
lines_both : (ls bs : List (List ℕ)) → plain_lines (ls ++ bs) ≡ plain_lines ls ++ drop (length ls) (plain_lines (ls ++ bs))
lines_both ls bs =
    let p = plain_lines (ls ++ bs) in
    sym (take-append-drop (length ls) p) ∙ ap (λ (x : List (List ℕ)). x ++ drop (length ls) p) (sym (fronts_are_fronts (ls ++ bs) (length ls)) ∙ ap plain_lines (take-append_seam ls bs))

-- the lines of a file of which only a front of those that were appended is there
lines_front : (ls bs : List (List ℕ)) (m : ℕ) → plain_lines (ls ++ take m bs) ≡ plain_lines ls ++ take m (drop (length ls) (plain_lines (ls ++ bs)))
lines_front ls bs m =
    let rest = drop (length ls) (plain_lines (ls ++ bs)) in
    let size : length ls + m ≡ length (plain_lines ls) + m = ap (λ (n : ℕ). n + m) (sym (lines_stay ls)) in
    ap plain_lines (sym (take-append-add ls bs m))
    ∙ fronts_are_fronts (ls ++ bs) (length ls + m)
    ∙ ap (take (length ls + m)) (lines_both ls bs)
    ∙ ap (λ (n : ℕ). take n (plain_lines ls ++ rest)) size
    ∙ take-append-add (plain_lines ls) rest m

pub appends_are_fronts : AppendsAreFronts
appends_are_fronts text bytes j k n was is =
    let t = text_of_file text j was in
    let u = text_of_file (text ++ bytes) k is in
    let ls = whole_lines text in
    let bs = whole_lines bytes in
    let new = drop (length ls) (plain_lines (ls ++ bs)) in
    let both : lines_of (text ++ bytes) ≡ record { whole = ls ++ bs; rest = (lines_of bytes).rest } = ap (λ (x : List ℕ). lines_of (x ++ bytes)) t.whole ∙ lines_then ls bytes t.unbroken in
    let of_both : journal_of (plain_lines ls ++ new) ≡ Some k = ap journal_of (sym (lines_both ls bs)) ∙ ap (λ (x : Lines). journal_of (plain_lines x.whole)) (sym both) ∙ u.of in
    let more = more_are j k (entries_in j.rules new) (sym (journal_then (plain_lines ls) new j t.of) ∙ of_both) in
    let es = more.0 in
    let ts = texts_are_lines bytes in
    let none : (lines_of bytes).rest ≡ [] = ap (λ (x : Lines). x.rest) (sym both) ∙ u.none in
    let written : bytes ≡ written_lines bs = sym ts.0 ∙ ap (λ (x : List ℕ). written_lines bs ++ x) none ∙ append-nil (written_lines bs) in
    let c = cut_lines bs n ts.1 in
    let m = c.count in
    let lines : whole_lines (text ++ take n bytes) ≡ ls ++ take m bs =
    ap (λ (x : List ℕ). whole_lines (x ++ take n bytes)) t.whole
    ∙ ap (λ (x : Lines). x.whole) (lines_then ls (take n bytes) t.unbroken)
    ∙ ap (λ (x : List (List ℕ)). ls ++ x) (ap (λ (x : List ℕ). whole_lines (take n x)) written ∙ c.lines) in
    let found : recovered (text ++ take n bytes) ≡ Some (with_more j (take m es)) =
    ap (λ (x : List (List ℕ)). journal_of (plain_lines x)) lines ∙ ap journal_of (lines_front ls bs m) ∙ journal_then (plain_lines ls) (take m new) j t.of ∙ ap (option_map (with_more j)) (entries_front j.rules new m es more.1) in
    let at : with_more j (take m es) ≡ front_of k (length j.entries + m) = front_more j es m ∙ ap (λ (i : Journal). front_of i (length j.entries + m)) more.2 in (
      length j.entries + m,
      found ∙ ap (λ (i : Journal). let r : Option Journal = Some i in r) at,
      ap (λ (i : Journal). take (length j.entries) i.entries) (sym at) ∙ nothing_lost j (take m es),
    )

-- ---- a text that is cut

-- the first lines of a journal: its heading and its names
abbrev opening_lines : Journal → List (List ℕ)
opening_lines j = heading_line j.rules j.sessions (length j.names) ∷ map name_line j.names

lines_are : (j : Journal) → journal_lines j ≡ opening_lines j ++ map entry_line j.entries
lines_are j = refl

take_map : (es : List Entry) (n : ℕ) → take n (map entry_line es) ≡ map entry_line (take n es)
take_map es zero = refl
take_map [] (suc n) = refl
take_map (e ∷ es) (suc n) = ap (λ (x : List (List ℕ)). entry_line e ∷ x) (take_map es n)

front_lines : (j : Journal) (n : ℕ) → take (length (opening_lines j) + n) (journal_lines j) ≡ journal_lines (front_of j n)
front_lines j n =
    ap (take (length (opening_lines j) + n)) (lines_are j)
    ∙ take-append-add (opening_lines j) (map entry_line j.entries) n
    ∙ ap (λ (x : List (List ℕ)). opening_lines j ++ x) (take_map j.entries n)
    ∙ sym (lines_are (front_of j n))

all_front : (rules : Rules) (es : List Entry) (n : ℕ) → AllByRecursion (HasLine rules) es → AllByRecursion (HasLine rules) (take n es)
all_front rules es zero h = tt
all_front rules [] (suc n) h = tt
all_front rules (e ∷ es) (suc n) h = (h.0, all_front rules es n h.1)

-- a front of a journal that has a text has one
pub front_written : (j : Journal) (n : ℕ) → IsWritten j → IsWritten (front_of j n)
front_written j n w = record { sessions = w.sessions; names = w.names; image = w.image; entries = all_front j.rules j.entries n w.entries }

-- the lines of a journal are read as it
lines_read : (j : Journal) → IsWritten j → journal_of (journal_lines j) ≡ Some j
lines_read j w = ap (λ (x : Lines). journal_of x.whole) (sym (text_lines j w)) ∙ (text_of_journal (journal_text j) j (journals_read_back j w)).of

take_less : {X : Type 0} (xs : List X) (k m : ℕ) → min k (length xs) ≤ m → take k xs ≡ take k (take m xs)
take_less [] zero zero h = refl
take_less [] zero (suc m) h = refl
take_less [] (suc k) zero h = refl
take_less [] (suc k) (suc m) h = refl
take_less (x ∷ xs) zero m h = refl
take_less (x ∷ xs) (suc k) zero h = absurd (omega (arith, h))
take_less {X = X} (x ∷ xs) (suc k) (suc m) h = ap (λ (ys : List X). x ∷ ys) (take_less xs k m (omega (arith, h)))

nil_take : {X : Type 0} (n : ℕ) → take n (let x : List X = [] in x) ≡ []
nil_take zero = refl
nil_take (suc n) = refl

take_min : {X : Type 0} (xs : List X) (k : ℕ) → take (min k (length xs)) xs ≡ take k xs
take_min {X = X} [] k = nil_take {X = X} (min k 0) ∙ sym (nil_take {X = X} k)
take_min {X = X} (x ∷ xs) zero =
    let none : min 0 (suc (length xs)) ≡ 0 = omega arith in
    ap (λ (n : ℕ). take n (x ∷ xs)) none
take_min {X = X} (x ∷ xs) (suc k) =
    let is : min (suc k) (suc (length xs)) ≡ suc (min k (length xs)) = omega arith in
    ap (λ (n : ℕ). take n (x ∷ xs)) is ∙ ap (λ (ys : List X). x ∷ ys) (take_min xs k)

-- the lines of a journal as they stand in its file
abbrev in_file : Journal → List (List ℕ)
in_file j = summed_lines [] (journal_lines j)

file_written : (j : Journal) → IsWritten j → file_text j ≡ written_lines (in_file j)
file_written j w = ap (λ (ls : Lines). written_lines (summed_lines [] ls.whole)) (text_lines j w)

-- the first of them are those of a front
front_in_file : (j : Journal) (n : ℕ) → take (length (opening_lines j) + n) (in_file j) ≡ in_file (front_of j n)
front_in_file j n = sym (summed_front [] (journal_lines j) (length (opening_lines j) + n)) ∙ ap (summed_lines []) (front_lines j n)

opening_written : (j : Journal) → IsWritten j → opening_text j ≡ written_lines (take (length (opening_lines j)) (in_file j))
opening_written j w =
    let o = length (opening_lines j) in
    let none : o + 0 ≡ o = omega arith in
    file_written (front_of j 0) (front_written j 0 w) ∙ ap written_lines (sym (front_in_file j 0) ∙ ap (λ (n : ℕ). take n (in_file j)) none)

-- an entry whose line is whole is there
entry_whole : (j : Journal) (n : ℕ) (w : IsWritten j) (c : IsCut (in_file j) n) (m : ℕ) → length (in_file j) ≡ length (opening_lines j) + length j.entries → c.count ≡ length (opening_lines j) + m → (k : ℕ) → length (file_text (front_of j k)) ≤ n →
    take k j.entries ≡ take k (take m j.entries)
entry_whole j n w c m count at k fits =
    let o = length (opening_lines j) in
    let i = min k (length j.entries) in
    let same : front_of j i ≡ front_of j k = ap (λ (es : List Entry). let f : Journal = record j { entries = es } in f) (take_min j.entries k) in
    let short : length (written_lines (take (o + i) (in_file j))) ≤ n = subst (λ (x : List ℕ). length x ≤ n) (file_written (front_of j k) (front_written j k w) ∙ ap (λ (f : Journal). written_lines (in_file f)) (sym same) ∙ ap written_lines (sym (front_in_file j i))) fits in
    let within = c.most (o + i) (omega (arith, count)) short in
    take_less j.entries k m (omega (arith, within, at))

pub cuts_are_fronts : CutsAreFronts
cuts_are_fronts j n w long =
    let ls = in_file j in
    let o = length (opening_lines j) in
    let c = cut_lines ls n (summed_unbroken [] (journal_lines j) (lines_unbroken j w)) in
    let count : length ls ≡ o + length j.entries =
    summed_count [] (journal_lines j) ∙ ap (length {A = List ℕ}) (lines_are j) ∙ length-append (opening_lines j) (map entry_line j.entries) ∙ ap (λ (x : ℕ). o + x) (length-map j.entries entry_line) in
    let opened : length (written_lines (take o ls)) ≤ n = subst (λ (x : List ℕ). length x ≤ n) (opening_written j w) long in
    let least : o ≤ c.count = c.most o (omega (arith, count)) opened in
    let m = c.count - o in
    let at : c.count ≡ o + m = omega (arith, least) in
    let lines : file_lines (take n (file_text j)) ≡ journal_lines (front_of j m) =
    ap (λ (x : List ℕ). file_lines (take n x)) (file_written j w)
    ∙ ap plain_lines (c.lines ∙ ap (λ (x : ℕ). take x ls) at ∙ front_in_file j m)
    ∙ sums_come_off (journal_lines (front_of j m)) in
    (m, ap journal_of lines ∙ lines_read (front_of j m) (front_written j m w), entry_whole j n w c m count at)
