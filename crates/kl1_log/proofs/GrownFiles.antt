-- The file of a journal that has grown.
use Rattle.std.proofs.Common.{◌≡◌, ◌⊎◌, ℕ, suc, ◌+◌, ◌-◌, ◌≤◌, ◌<◌, ◌==◌, nat_lt, nat_le, Bool, true, false, if◌then◌else◌, List, [], ◌∷◌, ◌++◌, map, length, take, drop, refl, sym, ap, ◌∙◌, subst, arith, inl, inr, append_assoc}
use Rattle.std.specs.Prelude.{Option, None, option_map, replicate}
use Rattle.std.specs.List.{list_all, AllByRecursion}
use Rattle.std.proofs.lemmas.Bool.{and_from, cases_lt, lt-ltb, le-ltb}
use Rattle.std.proofs.lemmas.List.{append-nil, length-append, length-drop, length-map, length-take, take_all, drop_at, map-append, replicate-append-replicate}
use Rattle.kl1_model.specs.declared.rules.Rules.{Rules}
use Rattle.kl1_model.specs.declared.limits.TheConstants.{MOST_LINE_BYTES}
use Rattle.kl1_model_server.specs.Command.{written_line, written_lines}
use Rattle.kl1_model_server.specs.Journal.{Entry, runs, Journal}
use Rattle.kl1_model_server.specs.JournalText.{entry_line, name_line, heading_line, journal_lines, Lines, lines_of, journal_of, journal_in, entries_in}
use Rattle.kl1_model_server.specs.laws.TextLaws.{HasLine, is_unbroken, IsWritten}
use Rattle.kl1_model_server.proofs.TextEntries.{entries_read_back}
use Rattle.kl1_model_server.proofs.TextJournals.{journals_read_back}
use Rattle.kl1_model_server.proofs.TextLines.{lines_of_lines}
use Rattle.kl1_model_server.proofs.TextUnbroken.{entry_unbroken}
use Rattle.kl1_log.specs.declared.mark.Mark.{Mark}
use Rattle.kl1_log.specs.Deeds.{deeds_of, deeds_of_entry, IsPlainFile, shut_text}
use Rattle.kl1_log.specs.Later.{Grows, AreLater, IsLater, run_length, last_run, IsMark, run_if, run_of_line, run_of_lines, run_line}
use Rattle.kl1_sums.proofs.TextsOfLines.{lines_then}
use Rattle.kl1_log.proofs.LinesCut.{text_of_journal}
use Rattle.kl1_log.proofs.EntriesMore.{with_more, journal_then, entries_back}
use Rattle.kl1_log.proofs.DeedsDone.{deeds_more}

-- ---- which entries are later

-- the last entry, which may have grown, and those before and after it
pub record Parts (ds es : List Entry) : Type 0 where
  pub front : List Entry
  pub was : Entry
  pub is : Entry
  pub more : List Entry
  pub old : ds ≡ front ++ was ∷ []
  pub new : es ≡ front ++ is ∷ more
  pub grows : Grows was is

one_part : (d e : Entry) (ds es : List Entry) → d ≡ e → (ds ≡ []) ⊎ Parts ds es → (ds ≡ [] → ⊥) → Parts (d ∷ ds) (e ∷ es)
one_part d e ds es same (inl none) some = absurd (some none)
one_part d e ds es same (inr p) some = record {
  front = d ∷ p.front;
  was = p.was;
  is = p.is;
  more = p.more;
  old = ap (λ (x : List Entry). d ∷ x) p.old;
  new = ap (λ (x : Entry). x ∷ es) (sym same) ∙ ap (λ (x : List Entry). d ∷ x) p.new;
  grows = p.grows;
}

no_cons : (x : Entry) (xs : List Entry) → x ∷ xs ≡ [] → ⊥
no_cons x xs h = cc

-- entries that stand in later ones
pub later_parts : (ds es : List Entry) → AreLater ds es → (ds ≡ []) ⊎ Parts ds es
later_parts [] es l = inl refl
later_parts (d ∷ ds) [] l = absurd l
later_parts (d ∷ []) (e ∷ es) l = inr (record { front = []; was = d; is = e; more = es; old = refl; new = refl; grows = l.0 })
later_parts (d ∷ x ∷ xs) (e ∷ es) l = inr (one_part d e (x ∷ xs) es l.0 (later_parts (x ∷ xs) es l.1) (no_cons x xs))

last_of : (front : List Entry) (e : Entry) (more : List Entry) → last_run (front ++ e ∷ more) ≡ last_run (e ∷ more)
last_of [] e more = refl
last_of (d ∷ []) e more = refl
last_of (d ∷ x ∷ xs) e more = last_of (x ∷ xs) e more

-- ---- the runs of lines

none_by : (b : Bool) → (if◌then◌else◌ {A = Option Entry} b None None) ≡ None
none_by true = refl
none_by false = refl

name_run : (rules : Rules) (t : List ℕ) → run_of_line rules (name_line t) ≡ 0
name_run rules t = ap run_if (none_by (nat_le (length (name_line t)) MOST_LINE_BYTES))

heading_run : (rules : Rules) (sessions names : ℕ) → run_of_line rules (heading_line rules sessions names) ≡ 0
heading_run rules sessions names = ap run_if (none_by (nat_le (length (heading_line rules sessions names)) MOST_LINE_BYTES))

entry_run : (rules : Rules) (e : Entry) → HasLine rules e → run_of_line rules (entry_line e) ≡ run_length e
entry_run rules e h = ap run_if (entries_read_back rules e h)

-- the last line of entries has the last run
pub entries_run : (rules : Rules) (e : Entry) (es : List Entry) → AllByRecursion (HasLine rules) (e ∷ es) → run_of_lines rules (map entry_line (e ∷ es)) ≡ last_run (e ∷ es)
entries_run rules e [] h = entry_run rules e h.0
entries_run rules e (f ∷ fs) h = entries_run rules f fs h.1

lines_run : (rules : Rules) (x : List ℕ) (es : List Entry) → run_of_line rules x ≡ 0 → AllByRecursion (HasLine rules) es → run_of_lines rules (x ∷ map entry_line es) ≡ last_run es
lines_run rules x [] none h = none
lines_run rules x (e ∷ es) none h = entries_run rules e es h

-- the last line before the entries, and then those of the entries
pub record Opens (rules : Rules) (page : List (List ℕ)) (lines : List (List ℕ)) : Type 0 where
  pub last : List ℕ
  pub is : page ≡ last ∷ lines
  pub none : run_of_line rules last ≡ 0

opened : (rules : Rules) (h : List ℕ) (names : List (List ℕ)) (lines : List (List ℕ)) → run_of_line rules h ≡ 0 → Opens rules (drop (length names) ((h ∷ map name_line names) ++ lines)) lines
opened rules h [] lines none = record { last = h; is = refl; none = none }
opened rules h (t ∷ ts) lines none = opened rules (name_line t) ts lines (name_run rules t)

-- ---- the file

all_unbroken : (rules : Rules) (es : List Entry) → AllByRecursion (HasLine rules) es → list_all is_unbroken (map entry_line es) ≡ true
all_unbroken rules [] h = refl
all_unbroken rules (e ∷ es) h = and_from (is_unbroken (entry_line e)) (list_all is_unbroken (map entry_line es)) (entry_unbroken rules e h.0) (all_unbroken rules es h.1)

-- the lines of more entries are put after a file
pub file_grows : (text : List ℕ) (old j : Journal) (xs : List Entry) → IsPlainFile text old → old.rules ≡ j.rules → old.names ≡ j.names → AllByRecursion (HasLine j.rules) xs → deeds_of old.entries ++ deeds_of xs ≡ deeds_of j.entries → IsPlainFile (text ++ written_lines (map entry_line xs)) j
file_grows text old j xs f rules names h deeds =
    let t = text_of_journal text f.read f.is in
    let lines = map entry_line xs in
    let none = all_unbroken j.rules xs h in
    let own : lines_of (written_lines lines) ≡ record { whole = lines; rest = [] } = ap lines_of (sym (append-nil (written_lines lines))) ∙ lines_of_lines lines [] none refl in
    let all : lines_of (text ++ written_lines lines) ≡ record { whole = (lines_of text).whole ++ lines; rest = [] } =
    ap (λ (x : List ℕ). lines_of (x ++ written_lines lines)) t.whole
    ∙ lines_then (lines_of text).whole (written_lines lines) t.unbroken
    ∙ ap (λ (ls : Lines). let x : Lines = record { whole = (lines_of text).whole ++ ls.whole; rest = ls.rest } in x) own in
    record {
      read = with_more f.read xs;
      is =
          ap (λ (ls : Lines). if◌then◌else◌ {A = Option Journal} (length ls.rest == 0) (journal_of ls.whole) None) all
          ∙ journal_then (lines_of text).whole lines f.read t.of
          ∙ ap (option_map (with_more f.read)) (ap (λ (of : Rules). entries_in of lines) (f.says.rules ∙ rules) ∙ entries_back j.rules xs h);
      closed = f.closed;
      says = record {
        rules = f.says.rules ∙ rules;
        names = f.says.names ∙ names;
        deeds = deeds_more f.read.entries xs ∙ ap (λ (x : List Entry). x ++ deeds_of xs) f.says.deeds ∙ deeds;
      };
    }

-- the entry of that line, if there is one
abbrev longer_run : ℕ → ℕ → List Entry
longer_run was is = if nat_lt was is then runs (is - was) ∷ [] else []

run_written : (b : Bool) (n : ℕ) → (if b then written_line (entry_line (runs n)) else []) ≡ written_lines (map entry_line (if b then runs n ∷ [] else []))
run_written true n = sym (append-nil (written_line (entry_line (runs n))))
run_written false n = refl

-- the lines that are put: the run, and the entries after it
lines_put : (was is : ℕ) (more : List Entry) → run_line was is ++ written_lines (map entry_line more) ≡ written_lines (map entry_line (longer_run was is ++ more))
lines_put was is more = by_test (nat_lt was is)
  where
    by_test : (b : Bool) → (if b then written_line (entry_line (runs (is - was))) else []) ++ written_lines (map entry_line more) ≡ written_lines (map entry_line ((if b then runs (is - was) ∷ [] else []) ++ more))
    by_test true = refl
    by_test false = refl

no_longer : (n : ℕ) → longer_run n n ≡ []
no_longer n = ap (λ (b : Bool). let x : List Entry = if b then runs (n - n) ∷ [] else [] in x) (le-ltb n n (omega arith))

longer : (m n : ℕ) → m < n → longer_run m n ≡ runs (n - m) ∷ []
longer m n less = ap (λ (b : Bool). let x : List Entry = if b then runs (n - m) ∷ [] else [] in x) (lt-ltb m n less)

-- an entry that has grown did what it had done, and then what is put
grown_deeds : (d e : Entry) → Grows d e → deeds_of_entry d ++ deeds_of (longer_run (run_length d) (run_length e)) ≡ deeds_of_entry e
grown_deeds d e (inl same) =
    ap (λ (x : Entry). deeds_of_entry d ++ deeds_of (longer_run (run_length d) (run_length x))) (sym same)
    ∙ ap (λ (x : List Entry). deeds_of_entry d ++ deeds_of x) (no_longer (run_length d))
    ∙ append-nil (deeds_of_entry d)
    ∙ ap deeds_of_entry same
grown_deeds d e (inr h) =
    ap (λ (x : Entry). deeds_of_entry x ++ deeds_of (longer_run (run_length x) (run_length e))) h.2
    ∙ ap (λ (x : Entry). replicate h.0 (runs 1) ++ deeds_of (longer_run h.0 (run_length x))) h.3
    ∙ both h.0 h.1 h.4 (cases_lt h.0 h.1)
    ∙ ap deeds_of_entry (sym h.3)
  where
    both : (m n : ℕ) → m ≤ n → (m < n) ⊎ (n ≤ m) → replicate m (runs 1) ++ deeds_of (longer_run m n) ≡ replicate n (runs 1)
    both m n le (inl less) =
        let sum : m + (n - m) ≡ n = omega (arith, le) in
        ap (λ (x : List Entry). replicate m (runs 1) ++ deeds_of x) (longer m n less)
        ∙ ap (λ (x : List Entry). replicate m (runs 1) ++ x) (append-nil (replicate (n - m) (runs 1)))
        ∙ replicate-append-replicate m (n - m) (runs 1)
        ∙ ap (λ (k : ℕ). replicate k (let e : Entry = runs 1 in e)) sum
    both m n le (inr more) =
        let same : m ≡ n = omega (arith, le, more) in
        ap (λ (k : ℕ). replicate m (runs 1) ++ deeds_of (longer_run m k)) (sym same)
        ∙ ap (λ (x : List Entry). replicate m (runs 1) ++ deeds_of x) (no_longer m)
        ∙ append-nil (replicate m (let e : Entry = runs 1 in e))
        ∙ ap (λ (k : ℕ). replicate k (let e : Entry = runs 1 in e)) same

-- what is put has a line
grown_lined : (rules : Rules) (d e : Entry) → Grows d e → HasLine rules e → AllByRecursion (HasLine rules) (longer_run (run_length d) (run_length e))
grown_lined rules d e (inl same) h = subst (AllByRecursion (HasLine rules)) (sym (ap (λ (x : Entry). longer_run (run_length d) (run_length x)) (sym same) ∙ no_longer (run_length d))) tt
grown_lined rules d e (inr g) h =
    subst (AllByRecursion (HasLine rules)) (sym (ap (λ (x : Entry). longer_run (run_length x) (run_length e)) g.2 ∙ ap (λ (x : Entry). longer_run g.0 (run_length x)) g.3))
    (both g.0 g.1 (cases_lt g.0 g.1) g.4 (subst (HasLine rules) g.3 h))
  where
    both : (m n : ℕ) → (m < n) ⊎ (n ≤ m) → m ≤ n → HasLine rules (runs n) → AllByRecursion (HasLine rules) (longer_run m n)
    both m n (inl less) le l =
        let a = l.0 in
        let b = l.1 in
        subst (AllByRecursion (HasLine rules)) (sym (longer m n less)) ((omega (arith, less), omega (arith, less, b)), tt)
    both m n (inr more) le l =
        let same : m ≡ n = omega (arith, le, more) in
        subst (AllByRecursion (HasLine rules)) (sym (ap (longer_run m) (sym same) ∙ no_longer m)) tt

all_more : (rules : Rules) (xs ys : List Entry) → AllByRecursion (HasLine rules) xs → AllByRecursion (HasLine rules) ys → AllByRecursion (HasLine rules) (xs ++ ys)
all_more rules [] ys h k = k
all_more rules (x ∷ xs) ys h k = (h.0, all_more rules xs ys h.1 k)

all_after : (rules : Rules) (xs ys : List Entry) → AllByRecursion (HasLine rules) (xs ++ ys) → AllByRecursion (HasLine rules) ys
all_after rules [] ys h = h
all_after rules (x ∷ xs) ys h = all_after rules xs ys h.1

-- the lines before those of the entries
abbrev opening_lines : Journal → List (List ℕ)
opening_lines j = heading_line j.rules j.sessions (length j.names) ∷ map name_line j.names

opening_count : (j : Journal) → length (opening_lines j) ≡ suc (length j.names)
opening_count j = ap suc (length-map j.names name_line)

lines_are : (j : Journal) → journal_lines j ≡ opening_lines j ++ map entry_line j.entries
lines_are j = refl

lines_count : (j : Journal) → length (journal_lines j) ≡ suc (length j.names) + length j.entries
lines_count j = omega (arith, ap (length {A = List ℕ}) (lines_are j), length-append (opening_lines j) (map entry_line j.entries), length-map j.entries entry_line, opening_count j)

no_entry : (es : List Entry) → es ≡ [] → length es ≡ 0
no_entry es h = ap (length {A = Entry}) h

-- What is read of a page from the last line that was put on: it is there, and what is after it is new.
pub record IsPage (was : Journal) (j : Journal) (run : ℕ) (last : List ℕ) (more : List (List ℕ)) : Type 0 where
  pub put : List Entry
  pub lined : AllByRecursion (HasLine j.rules) put
  pub deeds : deeds_of was.entries ++ deeds_of put ≡ deeds_of j.entries
  pub lines : run_line run (run_of_line j.rules last) ++ written_lines more ≡ written_lines (map entry_line put)
  pub newest : run_of_lines j.rules (last ∷ more) ≡ last_run j.entries

first_is : (a b : List ℕ) (xs ys : List (List ℕ)) → a ∷ xs ≡ b ∷ ys → a ≡ b
first_is a b xs ys h = ap (λ (ls : List (List ℕ)). elim ls [ [] ↦ a | x ∷ rest ↦ x ]) h

others_are : (a b : List ℕ) (xs ys : List (List ℕ)) → a ∷ xs ≡ b ∷ ys → xs ≡ ys
others_are a b xs ys h = ap (λ (ls : List (List ℕ)). elim ls [ [] ↦ xs | x ∷ rest ↦ rest ]) h

-- no entry was there
page_opens : (old j : Journal) (m : Mark) (last : List ℕ) (more : List (List ℕ)) → IsWritten j → IsMark m old → IsLater old j → old.entries ≡ [] → last ∷ more ≡ drop (m.lines - 1) (journal_lines j) → IsPage old j m.run last more
page_opens old j m last more w mark l none page =
    let same = ap (length {A = List ℕ}) l.names in
    let lines = mark.lines in
    let empty = no_entry old.entries none in
    let at : m.lines - 1 ≡ length j.names = omega (arith, lines, lines_count old, empty, same) in
    let all = map entry_line j.entries in
    let o = opened j.rules (heading_line j.rules j.sessions (length j.names)) j.names all (heading_run j.rules j.sessions (length j.names)) in
    let here : last ∷ more ≡ o.last ∷ all = page ∙ ap (λ (k : ℕ). drop k (journal_lines j)) at ∙ o.is in
    let first = first_is last o.last more all here in
    let others = others_are last o.last more all here in
    let no_run : m.run ≡ 0 = mark.run ∙ ap last_run none in
    record {
      put = j.entries;
      lined = w.entries;
      deeds = ap (λ (x : List Entry). deeds_of x ++ deeds_of j.entries) none;
      lines =
          ap (λ (n : ℕ). run_line n (run_of_line j.rules last) ++ written_lines more) no_run
          ∙ ap (λ (n : ℕ). run_line 0 n ++ written_lines more) (ap (run_of_line j.rules) first ∙ o.none)
          ∙ ap written_lines others;
      newest = ap (run_of_lines j.rules) here ∙ lines_run j.rules o.last j.entries o.none w.entries;
    }

-- some entry was there
page_goes_on : (old j : Journal) (m : Mark) (last : List ℕ) (more : List (List ℕ)) → IsWritten j → IsMark m old → IsLater old j → Parts old.entries j.entries → last ∷ more ≡ drop (m.lines - 1) (journal_lines j) → IsPage old j m.run last more
page_goes_on old j m last more w mark l p page =
    let front = map entry_line p.front in
    let rest = map entry_line (p.is ∷ p.more) in
    let same = ap (length {A = List ℕ}) l.names in
    let lines = mark.lines in
    let count = ap (length {A = Entry}) p.old in
    let at : length (opening_lines j ++ front) ≡ m.lines - 1 =
    omega (arith, lines, lines_count old, count, length-append p.front (p.was ∷ []), same, length-append (opening_lines j) front, opening_count j, length-map p.front entry_line) in
    let split : journal_lines j ≡ (opening_lines j ++ front) ++ rest =
    lines_are j
    ∙ ap (λ (x : List Entry). opening_lines j ++ map entry_line x) p.new
    ∙ ap (λ (x : List (List ℕ)). opening_lines j ++ x) (map-append entry_line p.front (p.is ∷ p.more))
    ∙ sym (append_assoc (opening_lines j) front rest) in
    let here : last ∷ more ≡ rest = page ∙ ap (drop (m.lines - 1)) split ∙ drop_at (opening_lines j ++ front) rest (m.lines - 1) at in
    let first = first_is last (entry_line p.is) more (map entry_line p.more) here in
    let others = others_are last (entry_line p.is) more (map entry_line p.more) here in
    let all = all_after j.rules p.front (p.is ∷ p.more) (subst (AllByRecursion (HasLine j.rules)) p.new w.entries) in
    let run : m.run ≡ run_length p.was = mark.run ∙ ap last_run p.old ∙ last_of p.front p.was [] in
    let grown = longer_run (run_length p.was) (run_length p.is) in
    let did : deeds_of old.entries ≡ deeds_of p.front ++ deeds_of_entry p.was = ap deeds_of p.old ∙ deeds_more p.front (p.was ∷ []) ∙ ap (λ (x : List Entry). deeds_of p.front ++ x) (append-nil (deeds_of_entry p.was)) in
    record {
      put = grown ++ p.more;
      lined = all_more j.rules grown p.more (grown_lined j.rules p.was p.is p.grows all.0) all.1;
      deeds =
          ap (λ (x : List Entry). x ++ deeds_of (grown ++ p.more)) did
          ∙ ap (λ (x : List Entry). (deeds_of p.front ++ deeds_of_entry p.was) ++ x) (deeds_more grown p.more)
          ∙ sym (append_assoc (deeds_of p.front ++ deeds_of_entry p.was) (deeds_of grown) (deeds_of p.more))
          ∙ ap (λ (x : List Entry). x ++ deeds_of p.more) (append_assoc (deeds_of p.front) (deeds_of_entry p.was) (deeds_of grown) ∙ ap (λ (x : List Entry). deeds_of p.front ++ x) (grown_deeds p.was p.is p.grows))
          ∙ append_assoc (deeds_of p.front) (deeds_of_entry p.is) (deeds_of p.more)
          ∙ sym (ap deeds_of p.new ∙ deeds_more p.front (p.is ∷ p.more));
      lines =
          ap (λ (n : ℕ). run_line n (run_of_line j.rules last) ++ written_lines more) run
          ∙ ap (λ (n : ℕ). run_line (run_length p.was) n ++ written_lines more) (ap (run_of_line j.rules) first ∙ entry_run j.rules p.is all.0)
          ∙ ap (λ (x : List (List ℕ)). run_line (run_length p.was) (run_length p.is) ++ written_lines x) others
          ∙ lines_put (run_length p.was) (run_length p.is) p.more;
      newest = ap (run_of_lines j.rules) here ∙ entries_run j.rules p.is p.more all ∙ sym (ap last_run p.new ∙ last_of p.front p.is p.more);
    }

page_by : (old j : Journal) (m : Mark) (last : List ℕ) (more : List (List ℕ)) → IsWritten j → IsMark m old → IsLater old j → (old.entries ≡ []) ⊎ Parts old.entries j.entries → last ∷ more ≡ drop (m.lines - 1) (journal_lines j) → IsPage old j m.run last more
page_by old j m last more w mark l (inl none) page = page_opens old j m last more w mark l none page
page_by old j m last more w mark l (inr p) page = page_goes_on old j m last more w mark l p page

pub page_read : (old j : Journal) (m : Mark) (last : List ℕ) (more : List (List ℕ)) → IsWritten j → IsMark m old → IsLater old j → last ∷ more ≡ drop (m.lines - 1) (journal_lines j) → IsPage old j m.run last more
page_read old j m last more w mark l page = page_by old j m last more w mark l (later_parts old.entries j.entries l.entries) page

-- lines of which fewer were taken than might have been are all there are
pub page_all : (old j : Journal) (m : Mark) (page : List (List ℕ)) (most : ℕ) → IsMark m old → page ≡ take most (drop (m.lines - 1) (journal_lines j)) → m.lines + length page ≤ most → page ≡ drop (m.lines - 1) (journal_lines j)
page_all old j m page most mark is few =
    let left = drop (m.lines - 1) (journal_lines j) in
    let was = mark.lines in
    let long = ap (length {A = List ℕ}) is in
    is ∙ take_all most left (omega (arith, was, few, long, lines_count old, length-take most left))

-- the file of the journal that has grown
pub grown_file : (old j : Journal) (m : Mark) (text last : List ℕ) (more : List (List ℕ)) (bytes : List ℕ) → IsWritten j → last ∷ more ≡ drop (m.lines - 1) (journal_lines j) → bytes ≡ run_line m.run (run_of_line j.rules last) ++ written_lines more → IsMark m old → IsLater old j → IsPlainFile text old → IsPlainFile (text ++ bytes) j
grown_file old j m text last more bytes w page put mark l f =
    let p = page_read old j m last more w mark l page in
    subst (λ (x : List ℕ). IsPlainFile (text ++ x) j) (sym (put ∙ p.lines)) (file_grows text old j p.put f l.rules l.names p.lined p.deeds)

-- each line of a later journal
later_count : (ds es : List Entry) → AreLater ds es → length ds ≤ length es
later_count [] es l = omega arith
later_count (d ∷ ds) [] l = absurd l
later_count (d ∷ ds) (e ∷ es) l = let less = later_count ds es l.1 in omega (arith, less)

-- and up to where it is in its file
pub grown_mark : (old j : Journal) (m : Mark) (last : List ℕ) (more : List (List ℕ)) (end run : ℕ) → IsWritten j → last ∷ more ≡ drop (m.lines - 1) (journal_lines j) → end ≡ m.lines + length (last ∷ more) → run ≡ run_of_lines j.rules (last ∷ more) → IsMark m old → IsLater old j → IsMark (record { lines = end - 1; run = run }) j
grown_mark old j m last more end run w page count newest mark l =
    let p = page_read old j m last more w mark l page in
    let was = mark.lines in
    let names = ap (length {A = List ℕ}) l.names in
    let less = later_count old.entries j.entries l.entries in
    let long = ap (length {A = List ℕ}) page in
    record {
      lines = omega (arith, was, names, less, long, count, lines_count old, lines_count j, length-drop (m.lines - 1) (journal_lines j));
      run = newest ∙ p.newest;
    }

-- a page isn't empty
pub page_some : (old j : Journal) (m : Mark) → IsMark m old → IsLater old j → [] ≡ drop (m.lines - 1) (journal_lines j) → ⊥
page_some old j m mark l page =
    let was = mark.lines in
    let names = ap (length {A = List ℕ}) l.names in
    let less = later_count old.entries j.entries l.entries in
    let long = ap (length {A = List ℕ}) page in
    omega (arith, was, names, less, long, lines_count old, lines_count j, length-drop (m.lines - 1) (journal_lines j))

-- ---- the text of a journal

shut_written : (j : Journal) → IsWritten j → IsWritten (record j { sessions = 0 })
shut_written j w = record { sessions = omega arith; names = w.names; image = w.image; entries = w.entries }

-- the text of a journal is a file of it
pub shut_file : (j : Journal) (bytes : List ℕ) → IsWritten j → bytes ≡ shut_text j → IsPlainFile bytes j
shut_file j bytes w text =
    let shut = record j { sessions = 0 } in
    record { read = shut; is = ap journal_in text ∙ journals_read_back shut (shut_written j w); closed = refl; says = record { rules = refl; names = refl; deeds = refl } }

names_run : (rules : Rules) (h : List ℕ) (names : List (List ℕ)) (es : List Entry) → run_of_line rules h ≡ 0 → AllByRecursion (HasLine rules) es → run_of_lines rules ((h ∷ map name_line names) ++ map entry_line es) ≡ last_run es
names_run rules h [] es none all = lines_run rules h es none all
names_run rules h (t ∷ ts) es none all = names_run rules (name_line t) ts es (name_run rules t) all

pub begun_mark : (j : Journal) (lines : List (List ℕ)) (count run : ℕ) → IsWritten j → lines ≡ journal_lines j → count ≡ length lines → run ≡ run_of_lines j.rules lines → IsMark (record { lines = count; run = run }) j
begun_mark j lines count run w page many newest = record {
  lines = many ∙ ap (length {A = List ℕ}) page;
  run = newest ∙ ap (run_of_lines j.rules) page ∙ names_run j.rules (heading_line j.rules j.sessions (length j.names)) j.names j.entries (heading_run j.rules j.sessions (length j.names)) w.entries;
}
