-- The texts of journals read back.
use Rattle.std.specs.Prelude.{◌≡◌, ℕ, zero, suc, ◌==◌, ◌&&◌, Bool, true, false, if◌then◌else◌, List, [], ◌∷◌, ◌++◌, length, map, Option, Some, None, option_map, option_and_then}
use Rattle.std.specs.List.{list_all, AllByRecursion}
use Rattle.std.proofs.Common.{refl, sym, ap, ap₂, ◌∙◌, subst, arith}
use Rattle.std.proofs.lemmas.Bool.{and_parts, and_from, eqb-true}
use Rattle.std.proofs.lemmas.List.{append_assoc, append-nil}
use Rattle.std.proofs.lemmas.List.Folds.{list_all-append}
use Rattle.std.proofs.lemmas.Option.{none-some, same_Some}
use Rattle.kl1_model.specs.declared.rules.Rules.{Rules}
use Rattle.kl1_model.specs.Text.{is_text}
use Rattle.kl1_model.proofs.LimitFacts.{limits_are_low}
use Rattle.kl1_model_server.specs.Command.{written_lines}
use Rattle.kl1_model_server.specs.Journal.{Entry, Journal}
use Rattle.kl1_model_server.specs.JournalText.{entry_line, name_line, heading_line, journal_lines, entry_in, name_in, is_new_name, Heading, heading_in, Lines, lines_of, entries_in, journal_after, journal_of}
use Rattle.kl1_model_server.specs.laws.TextLaws.{HasLine, is_unbroken, are_new_names, IsWritten, journal_text, JournalsReadBack, StrictTextsAreJournals}
use Rattle.kl1_model_server.proofs.TextEntries.{entries_read_back, strict_lines_are_entries}
use Rattle.kl1_model_server.proofs.TextNames.{names_read_back, strict_lines_are_names, headings_read_back, strict_lines_are_headings}
use Rattle.kl1_model_server.proofs.TextLines.{lines_of_lines, texts_are_lines}
use Rattle.kl1_model_server.proofs.TextUnbroken.{entry_unbroken, name_unbroken, first_unbroken}

-- the journal of these rules, sessions, names and entries
abbrev journal_from : Rules → ℕ → List (List ℕ) → List Entry → Journal
journal_from rules sessions names entries = record { rules = rules; sessions = sessions; names = names; image = []; entries = entries }

-- one entry of those that are read
entry_then : (e : Entry) (o : Option Entry) (rest : Option (List Entry)) (es : List Entry) → o ≡ Some e → rest ≡ Some es → option_and_then (λ e. option_map (λ es. e ∷ es) rest) o ≡ Some (e ∷ es)
entry_then e o rest es p q = rw (p, q) refl

entries_back : (rules : Rules) (es : List Entry) → AllByRecursion (HasLine rules) es → entries_in rules (map entry_line es) ≡ Some es
entries_back rules [] h = refl
entries_back rules (e ∷ es) h = entry_then e (entry_in rules (entry_line e)) (entries_in rules (map entry_line es)) es (entries_read_back rules e h.0) (entries_back rules es h.1)

-- one name of a journal that is read
name_then : (o : Option (List ℕ)) (t : List ℕ) (test : List ℕ → Bool) (go : List ℕ → Option Journal) → o ≡ Some t → test t ≡ true → option_and_then (λ t. if test t then go t else None) o ≡ go t
name_then o t test go p q = ap (option_and_then (λ t. if test t then go t else None)) p ∙ ap (λ x. if◌then◌else◌ {A = Option Journal} x (go t) None) q

after_back : (rules : Rules) (sessions : ℕ) (before names : List (List ℕ)) (es : List Entry) → are_new_names before names ≡ true → AllByRecursion (HasLine rules) es →
    journal_after rules sessions before (length names) (map name_line names ++ map entry_line es) ≡ Some (journal_from rules sessions (before ++ names) es)
after_back rules sessions before [] es new h = ap (option_map (journal_from rules sessions before)) (entries_back rules es h) ∙ ap (λ x. Some (journal_from rules sessions x es)) (sym (append-nil before))
after_back rules sessions before (t ∷ ts) es new h =
    let all = and_parts (is_text t && is_new_name before t) (are_new_names (before ++ t ∷ []) ts) new in
    let both = and_parts (is_text t) (is_new_name before t) all.0 in
    name_then (name_in (name_line t)) t (is_new_name before) (λ t. journal_after rules sessions (before ++ t ∷ []) (length ts) (map name_line ts ++ map entry_line es)) (names_read_back t both.0) both.1
    ∙ after_back rules sessions (before ++ t ∷ []) ts es all.1 h
    ∙ ap (λ x. Some (journal_from rules sessions x es)) (append_assoc before (t ∷ []) ts)

-- the lines of a journal
of_back : (j : Journal) → IsWritten j → journal_of (journal_lines j) ≡ Some j
of_back j w =
    let lines = map name_line j.names ++ map entry_line j.entries in
    ap (option_and_then (λ (h : Heading). journal_after h.rules h.sessions [] h.names lines)) (headings_read_back j.rules j.sessions (length j.names) w.sessions w.names.few)
    ∙ after_back j.rules j.sessions [] j.names j.entries w.names.new w.entries
    ∙ ap (λ i. Some (record j { image = i })) (sym w.image)

names_unbroken : (before names : List (List ℕ)) → are_new_names before names ≡ true → list_all is_unbroken (map name_line names) ≡ true
names_unbroken before [] h = refl
names_unbroken before (t ∷ ts) h =
    let all = and_parts (is_text t && is_new_name before t) (are_new_names (before ++ t ∷ []) ts) h in
    and_from (is_unbroken (name_line t)) (list_all is_unbroken (map name_line ts)) (name_unbroken t (and_parts (is_text t) (is_new_name before t) all.0).0) (names_unbroken (before ++ t ∷ []) ts all.1)

entries_unbroken : (rules : Rules) (es : List Entry) → AllByRecursion (HasLine rules) es → list_all is_unbroken (map entry_line es) ≡ true
entries_unbroken rules [] h = refl
entries_unbroken rules (e ∷ es) h = and_from (is_unbroken (entry_line e)) (list_all is_unbroken (map entry_line es)) (entry_unbroken rules e h.0) (entries_unbroken rules es h.1)

-- no line of a journal has a line feed
pub lines_unbroken : (j : Journal) → IsWritten j → list_all is_unbroken (journal_lines j) ≡ true
lines_unbroken j w =
    let names = map name_line j.names in
    let entries = map entry_line j.entries in
    let few = w.sessions in
    let less = w.names.few in
    let low = (limits_are_low j.rules).names in
    and_from (is_unbroken (heading_line j.rules j.sessions (length j.names))) (list_all is_unbroken (names ++ entries)) (first_unbroken j.rules j.sessions (length j.names) (omega arith) (omega arith))
    (list_all-append is_unbroken names entries ∙ and_from (list_all is_unbroken names) (list_all is_unbroken entries) (names_unbroken [] j.names w.names.new) (entries_unbroken j.rules j.entries w.entries))

-- the lines of a journal's text
pub text_lines : (j : Journal) → IsWritten j → lines_of (journal_text j) ≡ record { whole = journal_lines j; rest = [] }
text_lines j w = ap lines_of (sym (append-nil (journal_text j))) ∙ lines_of_lines (journal_lines j) [] (lines_unbroken j w) refl

pub journals_read_back : JournalsReadBack
journals_read_back j w = ap (λ (ls : Lines). if◌then◌else◌ {A = Option Journal} (length ls.rest == 0) (journal_of ls.whole) None) (text_lines j w) ∙ of_back j w

rest_read : (line : List ℕ) (e : Entry) (lines : List (List ℕ)) (o : Option (List Entry)) (ds : List Entry) → entry_line e ≡ line → ((es : List Entry) → o ≡ Some es → map entry_line es ≡ lines) → option_map (λ es. e ∷ es) o ≡ Some ds → map entry_line ds ≡ line ∷ lines
rest_read line e lines None ds is r h = absurd (none-some ds h)
rest_read line e lines (Some es) ds is r h = ap (map entry_line) (sym (same_Some (e ∷ es) ds h)) ∙ ap₂ (λ (x : List ℕ) (xs : List (List ℕ)). x ∷ xs) is (r es refl)

line_read : (line : List ℕ) (lines : List (List ℕ)) (x : Option Entry) (o : Option (List Entry)) (ds : List Entry) → ((e : Entry) → x ≡ Some e → entry_line e ≡ line) → ((es : List Entry) → o ≡ Some es → map entry_line es ≡ lines) → option_and_then (λ e. option_map (λ es. e ∷ es) o) x ≡ Some ds → map entry_line ds ≡ line ∷ lines
line_read line lines None o ds is r h = absurd (none-some ds h)
line_read line lines (Some e) o ds is r h = rest_read line e lines o ds (is e refl) r h

-- the lines of entries that were read
entries_strict : (rules : Rules) (lines : List (List ℕ)) (es : List Entry) → entries_in rules lines ≡ Some es → map entry_line es ≡ lines
entries_strict rules [] es h = ap (map entry_line) (sym (same_Some [] es h))
entries_strict rules (line ∷ lines) es h = line_read line lines (entry_in rules line) (entries_in rules lines) es (strict_lines_are_entries rules line) (entries_strict rules lines) h

-- what is known of a journal that was read with these rules, sessions and names and this number of names more
record ReadAfter (rules : Rules) (sessions : ℕ) (before : List (List ℕ)) (n : ℕ) (lines : List (List ℕ)) (j : Journal) : Type 0 where
  more : List (List ℕ)
  count : length more ≡ n
  same_names : j.names ≡ before ++ more
  same_rules : j.rules ≡ rules
  same_sessions : j.sessions ≡ sessions
  same_lines : map name_line more ++ map entry_line j.entries ≡ lines

name_more : (line t : List ℕ) (rules : Rules) (sessions : ℕ) (before : List (List ℕ)) (n : ℕ) (lines : List (List ℕ)) (j : Journal) → name_line t ≡ line → ReadAfter rules sessions (before ++ t ∷ []) n lines j → ReadAfter rules sessions before (suc n) (line ∷ lines) j
name_more line t rules sessions before n lines j is r = record {
  more = t ∷ r.more;
  count = ap suc r.count;
  same_names = r.same_names ∙ append_assoc before (t ∷ []) r.more;
  same_rules = r.same_rules;
  same_sessions = r.same_sessions;
  same_lines = ap₂ (λ (x : List ℕ) (xs : List (List ℕ)). x ∷ xs) is r.same_lines;
}

name_by : (b : Bool) (line t : List ℕ) (rules : Rules) (sessions : ℕ) (before : List (List ℕ)) (n : ℕ) (lines : List (List ℕ)) (j : Journal) → name_line t ≡ line → (journal_after rules sessions (before ++ t ∷ []) n lines ≡ Some j → ReadAfter rules sessions (before ++ t ∷ []) n lines j) → (if b then journal_after rules sessions (before ++ t ∷ []) n lines else None) ≡ Some j → ReadAfter rules sessions before (suc n) (line ∷ lines) j
name_by true line t rules sessions before n lines j is r h = name_more line t rules sessions before n lines j is (r h)
name_by false line t rules sessions before n lines j is r h = absurd (none-some j h)

name_read : (line : List ℕ) (rules : Rules) (sessions : ℕ) (before : List (List ℕ)) (n : ℕ) (lines : List (List ℕ)) (x : Option (List ℕ)) (j : Journal) → ((t : List ℕ) → x ≡ Some t → name_line t ≡ line) → ((t : List ℕ) → journal_after rules sessions (before ++ t ∷ []) n lines ≡ Some j → ReadAfter rules sessions (before ++ t ∷ []) n lines j) → option_and_then (λ t. if is_new_name before t then journal_after rules sessions (before ++ t ∷ []) n lines else None) x ≡ Some j → ReadAfter rules sessions before (suc n) (line ∷ lines) j
name_read line rules sessions before n lines None j is r h = absurd (none-some j h)
name_read line rules sessions before n lines (Some t) j is r h = name_by (is_new_name before t) line t rules sessions before n lines j (is t refl) (r t) h

-- no name more
none_after : (rules : Rules) (sessions : ℕ) (before lines : List (List ℕ)) (o : Option (List Entry)) (j : Journal) → ((es : List Entry) → o ≡ Some es → map entry_line es ≡ lines) → option_map (journal_from rules sessions before) o ≡ Some j → ReadAfter rules sessions before zero lines j
none_after rules sessions before lines None j r h = absurd (none-some j h)
none_after rules sessions before lines (Some es) j r h = subst (ReadAfter rules sessions before zero lines) (same_Some (journal_from rules sessions before es) j h) (record {
  more = [];
  count = refl;
  same_names = sym (append-nil before);
  same_rules = refl;
  same_sessions = refl;
  same_lines = r es refl;
})

after_strict : (rules : Rules) (sessions : ℕ) (before : List (List ℕ)) (n : ℕ) (lines : List (List ℕ)) (j : Journal) → journal_after rules sessions before n lines ≡ Some j → ReadAfter rules sessions before n lines j
after_strict rules sessions before zero lines j h = none_after rules sessions before lines (entries_in rules lines) j (entries_strict rules lines) h
after_strict rules sessions before (suc n) [] j h = absurd (none-some j h)
after_strict rules sessions before (suc n) (line ∷ lines) j h =
    name_read line rules sessions before n lines (name_in line) j (λ t is. (strict_lines_are_names line t is).1) (λ t. after_strict rules sessions (before ++ t ∷ []) n lines j) h

lines_are : (line : List ℕ) (h : Heading) (lines : List (List ℕ)) (j : Journal) → heading_line h.rules h.sessions h.names ≡ line → ReadAfter h.rules h.sessions [] h.names lines j → journal_lines j ≡ line ∷ lines
lines_are line h lines j is r =
    ap₂ (λ (x : List ℕ) (xs : List (List ℕ)). x ∷ xs)
    (ap (λ rules. heading_line rules j.sessions (length j.names)) r.same_rules ∙ ap₂ (heading_line h.rules) r.same_sessions (ap (length {A = List ℕ}) r.same_names ∙ r.count) ∙ is)
    (ap (λ (x : List (List ℕ)). map name_line x ++ map entry_line j.entries) r.same_names ∙ r.same_lines)

heading_read : (line : List ℕ) (x : Option Heading) (lines : List (List ℕ)) (j : Journal) → ((h : Heading) → x ≡ Some h → heading_line h.rules h.sessions h.names ≡ line) → option_and_then (λ (h : Heading). journal_after h.rules h.sessions [] h.names lines) x ≡ Some j → journal_lines j ≡ line ∷ lines
heading_read line None lines j is e = absurd (none-some j e)
heading_read line (Some h) lines j is e = lines_are line h lines j (is h refl) (after_strict h.rules h.sessions [] h.names lines j e)

of_strict : (lines : List (List ℕ)) (j : Journal) → journal_of lines ≡ Some j → journal_lines j ≡ lines
of_strict [] j h = absurd (none-some j h)
of_strict (line ∷ lines) j e = heading_read line (heading_in line) lines j (λ h is. (strict_lines_are_headings line h is).2) e

no_length : (bs : List ℕ) → length bs ≡ 0 → bs ≡ []
no_length [] h = refl
no_length (b ∷ bs) h = absurd (omega (arith, h))

text_strict : (b : Bool) (text : List ℕ) (ls : Lines) (j : Journal) → (length ls.rest == 0) ≡ b → written_lines ls.whole ++ ls.rest ≡ text → if◌then◌else◌ {A = Option Journal} b (journal_of ls.whole) None ≡ Some j → journal_text j ≡ text
text_strict true text ls j is written h =
    ap written_lines (of_strict ls.whole j h)
    ∙ sym (append-nil (written_lines ls.whole))
    ∙ ap (λ x. written_lines ls.whole ++ x) (sym (no_length ls.rest (eqb-true (length ls.rest) 0 is)))
    ∙ written
text_strict false text ls j is written h = absurd (none-some j h)

pub strict_texts_are_journals : StrictTextsAreJournals
strict_texts_are_journals text j h = text_strict (length (lines_of text).rest == 0) text (lines_of text) j refl (texts_are_lines text).0 h
