-- The journal that a text is, line by line.
use Rattle.std.proofs.Common.{◌≡◌, ℕ, suc, ◌==◌, ◌&&◌, Bool, true, false, if◌then◌else◌, List, [], ◌∷◌, ◌++◌, length, refl, sym, ap, ◌∙◌, append_assoc}
use Rattle.std.specs.Prelude.{Option, Some, None, option_map, option_and_then}
use Rattle.std.proofs.lemmas.List.{append-nil}
use Rattle.std.proofs.lemmas.Bool.{and_from, and_parts}
use Rattle.std.proofs.lemmas.Option.{same_Some}
use Rattle.kl1_model.specs.declared.rules.Rules.{Rules}
use Rattle.kl1_model.specs.Text.{is_text}
use Rattle.kl1_model_server.specs.Journal.{Entry, Journal, new_journal, entered}
use Rattle.kl1_model_server.specs.JournalText.{Lines, lines_of, entry_in, name_in, is_new_name, entries_in, journal_after}
use Rattle.kl1_model_server.specs.laws.TextLaws.{are_new_names}
use Rattle.kl1_model_server.proofs.TextNames.{strict_lines_are_names}
use Rattle.kl1_journal_entries.specs.Lined.{with_prepared}
use Rattle.kl1_journal_entries.specs.Reading.{with_line, read_on, read_text, read_after}

neither : {A : Type 0} (x : Bool) → (if◌then◌else◌ {A = Option A} x None None) ≡ None
neither true = refl
neither false = refl

-- ---- entries

none_entry : (o : Option Entry) → None ≡ option_map (λ (e : Entry). let x : Option Entry = Some e in x) o → o ≡ None
none_entry None h = refl
none_entry (Some e) h = absurd (let f : ⊥ = cc in f)

-- a line that is no entry's
pub no_entry : (j : Journal) (text line after : List ℕ) → lines_of text ≡ with_line line (lines_of after) → None ≡ option_map (λ (e : Entry). let x : Option Entry = Some e in x) (entry_in j.rules line) → read_text j text ≡ None
no_entry j text line after is h =
    ap (λ (ls : Lines). if length ls.rest == 0 then read_on j ls.whole else None) is
    ∙ ap (λ (o : Option Entry). if length (lines_of after).rest == 0 then option_and_then (λ e. read_on (entered j e) (lines_of after).whole) o else None) (none_entry (entry_in j.rules line) h)
    ∙ neither (length (lines_of after).rest == 0)

entry_put : (j k : Journal) (text line after : List ℕ) (o p : Option Entry) → entry_in j.rules line ≡ o → lines_of text ≡ with_line line (lines_of after) → Some p ≡ option_map (λ (e : Entry). let x : Option Entry = Some e in x) o → k ≡ with_prepared j p → read_text k after ≡ read_text j text
entry_put j k text line after None p read is h put = absurd (let f : ⊥ = cc in f)
entry_put j k text line after (Some e) p read is h put =
    ap (λ (i : Journal). read_text i after) (put ∙ ap (with_prepared j) (same_Some p (Some e) h))
    ∙ sym (ap (λ (ls : Lines). if length ls.rest == 0 then read_on j ls.whole else None) is
    ∙ ap (λ (o : Option Entry). if length (lines_of after).rest == 0 then option_and_then (λ e. read_on (entered j e) (lines_of after).whole) o else None) read)

-- a line of an entry, which is put
pub entry_more : (j k : Journal) (text line after : List ℕ) (p : Option Entry) → lines_of text ≡ with_line line (lines_of after) → Some p ≡ option_map (λ (e : Entry). let x : Option Entry = Some e in x) (entry_in j.rules line) → k ≡ with_prepared j p → read_text k after ≡ read_text j text
entry_more j k text line after p is h put = entry_put j k text line after (entry_in j.rules line) p refl is h put

-- ---- names

after_by : (rules : Rules) (sessions : ℕ) (names : List (List ℕ)) (n : ℕ) (after line : List ℕ) (o : Option (List ℕ)) → Option Journal
after_by rules sessions names n after line o = if length (lines_of after).rest == 0 then option_and_then (λ t. if is_new_name names t then journal_after rules sessions (names ++ t ∷ []) n (lines_of after).whole else None) o else None

name_line_read : (rules : Rules) (sessions : ℕ) (names : List (List ℕ)) (m n : ℕ) (text line after : List ℕ) (o : Option (List ℕ)) → m ≡ suc n → lines_of text ≡ with_line line (lines_of after) → name_in line ≡ o → read_after rules sessions names m text ≡ after_by rules sessions names n after line o
unfolding after_by
name_line_read rules sessions names m n text line after o count is read =
    ap (λ (k : ℕ). read_after rules sessions names k text) count
    ∙ ap (λ (ls : Lines). if length ls.rest == 0 then journal_after rules sessions names (suc n) ls.whole else None) is
    ∙ ap (after_by rules sessions names n after line) read

-- a line of no name
pub no_name : (rules : Rules) (sessions : ℕ) (names : List (List ℕ)) (m n : ℕ) (text line after : List ℕ) → m ≡ suc n → lines_of text ≡ with_line line (lines_of after) → name_in line ≡ None → read_after rules sessions names m text ≡ None
unfolding after_by
no_name rules sessions names m n text line after count is read = name_line_read rules sessions names m n text line after None count is read ∙ neither (length (lines_of after).rest == 0)

-- no line, if names follow
pub no_line : (rules : Rules) (sessions : ℕ) (names : List (List ℕ)) (m n : ℕ) (text : List ℕ) → m ≡ suc n → lines_of text ≡ record { whole = []; rest = text } → read_after rules sessions names m text ≡ None
no_line rules sessions names m n text count is =
    ap (λ (k : ℕ). read_after rules sessions names k text) count
    ∙ ap (λ (ls : Lines). if length ls.rest == 0 then journal_after rules sessions names (suc n) ls.whole else None) is
    ∙ neither (length text == 0)

new_by : (x : Bool) (a b : Option Journal) → x ≡ false → (if x then a else b) ≡ b
new_by true a b h = cc
new_by false a b h = refl

old_by : (x : Bool) (a b : Option Journal) → x ≡ true → (if x then a else b) ≡ a
old_by true a b h = refl
old_by false a b h = cc

-- a name that may not follow
pub no_new_name : (rules : Rules) (sessions : ℕ) (names : List (List ℕ)) (m n : ℕ) (text line after t : List ℕ) → m ≡ suc n → lines_of text ≡ with_line line (lines_of after) → name_in line ≡ Some t → is_new_name names t ≡ false → read_after rules sessions names m text ≡ None
unfolding after_by
no_new_name rules sessions names m n text line after t count is read other =
    name_line_read rules sessions names m n text line after (Some t) count is read
    ∙ ap (λ (o : Option Journal). if length (lines_of after).rest == 0 then o else None) (new_by (is_new_name names t) (journal_after rules sessions (names ++ t ∷ []) n (lines_of after).whole) None other)
    ∙ neither (length (lines_of after).rest == 0)

-- a name that may follow
pub name_more : (rules : Rules) (sessions : ℕ) (names : List (List ℕ)) (m n : ℕ) (text line after t : List ℕ) → m ≡ suc n → lines_of text ≡ with_line line (lines_of after) → name_in line ≡ Some t → is_new_name names t ≡ true → read_after rules sessions (names ++ t ∷ []) n after ≡ read_after rules sessions names m text
unfolding after_by
name_more rules sessions names m n text line after t count is read new =
    sym (name_line_read rules sessions names m n text line after (Some t) count is read
    ∙ ap (λ (o : Option Journal). if length (lines_of after).rest == 0 then o else None) (old_by (is_new_name names t) (journal_after rules sessions (names ++ t ∷ []) n (lines_of after).whole) None new))

one_more : (before names : List (List ℕ)) (t : List ℕ) → are_new_names before names ≡ true → is_text t ≡ true → is_new_name (before ++ names) t ≡ true → are_new_names before (names ++ t ∷ []) ≡ true
one_more before [] t h text new = and_from (is_text t && is_new_name before t) true (and_from (is_text t) (is_new_name before t) text (ap (λ (ns : List (List ℕ)). is_new_name ns t) (sym (append-nil before)) ∙ new)) refl
one_more before (u ∷ us) t h text new =
    let both = and_parts (is_text u && is_new_name before u) (are_new_names (before ++ u ∷ []) us) h in
    and_from (is_text u && is_new_name before u) (are_new_names (before ++ u ∷ []) (us ++ t ∷ [])) both.0
    (one_more (before ++ u ∷ []) us t both.1 text (ap (λ (ns : List (List ℕ)). is_new_name ns t) (append_assoc before (u ∷ []) us) ∙ new))

-- names stay names that may follow one another
pub names_more : (names : List (List ℕ)) (line t : List ℕ) → are_new_names [] names ≡ true → name_in line ≡ Some t → is_new_name names t ≡ true → are_new_names [] (names ++ t ∷ []) ≡ true
names_more names line t h read new = one_more [] names t h (strict_lines_are_names line t read).0 new

-- ---- the journal after its names

journal_from : Rules → ℕ → List (List ℕ) → List Entry → Journal
journal_from rules sessions names es = record { rules = rules; sessions = sessions; names = names; image = []; entries = es }

after_none : (rules : Rules) (sessions : ℕ) (names lines : List (List ℕ)) → journal_after rules sessions names 0 lines ≡ option_map (journal_from rules sessions names) (entries_in rules lines)
unfolding journal_from
after_none rules sessions names lines = refl

joined : Journal → List Entry → Journal
joined j es = record j { entries = j.entries ++ es }

on_by : (j : Journal) (o : Option Entry) (w : Entry → Option Journal) (x : Option (List Entry)) → ((e : Entry) → w e ≡ option_map (joined (entered j e)) x) →
    option_and_then w o ≡ option_map (joined j) (option_and_then (λ e. option_map (λ es. e ∷ es) x) o)
unfolding joined
on_by j None w x is = refl
on_by j (Some e) w None is = is e
on_by j (Some e) w (Some es) is = is e ∙ ap (λ (ds : List Entry). let r : Option Journal = Some (record j { entries = ds }) in r) (append_assoc j.entries (e ∷ []) es)

on_read : (j : Journal) (lines : List (List ℕ)) → read_on j lines ≡ option_map (joined j) (entries_in j.rules lines)
unfolding joined
on_read j [] = ap (λ (ds : List Entry). let r : Option Journal = Some (record j { entries = ds }) in r) (sym (append-nil j.entries))
on_read j (line ∷ lines) = on_by j (entry_in j.rules line) (λ e. read_on (entered j e) lines) (entries_in j.rules lines) (λ e. on_read (entered j e) lines)

same_from : (rules : Rules) (sessions : ℕ) (names : List (List ℕ)) (x : Option (List Entry)) → option_map (joined (new_journal rules names sessions)) x ≡ option_map (journal_from rules sessions names) x
unfolding journal_from joined
same_from rules sessions names None = refl
same_from rules sessions names (Some es) = refl

-- the journal that begins with these names and goes on with a text's entries
pub names_done : (rules : Rules) (sessions : ℕ) (names : List (List ℕ)) (n : ℕ) (text : List ℕ) (j : Journal) → j ≡ new_journal rules names sessions → n ≡ 0 → read_text j text ≡ read_after rules sessions names n text
names_done rules sessions names n text j is none =
    ap (λ (i : Journal). read_text i text) is
    ∙ ap (λ (o : Option Journal). if length (lines_of text).rest == 0 then o else None) (on_read (new_journal rules names sessions) (lines_of text).whole ∙ same_from rules sessions names (entries_in rules (lines_of text).whole) ∙ sym (after_none rules sessions names (lines_of text).whole))
    ∙ ap (λ (k : ℕ). read_after rules sessions names k text) (sym none)
