-- Lines of entries after those of a journal.
use Rattle.std.proofs.Common.{◌≡◌, ℕ, zero, suc, Bool, true, false, if◌then◌else◌, List, [], ◌∷◌, ◌++◌, map, take, refl, ap, ◌∙◌}
use Rattle.std.specs.Prelude.{Option, Some, None, option_map, option_and_then}
use Rattle.std.specs.List.{AllByRecursion}
use Rattle.std.proofs.lemmas.Option.{none-some, same_Some}
use Rattle.kl1_model.specs.declared.rules.Rules.{Rules}
use Rattle.kl1_model_server.specs.Journal.{Entry, Journal}
use Rattle.kl1_model_server.specs.JournalText.{entry_line, entry_in, name_in, is_new_name, Heading, heading_in, entries_in, journal_after, journal_of}
use Rattle.kl1_model_server.specs.laws.TextLaws.{HasLine}
use Rattle.kl1_model_server.proofs.TextEntries.{entries_read_back}

-- a journal with more entries
abbrev pub with_more : Journal → List Entry → Journal
with_more j es = record j { entries = j.entries ++ es }

map_none : (z : Option (List Entry)) → z ≡ option_map (λ (fs : List Entry). [] ++ fs) z
map_none None = refl
map_none (Some fs) = refl

map_first : (e : Entry) (es : List Entry) (z : Option (List Entry)) → option_map (λ (xs : List Entry). e ∷ xs) (option_map (λ (fs : List Entry). es ++ fs) z) ≡ option_map (λ (fs : List Entry). (e ∷ es) ++ fs) z
map_first e es None = refl
map_first e es (Some fs) = refl

entry_by : (o : Option Entry) (x y z : Option (List Entry)) (ds : List Entry) → ((es : List Entry) → x ≡ Some es → y ≡ option_map (λ (fs : List Entry). es ++ fs) z) → option_and_then (λ e. option_map (λ es. e ∷ es) x) o ≡ Some ds →
    option_and_then (λ e. option_map (λ es. e ∷ es) y) o ≡ option_map (λ (fs : List Entry). ds ++ fs) z
entry_by None x y z ds f h = absurd (none-some ds h)
entry_by (Some e) None y z ds f h = absurd (none-some ds h)
entry_by (Some e) (Some es) y z ds f h = ap (option_map (λ (xs : List Entry). e ∷ xs)) (f es refl) ∙ map_first e es z ∙ ap (λ (xs : List Entry). option_map (λ (fs : List Entry). xs ++ fs) z) (same_Some (e ∷ es) ds h)

-- entries and then more of them
pub entries_then : (rules : Rules) (lines more : List (List ℕ)) (ds : List Entry) → entries_in rules lines ≡ Some ds → entries_in rules (lines ++ more) ≡ option_map (λ (fs : List Entry). ds ++ fs) (entries_in rules more)
entries_then rules [] more ds h = map_none (entries_in rules more) ∙ ap (λ (xs : List Entry). option_map (λ (fs : List Entry). xs ++ fs) (entries_in rules more)) (same_Some [] ds h)
entries_then rules (line ∷ lines) more ds h = entry_by (entry_in rules line) (entries_in rules lines) (entries_in rules (lines ++ more)) (entries_in rules more) ds (entries_then rules lines more) h

more_by : (j : Journal) (rules : Rules) (sessions : ℕ) (before : List (List ℕ)) (x y z : Option (List Entry)) → ((es : List Entry) → x ≡ Some es → y ≡ option_map (λ (fs : List Entry). es ++ fs) z) →
    option_map (λ es. let k : Journal = record { rules = rules; sessions = sessions; names = before; image = []; entries = es } in k) x ≡ Some j →
    option_map (λ es. let k : Journal = record { rules = rules; sessions = sessions; names = before; image = []; entries = es } in k) y ≡ option_map (with_more j) z
more_by j rules sessions before None y z f h = absurd (none-some j h)
more_by j rules sessions before (Some es) y None f h = ap (option_map (λ es. let k : Journal = record { rules = rules; sessions = sessions; names = before; image = []; entries = es } in k)) (f es refl)
more_by j rules sessions before (Some es) y (Some fs) f h =
    ap (option_map (λ es. let k : Journal = record { rules = rules; sessions = sessions; names = before; image = []; entries = es } in k)) (f es refl)
    ∙ ap (λ (k : Journal). let r : Option Journal = Some (with_more k fs) in r) (same_Some (record { rules = rules; sessions = sessions; names = before; image = []; entries = es }) j h)

new_by : (b : Bool) (x y : Option Journal) (j : Journal) (z : Option (List Entry)) → (x ≡ Some j → y ≡ option_map (with_more j) z) → (if b then x else None) ≡ Some j → (if b then y else None) ≡ option_map (with_more j) z
new_by true x y j z f h = f h
new_by false x y j z f h = absurd (none-some j h)

name_by : (o : Option (List ℕ)) (test : List ℕ → Bool) (x y : List ℕ → Option Journal) (j : Journal) (z : Option (List Entry)) → ((t : List ℕ) → x t ≡ Some j → y t ≡ option_map (with_more j) z) →
    option_and_then (λ t. if test t then x t else None) o ≡ Some j → option_and_then (λ t. if test t then y t else None) o ≡ option_map (with_more j) z
name_by None test x y j z f h = absurd (none-some j h)
name_by (Some t) test x y j z f h = new_by (test t) (x t) (y t) j z (f t) h

after_then : (rules : Rules) (sessions : ℕ) (before : List (List ℕ)) (n : ℕ) (lines more : List (List ℕ)) (j : Journal) → journal_after rules sessions before n lines ≡ Some j →
    journal_after rules sessions before n (lines ++ more) ≡ option_map (with_more j) (entries_in rules more)
after_then rules sessions before zero lines more j h = more_by j rules sessions before (entries_in rules lines) (entries_in rules (lines ++ more)) (entries_in rules more) (entries_then rules lines more) h
after_then rules sessions before (suc n) [] more j h = absurd (none-some j h)
after_then rules sessions before (suc n) (line ∷ lines) more j h =
    name_by (name_in line) (is_new_name before) (λ t. journal_after rules sessions (before ++ t ∷ []) n lines) (λ t. journal_after rules sessions (before ++ t ∷ []) n (lines ++ more)) j (entries_in rules more)
    (λ t. after_then rules sessions (before ++ t ∷ []) n lines more j) h

rules_by : (j : Journal) (rules : Rules) (sessions : ℕ) (before : List (List ℕ)) (x : Option (List Entry)) →
    option_map (λ es. let k : Journal = record { rules = rules; sessions = sessions; names = before; image = []; entries = es } in k) x ≡ Some j → rules ≡ j.rules
rules_by j rules sessions before None h = absurd (none-some j h)
rules_by j rules sessions before (Some es) h = ap (λ (k : Journal). k.rules) (same_Some (record { rules = rules; sessions = sessions; names = before; image = []; entries = es }) j h)

rules_if : (b : Bool) (x : Option Journal) (j : Journal) (rules : Rules) → (x ≡ Some j → rules ≡ j.rules) → (if b then x else None) ≡ Some j → rules ≡ j.rules
rules_if true x j rules f h = f h
rules_if false x j rules f h = absurd (none-some j h)

rules_of_name : (o : Option (List ℕ)) (test : List ℕ → Bool) (x : List ℕ → Option Journal) (j : Journal) (rules : Rules) → ((t : List ℕ) → x t ≡ Some j → rules ≡ j.rules) → option_and_then (λ t. if test t then x t else None) o ≡ Some j → rules ≡ j.rules
rules_of_name None test x j rules f h = absurd (none-some j h)
rules_of_name (Some t) test x j rules f h = rules_if (test t) (x t) j rules (f t) h

-- a journal keeps to the rules by which it is read
after_rules : (rules : Rules) (sessions : ℕ) (before : List (List ℕ)) (n : ℕ) (lines : List (List ℕ)) (j : Journal) → journal_after rules sessions before n lines ≡ Some j → rules ≡ j.rules
after_rules rules sessions before zero lines j h = rules_by j rules sessions before (entries_in rules lines) h
after_rules rules sessions before (suc n) [] j h = absurd (none-some j h)
after_rules rules sessions before (suc n) (line ∷ lines) j h =
    rules_of_name (name_in line) (is_new_name before) (λ t. journal_after rules sessions (before ++ t ∷ []) n lines) j rules (λ t. after_rules rules sessions (before ++ t ∷ []) n lines j) h

heading_by : (o : Option Heading) (lines more : List (List ℕ)) (j : Journal) → option_and_then (λ (h : Heading). journal_after h.rules h.sessions [] h.names lines) o ≡ Some j →
    option_and_then (λ (h : Heading). journal_after h.rules h.sessions [] h.names (lines ++ more)) o ≡ option_map (with_more j) (entries_in j.rules more)
heading_by None lines more j h = absurd (none-some j h)
heading_by (Some x) lines more j h =
    after_then x.rules x.sessions [] x.names lines more j h ∙ ap (λ (of : Rules). option_map (with_more j) (entries_in of more)) (after_rules x.rules x.sessions [] x.names lines j h)

-- the lines of a journal, and then those of entries
pub journal_then : (lines more : List (List ℕ)) (j : Journal) → journal_of lines ≡ Some j → journal_of (lines ++ more) ≡ option_map (with_more j) (entries_in j.rules more)
journal_then [] more j h = absurd (none-some j h)
journal_then (line ∷ lines) more j h = heading_by (heading_in line) lines more j h

front_by : (o : Option Entry) (x y : Option (List Entry)) (ds : List Entry) (n : ℕ) → ((es : List Entry) → x ≡ Some es → y ≡ Some (take n es)) → option_and_then (λ e. option_map (λ es. e ∷ es) x) o ≡ Some ds → option_and_then (λ e. option_map (λ es. e ∷ es) y) o ≡ Some (take (suc n) ds)
front_by None x y ds n f h = absurd (none-some ds h)
front_by (Some e) None y ds n f h = absurd (none-some ds h)
front_by (Some e) (Some es) y ds n f h = ap (option_map (λ (xs : List Entry). e ∷ xs)) (f es refl) ∙ ap (λ (xs : List Entry). let r : Option (List Entry) = Some (take (suc n) xs) in r) (same_Some (e ∷ es) ds h)

-- the entries of the first lines
pub entries_front : (rules : Rules) (lines : List (List ℕ)) (n : ℕ) (es : List Entry) → entries_in rules lines ≡ Some es → entries_in rules (take n lines) ≡ Some (take n es)
entries_front rules lines zero es h = refl
entries_front rules [] (suc n) es h = ap (λ (xs : List Entry). let r : Option (List Entry) = Some (take (suc n) xs) in r) (same_Some [] es h)
entries_front rules (line ∷ lines) (suc n) es h = front_by (entry_in rules line) (entries_in rules lines) (entries_in rules (take n lines)) es n (λ ds. entries_front rules lines n ds) h

entry_first : (e : Entry) (o : Option Entry) (x : Option (List Entry)) (es : List Entry) → o ≡ Some e → x ≡ Some es → option_and_then (λ e. option_map (λ es. e ∷ es) x) o ≡ Some (e ∷ es)
entry_first e o x es p q = rw (p, q) refl

-- the entries of their lines
pub entries_back : (rules : Rules) (es : List Entry) → AllByRecursion (HasLine rules) es → entries_in rules (map entry_line es) ≡ Some es
entries_back rules [] h = refl
entries_back rules (e ∷ es) h = entry_first e (entry_in rules (entry_line e)) (entries_in rules (map entry_line es)) es (entries_read_back rules e h.0) (entries_back rules es h.1)
