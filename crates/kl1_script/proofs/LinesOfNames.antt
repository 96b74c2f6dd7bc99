-- How the lines of names go on, and end.
use Rattle.std.proofs.Common.{◌≡◌, ℕ, suc, ◌+◌, true, false, List, [], ◌∷◌, ◌++◌, Some, None, refl, ap, ◌∙◌, if◌then◌else◌}
use Rattle.kl1_model.specs.declared.rules.Rules.{Rules}
use Rattle.kl1_model_server.specs.JournalText.{Lines, name_in, is_new_name}
use Rattle.kl1_model_server.specs.Replay.{written_names, written_fault}
use Rattle.kl1_model_server.proofs.ReplayReplies.{written_name}
use Rattle.kl1_journal_entries.specs.Reading.{with_line}
use Rattle.kl1_script.specs.Names.{GoesOn, EndsAt}

-- no line is read yet
pub goes_none : (count more j : ℕ) (names : List (List ℕ)) (ls : Lines) → more ≡ count → j ≡ 2 → names ≡ [] → GoesOn count 2 [] ls more j names ls
goes_none count more j names ls e two none = record {
  written = λ rules sessions. rw (e, two, none) refl;
  replies = λ rules sessions. rw (e, none) refl;
}

-- a line with a name that may follow
name_written : (less j : ℕ) (rules : Rules) (sessions : ℕ) (names : List (List ℕ)) (t line : List ℕ) (ls : Lines) → name_in line ≡ Some t → is_new_name names t ≡ true → written_names (suc less) j rules sessions names (line ∷ ls.whole) ls.rest ≡ written_names less (suc j) rules sessions (names ++ t ∷ []) ls.whole ls.rest
name_written less j rules sessions names t line ls named new =
    let next : List (List ℕ) → List ℕ = λ more. written_names less (suc j) rules sessions more ls.whole ls.rest in
    ap (written_name next j names) named ∙ ap (λ c. if c then next (names ++ t ∷ []) else written_fault j) new

-- a line without a name
none_written : (less j : ℕ) (rules : Rules) (sessions : ℕ) (names : List (List ℕ)) (line : List ℕ) (ls : Lines) → name_in line ≡ None → written_names (suc less) j rules sessions names (line ∷ ls.whole) ls.rest ≡ written_fault j
none_written less j rules sessions names line ls named = ap (written_name (λ more. written_names less (suc j) rules sessions more ls.whole ls.rest) j names) named

-- a line with a name that may not follow
old_written : (less j : ℕ) (rules : Rules) (sessions : ℕ) (names : List (List ℕ)) (t line : List ℕ) (ls : Lines) → name_in line ≡ Some t → is_new_name names t ≡ false → written_names (suc less) j rules sessions names (line ∷ ls.whole) ls.rest ≡ written_fault j
old_written less j rules sessions names t line ls named old =
    let next : List (List ℕ) → List ℕ = λ more. written_names less (suc j) rules sessions more ls.whole ls.rest in
    ap (written_name next j names) named ∙ ap (λ c. if c then next (names ++ t ∷ []) else written_fault j) old

-- one line more, with a name that may follow
pub goes_more : (count : ℕ) (text : Lines) (more less j after : ℕ) (names others : List (List ℕ)) (t line : List ℕ) (ls rest : Lines) → GoesOn count 2 [] text more j names ls → more ≡ suc less → after ≡ suc j → others ≡ names ++ t ∷ [] → ls ≡ with_line line rest → name_in line ≡ Some t → is_new_name names t ≡ true → GoesOn count 2 [] text less after others rest
goes_more count text more less j after names others t line ls rest g some next added is named new = record {
  written = λ rules sessions. g.written rules sessions ∙ rw (some, next, added, is) (name_written less j rules sessions names t line rest named new);
  replies = λ rules sessions. g.replies rules sessions ∙ rw (some, added, is, named, new) refl;
}

-- all lines are read
pub goes_all : (count : ℕ) (text : Lines) (more j : ℕ) (names : List (List ℕ)) (rest : Lines) → GoesOn count 2 [] text more j names rest → more ≡ 0 → j ≡ 2 + count → GoesOn count 2 [] text 0 (2 + count) names rest
goes_all count text more j names rest g none last = record {
  written = λ rules sessions. g.written rules sessions ∙ rw (none, last) refl;
  replies = λ rules sessions. g.replies rules sessions ∙ rw none refl;
}

-- there is no line more
pub ends_short : (count : ℕ) (text : Lines) (more less j line : ℕ) (names : List (List ℕ)) (ls : Lines) (rest : List ℕ) → GoesOn count 2 [] text more j names ls → more ≡ suc less → line ≡ j → ls ≡ record { whole = []; rest = rest } → EndsAt count text line
ends_short count text more less j line names ls rest g some same is = λ rules sessions. g.written rules sessions ∙ rw (some, same, is) refl

-- a line has no name
pub ends_nameless : (count : ℕ) (text : Lines) (more less j line : ℕ) (names : List (List ℕ)) (bytes : List ℕ) (ls rest : Lines) → GoesOn count 2 [] text more j names ls → more ≡ suc less → line ≡ j → ls ≡ with_line bytes rest → name_in bytes ≡ None → EndsAt count text line
ends_nameless count text more less j line names bytes ls rest g some same is named = λ rules sessions. g.written rules sessions ∙ rw (some, same, is) (none_written less j rules sessions names bytes rest named)

-- a line has a name that may not follow
pub ends_old : (count : ℕ) (text : Lines) (more less j line : ℕ) (names : List (List ℕ)) (t bytes : List ℕ) (ls rest : Lines) → GoesOn count 2 [] text more j names ls → more ≡ suc less → line ≡ j → ls ≡ with_line bytes rest → name_in bytes ≡ Some t → is_new_name names t ≡ false → EndsAt count text line
ends_old count text more less j line names t bytes ls rest g some same is named old = λ rules sessions. g.written rules sessions ∙ rw (some, same, is) (old_written less j rules sessions names t bytes rest named old)
