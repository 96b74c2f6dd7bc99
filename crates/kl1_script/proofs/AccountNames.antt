-- What holds of the names of accounts in a line.
use Rattle.std.proofs.Common.{◌≡◌, ℕ, ◌<◌, ◌≤◌, nat_le, ◌&&◌, Bool, true, false, List, [], ◌∷◌, ◌++◌, length, length-append, append_assoc, codes, bytes_eq, Option, Some, None, if◌then◌else◌, refl, ap, sym, ◌∙◌, arith}
use Rattle.std.specs.List.{list_all}
use Rattle.std.proofs.lemmas.Bool.{false≢true, and_parts, and_from, and_left, and_right, le-leb, lt-leb}
use Rattle.std.proofs.lemmas.List.{append-nil}
use Rattle.std.proofs.lemmas.List.Folds.{list_all-append}
use Rattle.kl1_model.specs.declared.limits.TheConstants.{MOST_ACCOUNTS}
use Rattle.kl1_model.specs.AccountName.{is_account_name}
use Rattle.kl1_model.specs.Line.{is_space, first_word, word_in, behind_word_in, is_blank_line, words_of}
use Rattle.kl1_model_server.specs.Script.{accounts_in, are_distinct}
use Rattle.kl1_script.specs.Accounts.{named}
use Rattle.kl1_lines.proofs.WordFuel.{words_none, words_more}

-- one word more
pub one_more : (names words : List (List ℕ)) (rest : List ℕ) → names ++ words_of rest ≡ words → is_blank_line rest ≡ false → (names ++ word_in rest ∷ []) ++ words_of (behind_word_in rest) ≡ words
one_more names words rest e h =
    append_assoc names (word_in rest ∷ []) (words_of (behind_word_in rest)) ∙ ap (λ ws. names ++ ws) (sym (words_more rest h)) ∙ e

pub all_more : (names : List (List ℕ)) (w : List ℕ) → list_all is_account_name names ≡ true → is_account_name w ≡ true → list_all is_account_name (names ++ w ∷ []) ≡ true
all_more names w h k = rw (list_all-append is_account_name names (w ∷ [])) (and_from _ _ h (and_from _ _ k refl))

-- a word that is no name
pub no_name : (names words : List (List ℕ)) (rest : List ℕ) → names ++ words_of rest ≡ words → is_blank_line rest ≡ false → is_account_name (word_in rest) ≡ false → None ≡ named words
no_name names words rest e h k =
    let more : names ++ word_in rest ∷ words_of (behind_word_in rest) ≡ words = ap (λ ws. names ++ ws) (sym (words_more rest h)) ∙ e in
    let none : list_all is_account_name words ≡ false = rw (sym more, list_all-append is_account_name names (word_in rest ∷ words_of (behind_word_in rest))) (and_right (list_all is_account_name names) _ (and_left (is_account_name (word_in rest)) _ k)) in
    rw (and_left (list_all is_account_name words) (nat_le (length words) MOST_ACCOUNTS) none) refl

-- a word after as many names as there may be
pub too_many : (names words : List (List ℕ)) (rest : List ℕ) → names ++ words_of rest ≡ words → is_blank_line rest ≡ false → length names ≡ MOST_ACCOUNTS → None ≡ named words
too_many names words rest e h k =
    let more : names ++ word_in rest ∷ words_of (behind_word_in rest) ≡ words = ap (λ ws. names ++ ws) (sym (words_more rest h)) ∙ e in
    let long : MOST_ACCOUNTS < length words = omega (arith, ap length more, length-append names (word_in rest ∷ words_of (behind_word_in rest)), k) in
    rw (and_right (list_all is_account_name words) (nat_le (length words) MOST_ACCOUNTS) (lt-leb (length words) MOST_ACCOUNTS long)) refl

-- names alone
pub names_alone : (names words : List (List ℕ)) (rest : List ℕ) → names ++ words_of rest ≡ words → is_blank_line rest ≡ true → list_all is_account_name names ≡ true → length names ≤ MOST_ACCOUNTS → Some names ≡ named words
names_alone names words rest e h k few =
    let same : words ≡ names = sym e ∙ ap (λ ws. names ++ ws) (words_none rest h) ∙ append-nil names in
    rw (same, and_from (list_all is_account_name names) (nat_le (length names) MOST_ACCOUNTS) k (le-leb (length names) MOST_ACCOUNTS few)) refl

by_tests : (named_first some few all distinct : Bool) (names : List (List ℕ)) → named_first ≡ true → (if (named_first && some && few && all && distinct) then Some names else None) ≡ (if (some && distinct) then (if (all && few) then Some names else None) else None)
by_tests named_first true true true true names e = rw e refl
by_tests named_first true true true false names e = rw e refl
by_tests named_first true true false true names e = rw e refl
by_tests named_first true true false false names e = rw e refl
by_tests named_first true false true true names e = rw e refl
by_tests named_first true false true false names e = rw e refl
by_tests named_first true false false true names e = rw e refl
by_tests named_first true false false false names e = rw e refl
by_tests named_first false few all distinct names e = rw e refl

-- a blank line has no first word
no_word : (line : List ℕ) → is_blank_line line ≡ true → word_in line ≡ []
no_word [] h = refl
no_word (b ∷ bs) h = let p = and_parts (is_space b) (is_blank_line bs) h in rw (first_word, p.0) (no_word bs p.1)

-- the names after the word `accounts`, if there is one and none stands twice
abbrev pub judged : List (List ℕ) → Option (List (List ℕ))
judged names = if nat_le 1 (length names) && are_distinct names then named names else None

-- a line whose first word is `accounts`
pub accounts_are : (line : List ℕ) (v : Bool) → is_blank_line line ≡ v → bytes_eq (word_in line) (codes "accounts") ≡ true → accounts_in (words_of line) ≡ judged (words_of (behind_word_in line))
accounts_are line true e h = absurd (false≢true (ap (λ w. bytes_eq w (codes "accounts")) (sym (no_word line e)) ∙ h))
accounts_are line false e h =
    let names = words_of (behind_word_in line) in
    ap accounts_in (words_more line e) ∙ by_tests (bytes_eq (word_in line) (codes "accounts")) (nat_le 1 (length names)) (nat_le (length names) MOST_ACCOUNTS) (list_all is_account_name names) (are_distinct names) names h

-- another line
pub no_accounts : (line : List ℕ) (v : Bool) → is_blank_line line ≡ v → bytes_eq (word_in line) (codes "accounts") ≡ false → None ≡ accounts_in (words_of line)
no_accounts line true e h = rw (words_none line e) refl
no_accounts line false e h = rw (words_more line e, h) refl

chosen_is : (t : Bool) (ws names : List (List ℕ)) → (if t then Some ws else None) ≡ Some names → ws ≡ names
chosen_is true ws names e = cc
chosen_is false ws names e = cc

named_is : (ws names : List (List ℕ)) → named ws ≡ Some names → ws ≡ names
named_is ws names e = chosen_is (list_all is_account_name ws && nat_le (length ws) MOST_ACCOUNTS) ws names e

judged_none : (ws : List (List ℕ)) (t : Bool) → named ws ≡ None → (if t then named ws else None) ≡ None
judged_none ws true e = e
judged_none ws false e = refl

-- after the word `accounts` stand no names, or too many
pub accounts_none : (line : List ℕ) → bytes_eq (word_in line) (codes "accounts") ≡ true → named (words_of (behind_word_in line)) ≡ None → None ≡ accounts_in (words_of line)
accounts_none line h e =
    let ws = words_of (behind_word_in line) in
    sym (accounts_are line (is_blank_line line) refl h ∙ judged_none ws (nat_le 1 (length ws) && are_distinct ws) e)

-- after it stand names, which are accounts or not
pub accounts_some : (line : List ℕ) (names : List (List ℕ)) (t : Bool) → bytes_eq (word_in line) (codes "accounts") ≡ true → named (words_of (behind_word_in line)) ≡ Some names → (nat_le 1 (length names) && are_distinct names) ≡ t → (if t then Some names else None) ≡ accounts_in (words_of line)
accounts_some line names t h e k =
    let same : words_of (behind_word_in line) ≡ names = named_is (words_of (behind_word_in line)) names e in
    let named_so : named names ≡ Some names = ap named (sym same) ∙ e in
    let judged_so : judged names ≡ (if t then Some names else None) = rw (k, named_so) refl in
    sym (accounts_are line (is_blank_line line) refl h ∙ ap judged same ∙ judged_so)
