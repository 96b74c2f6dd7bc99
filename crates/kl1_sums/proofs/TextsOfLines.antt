-- Texts of lines, one after another.
use Rattle.std.proofs.Common.{◌≡◌, ℕ, true, List, [], ◌∷◌, ◌++◌, refl, sym, ap, ◌∙◌, append_assoc}
use Rattle.std.specs.List.{list_all}
use Rattle.std.proofs.lemmas.Bool.{and_from}
use Rattle.std.proofs.lemmas.List.{append-nil}
use Rattle.std.proofs.lemmas.List.Folds.{list_all-append}
use Rattle.kl1_model_server.specs.Command.{written_line, written_lines}
use Rattle.kl1_model_server.specs.JournalText.{lines_of}
use Rattle.kl1_model_server.specs.laws.TextLaws.{is_unbroken}
use Rattle.kl1_model_server.proofs.TextLines.{lines_of_lines, texts_are_lines}

-- lines after others, as they are written
pub written_more : (ls ms : List (List ℕ)) → written_lines (ls ++ ms) ≡ written_lines ls ++ written_lines ms
written_more [] ms = refl
written_more (l ∷ ls) ms = ap (λ (x : List ℕ). written_line l ++ x) (written_more ls ms) ∙ sym (append_assoc (written_line l) (written_lines ls) (written_lines ms))

-- lines, and then a text: its lines follow, and its rest is left
pub lines_then : (ls : List (List ℕ)) (text : List ℕ) → list_all is_unbroken ls ≡ true → lines_of (written_lines ls ++ text) ≡ record { whole = ls ++ (lines_of text).whole; rest = (lines_of text).rest }
lines_then ls text h =
    let ts = texts_are_lines text in
    let ms = (lines_of text).whole in
    let rest = (lines_of text).rest in
    let split : written_lines ls ++ text ≡ written_lines (ls ++ ms) ++ rest =
    ap (λ (x : List ℕ). written_lines ls ++ x) (sym ts.0) ∙ sym (append_assoc (written_lines ls) (written_lines ms) rest) ∙ ap (λ (x : List ℕ). x ++ rest) (sym (written_more ls ms)) in
    ap lines_of split ∙ lines_of_lines (ls ++ ms) rest (list_all-append is_unbroken ls ms ∙ and_from (list_all is_unbroken ls) (list_all is_unbroken ms) h ts.1) ts.2

-- lines as they are written are those of that text, and nothing is left
pub lines_read : (ls : List (List ℕ)) → list_all is_unbroken ls ≡ true → lines_of (written_lines ls) ≡ record { whole = ls; rest = [] }
lines_read ls h = ap lines_of (sym (append-nil (written_lines ls))) ∙ lines_of_lines ls [] h refl

-- a text after whose last line feed nothing stands is its lines
pub whole_is : (text : List ℕ) → (lines_of text).rest ≡ [] → text ≡ written_lines (lines_of text).whole
whole_is text none =
    let w = written_lines (lines_of text).whole in
    sym (texts_are_lines text).0 ∙ ap (λ (x : List ℕ). w ++ x) none ∙ append-nil w
