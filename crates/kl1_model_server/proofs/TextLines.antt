-- Lines as they are written, and the lines of a text.
use Rattle.std.specs.Prelude.{◌≡◌, ℕ, ◌==◌, not, Bool, true, false, List, [], ◌∷◌, ◌++◌}
use Rattle.std.specs.List.{list_all}
use Rattle.std.proofs.Common.{refl, ap, ◌∙◌}
use Rattle.std.proofs.lemmas.Bool.{and_parts, and_from, eqb-true, not_from_false}
use Rattle.std.proofs.lemmas.List.{append_assoc}
use Rattle.kl1_model_server.specs.Command.{written_line, written_lines}
use Rattle.kl1_model_server.specs.JournalText.{Lines, lines_of}
use Rattle.kl1_model_server.specs.laws.TextLaws.{is_unbroken, LinesOfLines, TextsAreLines}

-- a byte in front of the first line, or of the rest if there is no line
abbrev pub byte_first : ℕ → List (List ℕ) → List ℕ → Lines
byte_first b whole rest = elim whole [ [] ↦ record { whole = []; rest = b ∷ rest } | line ∷ lines ↦ record { whole = (b ∷ line) ∷ lines; rest = rest } ]

-- an empty line in front of lines
abbrev pub line_first : Lines → Lines
line_first ls = record { whole = [] ∷ ls.whole; rest = ls.rest }

not_true : (x : Bool) → not x ≡ true → x ≡ false
not_true true h = cc
not_true false h = refl

-- a byte that is no line feed, in front of a text
byte_read : (b : ℕ) (bs : List ℕ) → not (b == 10) ≡ true → lines_of (b ∷ bs) ≡ byte_first b (lines_of bs).whole (lines_of bs).rest
byte_read b bs h = rw (not_true (b == 10) h, lines_of) refl

rest_read : (rest : List ℕ) → is_unbroken rest ≡ true → lines_of rest ≡ record { whole = []; rest = rest }
rest_read [] h = refl
rest_read (b ∷ bs) h =
    let both = and_parts (not (b == 10)) (is_unbroken bs) h in
    byte_read b bs both.0 ∙ ap (λ (ls : Lines). byte_first b ls.whole ls.rest) (rest_read bs both.1)

line_read : (line text : List ℕ) → is_unbroken line ≡ true → lines_of (line ++ 10 ∷ text) ≡ record { whole = line ∷ (lines_of text).whole; rest = (lines_of text).rest }
line_read [] text h = refl
line_read (b ∷ bs) text h =
    let both = and_parts (not (b == 10)) (is_unbroken bs) h in
    byte_read b (bs ++ 10 ∷ text) both.0 ∙ ap (λ (ls : Lines). byte_first b ls.whole ls.rest) (line_read bs text both.1)

-- one line in front of those of a text
abbrev with_line : List ℕ → Lines → Lines
with_line line ls = record { whole = line ∷ ls.whole; rest = ls.rest }

pub lines_of_lines : LinesOfLines
lines_of_lines [] rest h none = rest_read rest none
lines_of_lines (line ∷ lines) rest h none =
    let both = and_parts (is_unbroken line) (list_all is_unbroken lines) h in
    let text = written_lines lines ++ rest in
    ap lines_of (append_assoc (written_line line) (written_lines lines) rest ∙ append_assoc line (10 ∷ []) text)
    ∙ line_read line text both.0
    ∙ ap (with_line line) (lines_of_lines lines rest both.1 none)

-- lines and a rest are those of a text
record AreLines (text : List ℕ) (ls : Lines) : Type 0 where
  written : written_lines ls.whole ++ ls.rest ≡ text
  whole : list_all is_unbroken ls.whole ≡ true
  rest : is_unbroken ls.rest ≡ true

feed_first : (bs : List ℕ) (ls : Lines) → AreLines bs ls → AreLines (10 ∷ bs) (line_first ls)
feed_first bs ls h = record {
  written = ap (λ x. 10 ∷ x) h.written;
  whole = h.whole;
  rest = h.rest;
}

front_byte : (b : ℕ) (bs : List ℕ) (whole : List (List ℕ)) (rest : List ℕ) → not (b == 10) ≡ true → AreLines bs (record { whole = whole; rest = rest }) → AreLines (b ∷ bs) (byte_first b whole rest)
front_byte b bs [] rest none h = record {
  written = ap (λ x. b ∷ x) h.written;
  whole = refl;
  rest = and_from (not (b == 10)) (is_unbroken rest) none h.rest;
}
front_byte b bs (line ∷ lines) rest none h =
    let both = and_parts (is_unbroken line) (list_all is_unbroken lines) h.whole in
    record {
      written = ap (λ x. b ∷ x) h.written;
      whole = and_from (is_unbroken (b ∷ line)) (list_all is_unbroken lines) (and_from (not (b == 10)) (is_unbroken line) none both.0) both.1;
      rest = h.rest;
    }

byte_by : (x : Bool) (b : ℕ) (bs : List ℕ) → (b == 10) ≡ x → AreLines bs (lines_of bs) → AreLines (b ∷ bs) (elim x [ true ↦ line_first (lines_of bs) | false ↦ byte_first b (lines_of bs).whole (lines_of bs).rest ])
byte_by true b bs is h = rw (eqb-true b 10 is) (feed_first bs (lines_of bs) h)
byte_by false b bs is h = front_byte b bs (lines_of bs).whole (lines_of bs).rest (not_from_false (b == 10) is) h

are_lines : (text : List ℕ) → AreLines text (lines_of text)
are_lines [] = record { written = refl; whole = refl; rest = refl }
are_lines (b ∷ bs) = byte_by (b == 10) b bs refl (are_lines bs)

pub texts_are_lines : TextsAreLines
texts_are_lines text = let h = are_lines text in (h.written, h.whole, h.rest)
