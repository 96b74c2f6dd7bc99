-- The names of a module that was read are the texts of names.
use Rattle.std.specs.Prelude.{◌≡◌, ℕ, zero, suc, ◌≤◌, ◌==◌, nat_le, not, ◌&&◌, ◌||◌, Bool, true, false, if◌then◌else◌, List, [], ◌∷◌, ◌++◌, length, codes, bytes_eq, Option, Some, None, option_and_then, unwrap_or}
use Rattle.std.specs.List.{list_all, AllByRecursion}
use Rattle.std.proofs.Common.{refl, sym, ap, ◌∙◌, subst, arith, inl, inr}
use Rattle.std.proofs.lemmas.Bool.{and_parts, and_from, le-leb, leb-true, eqb-true, or_cases}
use Rattle.std.proofs.lemmas.List.Folds.{list_all-append}
use Rattle.kl1_model.specs.declared.limits.TheConstants.{MOST_NAME_BYTES, MOST_VARIABLE_BYTES, NUMBER_LIMIT}
use Rattle.kl1_model.specs.declared.sign.Sign.{Sign}
use Rattle.kl1_model.specs.declared.sign.Sign.TheVariants.{Neck}
use Rattle.kl1_model.specs.Text.{is_name_byte, is_text}
use Rattle.kl1_model.specs.Name.{is_small_letter, is_word_byte}
use Rattle.kl1_model.specs.Token.{Token, name_token, variable_token, digits_token, minus_token, sign_token, end_token, is_variable_start, is_digit, is_blank, word_of, behind_word, digits_of, behind_digits, number_of, behind_comment, sign_at, Front, finished, broken, line_end, blank, token, first_is, name_front, dot_front, front_of, Placed, Tokens, tokens_by, tokens_within, tokens_of_text}
use Rattle.kl1_model.specs.code.Fronts.{quoted_front, comment_front, sign_front, quoted_from}
use Rattle.kl1_model.proofs.LexStarts.{Start, ends_line, blanks, comments, names, variables, numbers, quotes, dots, subtracts, signs_or_nothing, start_of, front_by, front_starts}
use Rattle.kl1_model.specs.Module.{Item, is_end, last_item, items_from, items_of, named_module}

between : (l h b : ℕ) → nat_le l b && nat_le b h ≡ true → 32 ≤ l → h ≤ 126 → is_name_byte b ≡ true
between l h b is p q =
    let both = and_parts (nat_le l b) (nat_le b h) is in
    let least = leb-true l b both.0 in
    let most = leb-true b h both.1 in
    and_from (nat_le 32 b) (nat_le b 126) (le-leb 32 b (omega arith)) (le-leb b 126 (omega arith))

letter_is_name : (b : ℕ) → is_small_letter b || nat_le 65 b && nat_le b 90 ≡ true → is_name_byte b ≡ true
letter_is_name b h = elim (or_cases (is_small_letter b) (nat_le 65 b && nat_le b 90) h) [
  | inl small ↦ between 97 122 b small (omega arith) (omega arith)
  | inr capital ↦ between 65 90 b capital (omega arith) (omega arith)
]

sign_is_name : (b : ℕ) → is_small_letter b || nat_le 65 b && nat_le b 90 || nat_le 48 b && nat_le b 57 ≡ true → is_name_byte b ≡ true
sign_is_name b h = elim (or_cases (is_small_letter b || nat_le 65 b && nat_le b 90) (nat_le 48 b && nat_le b 57) h) [
  | inl letter ↦ letter_is_name b letter
  | inr digit ↦ between 48 57 b digit (omega arith) (omega arith)
]

-- a byte of a word is a byte of a name
word_is_name : (b : ℕ) → is_word_byte b ≡ true → is_name_byte b ≡ true
word_is_name b h = elim (or_cases (is_small_letter b || nat_le 65 b && nat_le b 90 || nat_le 48 b && nat_le b 57) (b == 95) h) [
  | inl other ↦ sign_is_name b other
  | inr line ↦ ap is_name_byte (eqb-true b 95 line)
]

words_are_names : (ws : List ℕ) → list_all is_word_byte ws ≡ true → list_all is_name_byte ws ≡ true
words_are_names [] h = refl
words_are_names (b ∷ bs) h =
    let both = and_parts (is_word_byte b) (list_all is_word_byte bs) h in
    and_from (is_name_byte b) (list_all is_name_byte bs) (word_is_name b both.0) (words_are_names bs both.1)

word_by : (x : Bool) (b : ℕ) (bs : List ℕ) → is_word_byte b ≡ x → list_all is_word_byte (word_of bs) ≡ true → list_all is_word_byte (elim x [ true ↦ b ∷ word_of bs | false ↦ [] ]) ≡ true
word_by true b bs is h = and_from (is_word_byte b) (list_all is_word_byte (word_of bs)) is h
word_by false b bs is h = refl

words : (bs : List ℕ) → list_all is_word_byte (word_of bs) ≡ true
words [] = refl
words (b ∷ bs) = word_by (is_word_byte b) b bs refl (words bs)

-- whether a byte begins a name
abbrev is_names : Start → Bool
is_names names = true
is_names _ = false

not_names : (x : Bool) (s t : Start) → is_names s ≡ false → is_names t ≡ false → is_names (if x then s else t) ≡ false
not_names true s t p q = p
not_names false s t p q = q

-- a start that may be a name only if a test says so: if it is one, the test says so
names_if : (x : Bool) (t : Start) → is_names t ≡ false → is_names (if x then names else t) ≡ true → x ≡ true
names_if true t other h = refl
names_if false t other h = sym other ∙ h

names_then : (x : Bool) (s t : Start) (z : Bool) → is_names s ≡ false → (is_names t ≡ true → z ≡ true) → is_names (if x then s else t) ≡ true → z ≡ true
names_then true s t z other go h = cc
names_then false s t z other go h = go h

begins_name : (b : ℕ) → is_names (start_of b) ≡ true → is_small_letter b ≡ true
begins_name b h =
    let s6 : Start = if b == 45 then subtracts else signs_or_nothing in
    let s5 : Start = if b == 46 then dots else s6 in
    let s4 : Start = if b == 39 then quotes else s5 in
    let s3 : Start = if is_digit b then numbers else s4 in
    let s2 : Start = if is_variable_start b then variables else s3 in
    let s1 : Start = if is_small_letter b then names else s2 in
    let s0 : Start = if b == 37 then comments else s1 in
    let s : Start = if is_blank b then blanks else s0 in
    let z = is_small_letter b in
    names_then (b == 10) ends_line s z refl
    (names_then (is_blank b) blanks s0 z refl
    (names_then (b == 37) comments s1 z refl
    (names_if z s2
    (not_names (is_variable_start b) variables s3 refl
    (not_names (is_digit b) numbers s4 refl
    (not_names (b == 39) quotes s5 refl
    (not_names (b == 46) dots s6 refl
    (not_names (b == 45) subtracts signs_or_nothing refl refl))))))))
    h

-- a token whose name is a text, if it has one
abbrev pub HasText : Token (List ℕ) → Type 0
HasText (name_token a q applied) = is_text a ≡ true
HasText (variable_token v) = Unit {0}
HasText (digits_token n) = Unit {0}
HasText (minus_token digit) = Unit {0}
HasText (sign_token s) = Unit {0}
HasText end_token = Unit {0}

-- what stands in front of a text has a text as its name, if it is a token with a name
abbrev FrontHas : Front → Type 0
FrontHas finished = Unit {0}
FrontHas broken = Unit {0}
FrontHas (line_end rest) = Unit {0}
FrontHas (blank rest) = Unit {0}
FrontHas (token t rest) = HasText t

either_front : (x : Bool) (f g : Front) → FrontHas f → FrontHas g → FrontHas (if x then f else g)
either_front true f g p q = p
either_front false f g p q = q

name_has : (x in_quotes : Bool) (text rest : List ℕ) (applied : Bool) → nat_le (length text) MOST_NAME_BYTES ≡ x → list_all is_name_byte text ≡ true → FrontHas (if x then token (name_token text in_quotes applied) rest else broken)
name_has true in_quotes text rest applied is h = and_from (nat_le (length text) MOST_NAME_BYTES) (list_all is_name_byte text) is h
name_has false in_quotes text rest applied is h = tt

name_front_has : (in_quotes : Bool) (text rest : List ℕ) → list_all is_name_byte text ≡ true → FrontHas (name_front in_quotes text rest)
name_front_has in_quotes text rest h = name_has (nat_le (length text) MOST_NAME_BYTES) in_quotes text rest (first_is (λ b. b == 40) rest) refl h

-- the text between quotes, if it ends, is bytes of names
abbrev AreQuoted : Option (List ℕ × List ℕ) → Type 0
AreQuoted None = Unit {0}
AreQuoted (Some q) = list_all is_name_byte q.0 ≡ true

pushed : (text : List ℕ) (b : ℕ) → list_all is_name_byte text ≡ true → is_name_byte b ≡ true → list_all is_name_byte (text ++ b ∷ []) ≡ true
pushed text b h is = list_all-append is_name_byte text (b ∷ []) ∙ and_from (list_all is_name_byte text) (is_name_byte b && true) h (and_from (is_name_byte b) true is refl)

quote_by : (x : Bool) (b : ℕ) (text bs : List ℕ) → (b == 39) ≡ x → list_all is_name_byte text ≡ true → (list_all is_name_byte (text ++ b ∷ []) ≡ true → AreQuoted (quoted_from false (text ++ b ∷ []) bs)) →
    AreQuoted (elim x [ true ↦ quoted_from false (text ++ b ∷ []) bs | false ↦ Some (text, b ∷ bs) ])
quote_by true b text bs is h go = go (pushed text b h (ap is_name_byte (eqb-true b 39 is)))
quote_by false b text bs is h go = h

byte_by : (x y : Bool) (b : ℕ) (text bs : List ℕ) → is_name_byte b ≡ y → list_all is_name_byte text ≡ true → AreQuoted (quoted_from true text bs) → (list_all is_name_byte (text ++ b ∷ []) ≡ true → AreQuoted (quoted_from false (text ++ b ∷ []) bs)) →
    AreQuoted (elim x [ true ↦ quoted_from true text bs | false ↦ elim y [ true ↦ quoted_from false (text ++ b ∷ []) bs | false ↦ None ] ])
byte_by true y b text bs is h ended go = ended
byte_by false true b text bs is h ended go = go (pushed text b h is)
byte_by false false b text bs is h ended go = tt

quoted_all : (x : Bool) (text bs : List ℕ) → list_all is_name_byte text ≡ true → AreQuoted (quoted_from x text bs)
quoted_all true text [] h = h
quoted_all false text [] h = tt
quoted_all true text (b ∷ bs) h = quote_by (b == 39) b text bs refl h (quoted_all false (text ++ b ∷ []) bs)
quoted_all false text (b ∷ bs) h = byte_by (b == 39) (is_name_byte b) b text bs refl h (quoted_all true text bs h) (quoted_all false (text ++ b ∷ []) bs)

quoted_has : (q : Option (List ℕ × List ℕ)) → AreQuoted q → FrontHas (quoted_front q)
quoted_has None h = tt
quoted_has (Some q) h = name_front_has true q.0 q.1 h

comment_has : (o : Option (List ℕ)) → FrontHas (comment_front o)
comment_has None = tt
comment_has (Some rest) = tt

dot_has : (bs : List ℕ) → FrontHas (dot_front bs)
dot_has [] = tt
dot_has (b ∷ bs) = either_front (is_blank b || b == 37) (token end_token (b ∷ bs)) broken tt tt

sign_has : (s : Option Sign) (bs : List ℕ) → FrontHas (sign_front s bs)
sign_has None bs = tt
sign_has (Some s) bs = tt

by_has : (s : Start) (b : ℕ) (bs : List ℕ) → (is_names s ≡ true → is_small_letter b ≡ true) → FrontHas (front_by s b bs)
by_has ends_line b bs h = tt
by_has blanks b bs h = tt
by_has comments b bs h = comment_has (behind_comment bs)
by_has names b bs h = name_front_has false (b ∷ word_of bs) (behind_word bs) (and_from (is_name_byte b) (list_all is_name_byte (word_of bs)) (between 97 122 b (h refl) (omega arith) (omega arith)) (words_are_names (word_of bs) (words bs)))
by_has variables b bs h = either_front (nat_le (length (b ∷ word_of bs)) MOST_VARIABLE_BYTES) (token (variable_token (b ∷ word_of bs)) (behind_word bs)) broken tt tt
by_has numbers b bs h = either_front (nat_le (number_of (b ∷ digits_of bs)) NUMBER_LIMIT) (token (digits_token (number_of (b ∷ digits_of bs))) (behind_digits bs)) broken tt tt
by_has quotes b bs h = quoted_has (quoted_from false [] bs) (quoted_all false [] bs refl)
by_has dots b bs h = dot_has bs
by_has subtracts b bs h = tt
by_has signs_or_nothing b bs h = sign_has (sign_at (b ∷ bs)) (b ∷ bs)

front_has : (bs : List ℕ) → FrontHas (front_of bs)
front_has [] = tt
front_has (b ∷ bs) = subst FrontHas (front_starts b bs) (by_has (start_of b) b bs (begins_name b))

-- tokens whose names are texts
abbrev HaveTexts : List Placed → Type 0
HaveTexts ps = AllByRecursion (λ (p : Placed). HasText p.token) ps

tokens_have : (next : ℕ → List ℕ → Tokens) (line : ℕ) (f : Front) → FrontHas f → ((l : ℕ) (rest : List ℕ) → HaveTexts (next l rest).placed) → HaveTexts (tokens_by next line f).placed
tokens_have next line finished h go = tt
tokens_have next line broken h go = tt
tokens_have next line (line_end rest) h go = go (suc line) rest
tokens_have next line (blank rest) h go = go line rest
tokens_have next line (token t rest) h go = (h, go line rest)

within_have : (n line : ℕ) (bs : List ℕ) → HaveTexts (tokens_within n line bs).placed
unfolding tokens_within
within_have zero line bs = tt
within_have (suc n) line bs = tokens_have (tokens_within n) line (front_of bs) (front_has bs) (within_have n)

text_has : (text : List ℕ) → HaveTexts (tokens_of_text text).placed
text_has text = within_have (suc (length text)) 1 text

-- tokens of an item whose names are texts
abbrev pub AllText : List (Token (List ℕ)) → Type 0
AllText ts = AllByRecursion HasText ts

-- an item has texts as names, if it has tokens
abbrev pub ItemHas : Option (List (Token (List ℕ))) → Type 0
ItemHas None = Unit {0}
ItemHas (Some ts) = AllText ts

-- items whose tokens' names are texts
abbrev pub ItemsHave : List Item → Type 0
ItemsHave items = AllByRecursion (λ (i : Item). ItemHas i.tokens) items

token_pushed : (ts : List (Token (List ℕ))) (t : Token (List ℕ)) → AllText ts → HasText t → AllText (ts ++ t ∷ [])
token_pushed [] t h is = (is, tt)
token_pushed (u ∷ us) t h is = (h.0, token_pushed us t h.1 is)

last_have : (began broken_at : Option ℕ) → ItemsHave (last_item began broken_at)
last_have None None = tt
last_have None (Some line) = (tt, tt)
last_have (Some line) broken_at = (tt, tt)

item_by : (x : Bool) (p : Placed) (line : ℕ) (before : List (Token (List ℕ))) (ps : List Placed) (broken_at : Option ℕ) → AllText before → ItemsHave (items_from None [] ps broken_at) → ItemsHave (items_from (Some line) (before ++ p.token ∷ []) ps broken_at) →
    ItemsHave (elim x [ true ↦ record { line = line; tokens = Some before } ∷ items_from None [] ps broken_at | false ↦ items_from (Some line) (before ++ p.token ∷ []) ps broken_at ])
item_by true p line before ps broken_at h ended go = (h, ended)
item_by false p line before ps broken_at h ended go = go

items_have : (began : Option ℕ) (before : List (Token (List ℕ))) (ps : List Placed) (broken_at : Option ℕ) → AllText before → HaveTexts ps → ItemsHave (items_from began before ps broken_at)
items_have began before [] broken_at h is = last_have began broken_at
items_have began before (p ∷ ps) broken_at h is =
    let line = unwrap_or began p.line in
    item_by (is_end p.token) p line before ps broken_at h (items_have None [] ps broken_at tt is.1) (items_have (Some line) (before ++ p.token ∷ []) ps broken_at (token_pushed before p.token h is.0) is.1)

-- the tokens of each item of a text have names that are texts
pub items_have_texts : (source : List ℕ) → ItemsHave (items_of (tokens_of_text source))
items_have_texts source = items_have None [] (tokens_of_text source).placed (tokens_of_text source).broken_at tt (text_has source)

-- the name of a module, if it is given one, is a text
abbrev pub GivesText : Option (List ℕ) → Type 0
GivesText None = Unit {0}
GivesText (Some name) = is_text name ≡ true

given_by : (x : Bool) (name : List ℕ) → is_text name ≡ true → GivesText (if x then Some name else None)
given_by true name h = h
given_by false name h = tt

tokens_give_text : (ts : List (Token (List ℕ))) → AllText ts → GivesText (named_module ts)
tokens_give_text (sign_token Neck ∷ name_token word q a ∷ name_token name r b ∷ []) h = given_by (bytes_eq word (codes "module") && not (bytes_eq name (codes "shoen"))) name h.1.1.0
tokens_give_text _ h = tt

-- the name that the first item of a module gives it is a text
pub item_gives_text : (o : Option (List (Token (List ℕ)))) → ItemHas o → GivesText (option_and_then named_module o)
item_gives_text None h = tt
item_gives_text (Some ts) h = tokens_give_text ts h
