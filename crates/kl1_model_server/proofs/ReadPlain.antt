-- Printed terms are printable ASCII.
use Rattle.std.specs.Prelude.{◌≡◌, ℕ, suc, ◌^◌, ◌<◌, ◌==◌, nat_le, ◌&&◌, Bool, true, false, if◌then◌else◌, ℤ, pos, negsuc, List, [], ◌∷◌, ◌++◌, length, codes, bytes_eq, decimal}
use Rattle.std.specs.List.{list_all}
use Rattle.std.specs.Fmt.{signed_decimal}
use Rattle.std.proofs.Common.{refl, ◌∙◌, arith}
use Rattle.std.proofs.lemmas.Bool.{and_parts, and_from, leb-true, le-leb, ltb-true}
use Rattle.std.proofs.lemmas.List.Folds.{list_all-append}
use Rattle.kl1_model.specs.declared.limits.TheConstants.{MOST_ARGUMENTS, MOST_NAME_BYTES, NUMBER_LIMIT}
use Rattle.kl1_model.specs.declared.pair_form.PairForm.{PairForm}
use Rattle.kl1_model.specs.declared.pair_form.PairForm.TheVariants.{Cell, Qualified, Call}
use Rattle.kl1_model.specs.Text.{is_name_byte, is_text}
use Rattle.kl1_model.specs.Name.{is_bare, doubled, quoted, name_text, atom_text}
use Rattle.kl1_model.specs.Term.{Term, variable, integer, atom, structure, Terms, none, more, count_of}
use Rattle.kl1_model.specs.Token.{is_digit}
use Rattle.kl1_model.specs.Meaning.{is_word, is_narrow, are_narrow, highest, highest_in}
use Rattle.kl1_model.specs.Print.{form_of, Printed, plain, printed_atom, commas, call_text, printed_cell, printed_pair, printed, printed_each, print}
use Rattle.kl1_model_server.proofs.LexWords.{decimal_writes}

-- each byte is printable ASCII
abbrev IsPlain : List ℕ → Type 0
IsPlain bs = list_all is_name_byte bs ≡ true

both_plain : (a b : List ℕ) → IsPlain a → IsPlain b → IsPlain (a ++ b)
both_plain a b h j = list_all-append is_name_byte a b ∙ and_from (list_all is_name_byte a) (list_all is_name_byte b) h j

digit_plain : (b : ℕ) → is_digit b ≡ true → is_name_byte b ≡ true
digit_plain b digit =
    let both = and_parts (nat_le 48 b) (nat_le b 57) digit in
    let least = leb-true 48 b both.0 in
    let most = leb-true b 57 both.1 in
    and_from (nat_le 32 b) (nat_le b 126) (le-leb 32 b (omega arith)) (le-leb b 126 (omega arith))

digits_plain : (ds : List ℕ) → list_all is_digit ds ≡ true → IsPlain ds
digits_plain [] all = refl
digits_plain (d ∷ ds) all =
    let both = and_parts (is_digit d) (list_all is_digit ds) all in
    and_from (is_name_byte d) (list_all is_name_byte ds) (digit_plain d both.0) (digits_plain ds both.1)

decimal_plain : (n : ℕ) → n < 2 ^ 64 → IsPlain (decimal n)
decimal_plain n few = digits_plain (decimal n) (decimal_writes n few).digits

integer_plain : (i : ℤ) → is_word i ≡ true → IsPlain (signed_decimal i)
integer_plain (pos n) few = let less = ltb-true n NUMBER_LIMIT few in decimal_plain n (omega arith)
integer_plain (negsuc n) few = let less = ltb-true n NUMBER_LIMIT few in decimal_plain (suc n) (omega arith)

byte_plain : (x : Bool) (b : ℕ) → is_name_byte b ≡ true → IsPlain (if x then 39 ∷ 39 ∷ [] else b ∷ [])
byte_plain true b h = refl
byte_plain false b h = and_from (is_name_byte b) true h refl

doubled_plain : (bs : List ℕ) → IsPlain bs → IsPlain (doubled bs)
doubled_plain [] all = refl
doubled_plain (b ∷ bs) all =
    let both = and_parts (is_name_byte b) (list_all is_name_byte bs) all in
    both_plain (if b == 39 then 39 ∷ 39 ∷ [] else b ∷ []) (doubled bs) (byte_plain (b == 39) b both.0) (doubled_plain bs both.1)

name_case : (x : Bool) (f : List ℕ) → IsPlain f → IsPlain (if x then f else quoted f)
name_case true f all = all
name_case false f all = both_plain (doubled f) (codes "'") (doubled_plain f all) refl

name_plain : (f : List ℕ) → is_text f ≡ true → IsPlain (name_text f)
name_plain f fine = name_case (is_bare f) f (and_parts (nat_le (length f) MOST_NAME_BYTES) (list_all is_name_byte f) fine).1

-- both texts of a term are printable ASCII
record ArePlain (p : Printed) : Type 0 where
  whole : IsPlain p.whole
  rest : IsPlain p.rest

alone_plain : (text : List ℕ) → IsPlain text → ArePlain (plain text)
alone_plain text all = record { whole = all; rest = both_plain text (codes "]") all refl }

atom_case : (x : Bool) (a : List ℕ) → bytes_eq a (codes "[]") ≡ x → is_text a ≡ true → ArePlain (printed_atom a)
atom_case true a is fine = rw (is, printed_atom) (record { whole = refl; rest = refl })
atom_case false a is fine = rw (is, printed_atom, atom_text) (alone_plain (name_text a) (name_plain a fine))

cell_plain : (h t : Printed) → ArePlain h → ArePlain t → ArePlain (printed_cell h t)
cell_plain h t a b = let all = both_plain h.whole t.rest a.whole b.rest in record { whole = all; rest = all }

call_plain : (f : List ℕ) (ps : List Printed) → is_text f ≡ true → IsPlain (commas ps) → ArePlain (plain (call_text f ps))
call_plain f ps fine all =
    alone_plain (call_text f ps)
    (both_plain (name_text f ++ codes "(" ++ commas ps) (codes ")") (both_plain (name_text f ++ codes "(") (commas ps) (both_plain (name_text f) (codes "(") (name_plain f fine) refl) all) refl)

-- each of these terms has such texts
abbrev EachPlain : Terms → Type 0
EachPlain none = Unit {0}
EachPlain (more t ts) = ArePlain (printed t) × EachPlain ts

commas_plain : (ts : Terms) → EachPlain ts → IsPlain (commas (printed_each ts))
commas_plain none hs = refl
commas_plain (more t none) hs = hs.0.whole
commas_plain (more t (more u us)) hs =
    both_plain ((printed t).whole ++ codes ",") (commas (printed u ∷ printed_each us)) (both_plain (printed t).whole (codes ",") hs.0.whole refl) (commas_plain (more u us) hs.1)

pair_plain : (form : PairForm) (f : List ℕ) (a b : Term) → is_text f ≡ true → ArePlain (printed a) → ArePlain (printed b) → ArePlain (printed_pair form f (printed a) (printed b))
pair_plain Cell f a b fine h j = cell_plain (printed a) (printed b) h j
pair_plain Qualified f a b fine h j =
    alone_plain ((printed a).whole ++ codes ":" ++ (printed b).whole) (both_plain ((printed a).whole ++ codes ":") (printed b).whole (both_plain (printed a).whole (codes ":") h.whole refl) j.whole)
pair_plain Call f a b fine h j = call_plain f (printed a ∷ printed b ∷ []) fine (commas_plain (more a (more b none)) (h, (j, tt)))

structure_plain : (f : List ℕ) (ts : Terms) → is_text f ≡ true → EachPlain ts → ArePlain (printed (structure f ts))
structure_plain f none fine hs = call_plain f [] fine refl
structure_plain f (more a none) fine hs = call_plain f (printed a ∷ []) fine (commas_plain (more a none) hs)
structure_plain f (more a (more b none)) fine hs = pair_plain (form_of f a b) f a b fine hs.0 hs.1.0
structure_plain f (more a (more b (more c ts))) fine hs = call_plain f (printed_each (more a (more b (more c ts)))) fine (commas_plain (more a (more b (more c ts))) hs)

mutual
  are_plain : (t : Term) → is_narrow t ≡ true → highest t < NUMBER_LIMIT → ArePlain (printed t)
  are_plain (variable v) narrow few = alone_plain (codes "_" ++ decimal v) (both_plain (codes "_") (decimal v) refl (decimal_plain v (omega arith)))
  are_plain (integer i) narrow few = alone_plain (signed_decimal i) (integer_plain i narrow)
  are_plain (atom a) narrow few = atom_case (bytes_eq a (codes "[]")) a refl narrow
  are_plain (structure f ts) narrow few =
      let front = and_parts (is_text f && nat_le 1 (count_of ts) && nat_le (count_of ts) MOST_ARGUMENTS) (are_narrow ts) narrow in
      let named = and_parts (is_text f && nat_le 1 (count_of ts)) (nat_le (count_of ts) MOST_ARGUMENTS) front.0 in
      structure_plain f ts (and_parts (is_text f) (nat_le 1 (count_of ts)) named.0).0 (each_plain ts front.1 few)

  each_plain : (ts : Terms) → are_narrow ts ≡ true → highest_in ts < NUMBER_LIMIT → EachPlain ts
  each_plain none narrow few = tt
  each_plain (more t ts) narrow few =
      let both = and_parts (is_narrow t) (are_narrow ts) narrow in
      (are_plain t both.0 (omega arith), each_plain ts both.1 (omega arith))

-- the print of a term is printable ASCII
pub prints_are_plain : (t : Term) → is_narrow t ≡ true → highest t < NUMBER_LIMIT → list_all is_name_byte (print t) ≡ true
prints_are_plain t narrow few = (are_plain t narrow few).whole
