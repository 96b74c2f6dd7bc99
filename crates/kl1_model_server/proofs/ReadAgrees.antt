-- The text of each term has the tokens of its tree, and the tree means the term.
use Rattle.std.specs.Prelude.{◌≡◌, ℕ, suc, ◌<◌, not, Bool, true, false, ℤ, pos, negsuc, List, [], ◌∷◌, ◌++◌, codes, bytes_eq, decimal}
use Rattle.std.specs.Fmt.{signed_decimal}
use Rattle.std.proofs.Common.{refl, subst, sym, ◌∙◌, arith}
use Rattle.std.proofs.lemmas.Bool.{ltb-true}
use Rattle.std.proofs.lemmas.List.{append_assoc}
use Rattle.std.proofs.lemmas.Slice.Eq.{bytes_eq-Decides}
use Rattle.kl1_model.specs.declared.limits.TheConstants.{NUMBER_LIMIT}
use Rattle.kl1_model.specs.declared.sign.Sign.TheVariants.{Bar, Comma, Open, Close, OpenList, CloseList}
use Rattle.kl1_model.specs.Text.{is_text}
use Rattle.kl1_model.specs.Name.{is_bare, name_text, atom_text}
use Rattle.kl1_model.specs.Term.{Term, variable, integer, atom, structure, Terms, none, more}
use Rattle.kl1_model.specs.Token.{sign_token}
use Rattle.kl1_model.specs.Grammar.{Numbered, Part, single, numbered, positive, negative, constant, call, Series, part_tokens, primary_tokens, series_tokens}
use Rattle.kl1_model.specs.Meaning.{cell, is_word}
use Rattle.kl1_model.specs.Print.{Printed, plain, printed_atom, commas, call_text, printed_cell, printed, printed_each}
use Rattle.kl1_model.proofs.ReadRows.{rest_tokens, list_row}
use Rattle.kl1_model_server.proofs.LexWords.{no_word_no_digit}
use Rattle.kl1_model_server.proofs.LexFronts.{Lexes, lexes_token, Calm, lexes_called, lexes_name, lexes_digits, lexes_negative, lexes_variable}
use Rattle.kl1_model_server.proofs.ReadPlanted.{Planted, plainly, series_of, planted_plain, planted_atom, planted_integer, planted_cell, planted_series, planted_call, planted, planted_each, rest_row, series_row, Bears, BearsBehind, BearsEach, plain_behind, last_bears, another_bears, call_bears, cell_bears, cell_behind}

-- a text has the tokens of a part, whatever calm text follows
abbrev pub IsText : List ℕ → Part → Type 0
IsText text p = (bs : List ℕ) (ts : List Numbered) → Calm bs → Lexes bs ts → Lexes (text ++ bs) (part_tokens p ts)

-- a text has the tokens of arguments, whatever calm text follows
abbrev pub IsTextOfEach : List ℕ → Series → Type 0
IsTextOfEach text s = (bs : List ℕ) (ts : List Numbered) → Calm bs → Lexes bs ts → Lexes (text ++ bs) (series_tokens s ts)

-- a term, its texts and its trees belong together
pub record Agrees (t : Term) (p : Printed) (q : Planted) : Type 0 where
  pub bears : Bears t q.whole
  pub behind : BearsBehind t q
  pub whole : IsText p.whole q.whole
  pub rest : (bs : List ℕ) (ts : List Numbered) → Lexes bs ts → Lexes (p.rest ++ bs) (rest_row q ts)
  pub calm : (bs : List ℕ) → Calm (p.rest ++ bs)

-- a text that ends a list
closing : (bs : List ℕ) (ts : List Numbered) → Lexes bs ts → Lexes (93 ∷ bs) (sign_token CloseList ∷ ts)
closing bs ts behind = lexes_token (sign_token CloseList) refl behind

-- a term that is no list, with its text after a bar
pub plain_agrees : (t : Term) (text : List ℕ) (p : Part) → Bears t p → IsText text p → Agrees t (plain text) (planted_plain p)
plain_agrees t text p h whole =
    record {
      bears = h;
      behind = plain_behind t p h;
      whole = whole;
      rest = λ bs ts behind.
          lexes_token (sign_token Bar) refl
          (subst (λ x. Lexes x (part_tokens p (sign_token CloseList ∷ ts))) (sym (append_assoc text (93 ∷ []) bs))
          (whole (93 ∷ bs) (sign_token CloseList ∷ ts) (record { no_word = refl; no_quote = refl; no_open = refl }) (closing bs ts behind)));
      calm = λ bs. record { no_word = refl; no_quote = refl; no_open = refl };
    }

-- a variable
pub variable_agrees : (v : ℕ) → v < NUMBER_LIMIT → Agrees (variable v) (plain (codes "_" ++ decimal v)) (planted_plain (single (numbered v)))
variable_agrees v few =
    plain_agrees (variable v) (codes "_" ++ decimal v) (single (numbered v)) (record { means = refl; sound = refl })
    (λ bs ts calm behind. lexes_variable v bs ts few calm.no_word behind)

-- an integer
pub integer_agrees : (i : ℤ) → is_word i ≡ true → Agrees (integer i) (plain (signed_decimal i)) (planted_plain (single (planted_integer i)))
integer_agrees (pos n) few =
    plain_agrees (integer (pos n)) (decimal n) (single (positive n)) (record { means = refl; sound = few })
    (λ bs ts calm behind. lexes_digits n bs ts (omega (arith, ltb-true n NUMBER_LIMIT few)) (no_word_no_digit bs calm.no_word) behind)
integer_agrees (negsuc n) few =
    plain_agrees (integer (negsuc n)) (45 ∷ decimal (suc n)) (single (negative (suc n))) (record { means = refl; sound = refl })
    (λ bs ts calm behind. lexes_negative (suc n) bs ts (omega (arith, ltb-true n NUMBER_LIMIT few)) (no_word_no_digit bs calm.no_word) behind)

nil_agrees : Agrees (atom (codes "[]")) (printed_atom (codes "[]")) (planted_atom (codes "[]"))
nil_agrees =
    record {
      bears = record { means = refl; sound = refl };
      behind = record { means = λ e. refl; sound = refl };
      whole = λ bs ts calm behind. lexes_token (sign_token OpenList) refl (closing bs ts behind);
      rest = λ bs ts behind. closing bs ts behind;
      calm = λ bs. record { no_word = refl; no_quote = refl; no_open = refl };
    }

constant_agrees : (a : List ℕ) → is_text a ≡ true → Agrees (atom a) (plain (name_text a)) (planted_plain (single (constant a (not (is_bare a)))))
constant_agrees a fine =
    plain_agrees (atom a) (name_text a) (single (constant a (not (is_bare a)))) (record { means = refl; sound = refl })
    (λ bs ts calm behind. lexes_name a bs ts fine calm behind)

-- an atom, `[]` or another
pub atom_agrees : (x : Bool) (a : List ℕ) → bytes_eq a (codes "[]") ≡ x → is_text a ≡ true → Agrees (atom a) (printed_atom a) (planted_atom a)
atom_agrees true a is fine = subst (λ b. Agrees (atom b) (printed_atom b) (planted_atom b)) (sym ((bytes_eq-Decides a (codes "[]")).0 is)) nil_agrees
atom_agrees false a is fine = rw (is, printed_atom, planted_atom, atom_text) (constant_agrees a fine)

-- a list cell, from its element and what is after it
pub cell_agrees : (a b : Term) (pa pb : Printed) (qa qb : Planted) → Agrees a pa qa → Agrees b pb qb → Agrees (cell a b) (printed_cell pa pb) (planted_cell qa qb)
cell_agrees a b pa pb qa qb h j =
    let s = series_of (plainly qa.whole) qb.following in
    let row : (bs : List ℕ) (ts : List Numbered) → Lexes bs ts → Lexes ((pa.whole ++ pb.rest) ++ bs) (series_tokens s (rest_tokens qb.ending (sign_token CloseList ∷ ts))) =
    λ bs ts behind.
    subst (λ x. Lexes x (series_tokens s (rest_tokens qb.ending (sign_token CloseList ∷ ts)))) (sym (append_assoc pa.whole pb.rest bs))
    (subst (λ y. Lexes (pa.whole ++ (pb.rest ++ bs)) y) (sym (series_row (plainly qa.whole) qb.following (rest_tokens qb.ending (sign_token CloseList ∷ ts))))
    (h.whole (pb.rest ++ bs) (rest_row qb ts) (j.calm bs) (j.rest bs ts behind)))
    in
    record {
      bears = cell_bears a b qa qb h.bears j.behind;
      behind = cell_behind a b qa qb h.bears j.behind;
      whole = λ bs ts calm behind. subst (Lexes ((printed_cell pa pb).whole ++ bs)) (sym (list_row s qb.ending ts)) (lexes_token (sign_token OpenList) refl (row bs ts behind));
      rest = λ bs ts behind. lexes_token (sign_token Comma) refl (row bs ts behind);
      calm = λ bs. record { no_word = refl; no_quote = refl; no_open = refl };
    }

-- a name, arguments in parentheses, and what follows
call_parts : (n c bs : List ℕ) → (n ++ codes "(" ++ c ++ codes ")") ++ bs ≡ n ++ 40 ∷ (c ++ 41 ∷ bs)
call_parts n c bs = simp append_assoc

call_agrees : (f : List ℕ) (ts : Terms) (text : List ℕ) (s : Series) → is_text f ≡ true → BearsEach ts s → IsTextOfEach text s → Agrees (structure f ts) (plain (name_text f ++ codes "(" ++ text ++ codes ")")) (planted_plain (single (call f (not (is_bare f)) s)))
call_agrees f ts text s fine h whole =
    plain_agrees (structure f ts) (name_text f ++ codes "(" ++ text ++ codes ")") (single (call f (not (is_bare f)) s)) (call_bears f (not (is_bare f)) ts s h)
    (λ bs us calm behind.
    subst (λ x. Lexes x (primary_tokens (call f (not (is_bare f)) s) us)) (sym (call_parts (name_text f) text bs))
    (lexes_called f (text ++ 41 ∷ bs) (sign_token Open ∷ series_tokens s (sign_token Close ∷ us)) fine
    (lexes_token (sign_token Open) refl
    (whole (41 ∷ bs) (sign_token Close ∷ us) (record { no_word = refl; no_quote = refl; no_open = refl }) (lexes_token (sign_token Close) refl behind)))))

-- each of these terms agrees with its text and its tree
abbrev pub EachAgrees : Terms → Type 0
EachAgrees none = Unit {0}
EachAgrees (more t ts) = Agrees t (printed t) (planted t) × EachAgrees ts

each_bears : (ts : Terms) (t : Term) → Agrees t (printed t) (planted t) → EachAgrees ts → BearsEach (more t ts) (planted_series (planted t) (planted_each ts))
each_bears none t h hs = last_bears t (planted t).whole h.bears
each_bears (more u us) t h hs = another_bears t (planted t).whole (more u us) (planted_series (planted u) (planted_each us)) h.bears (each_bears us u hs.0 hs.1)

each_text : (ts : Terms) (t : Term) → Agrees t (printed t) (planted t) → EachAgrees ts → IsTextOfEach (commas (printed t ∷ printed_each ts)) (planted_series (planted t) (planted_each ts))
each_text none t h hs bs us calm behind = h.whole bs us calm behind
each_text (more u us) t h hs bs ws calm behind =
    let s = planted_series (planted u) (planted_each us) in
    let text = commas (printed u ∷ printed_each us) in
    subst (λ x. Lexes x (part_tokens (planted t).whole (sign_token Comma ∷ series_tokens s ws)))
    (sym (append_assoc ((printed t).whole ++ codes ",") text bs ∙ append_assoc (printed t).whole (codes ",") (text ++ bs)))
    (h.whole (44 ∷ (text ++ bs)) (sign_token Comma ∷ series_tokens s ws) (record { no_word = refl; no_quote = refl; no_open = refl })
    (lexes_token (sign_token Comma) refl (each_text us u hs.0 hs.1 bs ws calm behind)))

-- a name with its arguments
pub arguments_agree : (f : List ℕ) (t : Term) (ts : Terms) → is_text f ≡ true → Agrees t (printed t) (planted t) → EachAgrees ts → Agrees (structure f (more t ts)) (plain (call_text f (printed t ∷ printed_each ts))) (planted_call f (planted t ∷ planted_each ts))
arguments_agree f t ts fine h hs =
    call_agrees f (more t ts) (commas (printed t ∷ printed_each ts)) (planted_series (planted t) (planted_each ts)) fine (each_bears ts t h hs) (each_text ts t h hs)
