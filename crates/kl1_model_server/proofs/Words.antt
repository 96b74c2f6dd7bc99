-- Numbers and words of a line, and how long they are.
use Rattle.std.specs.Prelude.{◌≡◌, ℕ, suc, ◌+◌, ◌-◌, ◌≤◌, ◌<◌, ◌==◌, max, nat_le, nat_lt, ◌&&◌, Bool, true, false, if◌then◌else◌, List, [], ◌∷◌, ◌++◌, length, codes, bytes_eq, decimal, Some}
use Rattle.std.specs.List.{list_all, AllByRecursion}
use Rattle.std.specs.Fmt.{signed_decimal}
use Rattle.std.proofs.Common.{refl, ap, ◌∙◌, arith}
use Rattle.std.proofs.lemmas.Bool.{and_parts, and_from, leb-true, le-leb, lt-ltb, ne_eqb}
use Rattle.std.proofs.lemmas.List.{length-append}
use Rattle.std.proofs.lemmas.Fmt.{length-decimal-le}
use Rattle.kl1_model.specs.Text.{before_byte, behind_byte}
use Rattle.kl1_model.specs.declared.limits.TheConstants.{FIRST_UNTOLD, MOST_DIGITS, NUMBER_LIMIT}
use Rattle.kl1_model.specs.declared.pair_form.PairForm.{PairForm}
use Rattle.kl1_model.specs.declared.pair_form.PairForm.TheVariants.{Cell, Qualified, Call}
use Rattle.kl1_model.specs.Name.{name_text, atom_text}
use Rattle.kl1_model.specs.Term.{Term, variable, integer, atom, structure, Terms, none, more}
use Rattle.kl1_model.specs.Token.{is_digit}
use Rattle.kl1_model.specs.Line.{before_space, behind_space, number_in}
use Rattle.kl1_model.specs.Meaning.{variables_of, variables_in, is_numbered, numbered_after, highest}
use Rattle.kl1_model.specs.Event.{is_number}
use Rattle.kl1_model.specs.Telling.{told_after, is_told_term}
use Rattle.kl1_model.specs.Print.{form_of, Printed, plain, printed_atom, commas, call_text, printed_cell, printed_pair, printed, printed_each, print}
use Rattle.kl1_model_server.proofs.LexWords.{decimal_writes}
use Rattle.kl1_model_server.proofs.ReadCounts.{numbered_upto, highest_upto}

-- a number below number_limit has at most 19 digits
pub few_digits : (n : ℕ) → n < NUMBER_LIMIT → length (decimal n) ≤ 19
few_digits n small = length-decimal-le 19 n (omega arith) (omega arith) (omega arith)

-- a number of a line is the number that its digits write
pub number_back : (n : ℕ) → n < NUMBER_LIMIT → number_in (decimal n) ≡ Some n
number_back n small =
    let w = decimal_writes n (omega arith) in
    rw (le-leb 1 (length (decimal n)) w.some, le-leb (length (decimal n)) MOST_DIGITS (few_digits n small), w.digits, w.value, lt-ltb n NUMBER_LIMIT small) refl

-- bytes without a space
abbrev pub NoSpace : List ℕ → Type 0
NoSpace bs = AllByRecursion (λ b. (b == 32) ≡ false) bs

-- the bytes before the first space
pub before_front : (w rest : List ℕ) → NoSpace w → before_space (w ++ 32 ∷ rest) ≡ w
before_front [] rest a = refl
before_front (b ∷ bs) rest a = rw (a.0, before_byte) (ap (λ (x : List ℕ). b ∷ x) (before_front bs rest a.1))

-- the bytes after it
pub behind_front : (w rest : List ℕ) → NoSpace w → behind_space (w ++ 32 ∷ rest) ≡ rest
behind_front [] rest a = refl
behind_front (b ∷ bs) rest a = rw (a.0, behind_byte) (behind_front bs rest a.1)

digit_no_space : (b : ℕ) → is_digit b ≡ true → (b == 32) ≡ false
digit_no_space b d = ne_eqb b 32 (λ e. omega (arith, e, leb-true 48 b (and_parts (nat_le 48 b) (nat_le b 57) d).0))

no_space : (ds : List ℕ) → list_all is_digit ds ≡ true → NoSpace ds
no_space [] a = tt
no_space (b ∷ bs) a = let p = and_parts (is_digit b) (list_all is_digit bs) a in (digit_no_space b p.0, no_space bs p.1)

-- digits are no spaces
pub decimal_no_space : (n : ℕ) → n < NUMBER_LIMIT → NoSpace (decimal n)
decimal_no_space n small = no_space (decimal n) (decimal_writes n (omega arith)).digits

-- both texts of a term have no fewer bytes than this
record Covers (n : ℕ) (p : Printed) : Type 0 where
  whole : n ≤ length p.whole
  rest : n ≤ length p.rest

plain_covers : (n : ℕ) (text : List ℕ) → n ≤ length text → Covers n (plain text)
plain_covers n text h = record { whole = h; rest = omega (arith, length-append text (codes "]")) }

atom_covers : (x : Bool) (a : List ℕ) → bytes_eq a (codes "[]") ≡ x → Covers 0 (printed_atom a)
atom_covers true a is = rw (is, printed_atom) (record { whole = omega arith; rest = omega arith })
atom_covers false a is = rw (is, printed_atom, atom_text) (plain_covers 0 (name_text a) (omega arith))

cell_covers : (m n : ℕ) (h t : Printed) → Covers m h → Covers n t → Covers (m + n) (printed_cell h t)
cell_covers m n h t a b =
    let more = length-append h.whole t.rest in
    let first = a.whole in
    let last = b.rest in
    record { whole = omega arith; rest = omega arith }

call_covers : (n : ℕ) (f : List ℕ) (ps : List Printed) → n ≤ length (commas ps) → Covers n (plain (call_text f ps))
call_covers n f ps h =
    plain_covers n (call_text f ps)
    (omega (arith, length-append (name_text f ++ codes "(" ++ commas ps) (codes ")"), length-append (name_text f ++ codes "(") (commas ps)))

qualified_covers : (m n : ℕ) (p q : Printed) → Covers m p → Covers n q → Covers (m + n) (plain (p.whole ++ codes ":" ++ q.whole))
qualified_covers m n p q a b =
    let first = a.whole in
    let last = b.whole in
    plain_covers (m + n) (p.whole ++ codes ":" ++ q.whole)
    (omega (arith, length-append (p.whole ++ codes ":") q.whole, length-append p.whole (codes ":")))

-- each of these terms has no more variables than bytes
abbrev EachCovers : Terms → Type 0
EachCovers none = Unit {0}
EachCovers (more t ts) = Covers (length (variables_of t)) (printed t) × EachCovers ts

commas_cover : (ts : Terms) → EachCovers ts → length (variables_in ts) ≤ length (commas (printed_each ts))
commas_cover none hs = omega arith
commas_cover (more t none) hs = let h = hs.0.whole in omega (arith, length-append (variables_of t) [])
commas_cover (more t (more u us)) hs =
    let h = hs.0.whole in
    let p = printed t in
    let rest = commas (printed u ∷ printed_each us) in
    omega (arith, commas_cover (more u us) hs.1, length-append (variables_of t) (variables_in (more u us)), length-append (p.whole ++ codes ",") rest, length-append p.whole (codes ","))

pair_covers : (form : PairForm) (f : List ℕ) (a b : Term) → EachCovers (more a (more b none)) → Covers (length (variables_of a) + length (variables_of b)) (printed_pair form f (printed a) (printed b))
pair_covers Cell f a b hs = cell_covers (length (variables_of a)) (length (variables_of b)) (printed a) (printed b) hs.0 hs.1.0
pair_covers Qualified f a b hs = qualified_covers (length (variables_of a)) (length (variables_of b)) (printed a) (printed b) hs.0 hs.1.0
pair_covers Call f a b hs =
    call_covers (length (variables_of a) + length (variables_of b)) f (printed a ∷ printed b ∷ [])
    (omega (arith, commas_cover (more a (more b none)) hs, length-append (variables_of a) (variables_of b ++ []), length-append (variables_of b) []))

pair_variables : (a b : Term) → length (variables_of a) + length (variables_of b) ≡ length (variables_in (more a (more b none)))
pair_variables a b = omega (arith, length-append (variables_of a) (variables_of b ++ []), length-append (variables_of b) [])

structure_covers : (f : List ℕ) (ts : Terms) → EachCovers ts → Covers (length (variables_in ts)) (printed (structure f ts))
structure_covers f none hs = call_covers 0 f [] (commas_cover none hs)
structure_covers f (more a none) hs = call_covers (length (variables_in (more a none))) f (printed a ∷ []) (commas_cover (more a none) hs)
structure_covers f (more a (more b none)) hs = rw (← pair_variables a b) (pair_covers (form_of f a b) f a b hs)
structure_covers f (more a (more b (more c ts))) hs =
    call_covers (length (variables_in (more a (more b (more c ts))))) f (printed_each (more a (more b (more c ts)))) (commas_cover (more a (more b (more c ts))) hs)

mutual
  covers : (t : Term) → Covers (length (variables_of t)) (printed t)
  covers (variable v) = plain_covers 1 (95 ∷ decimal v) (omega arith)
  covers (integer i) = plain_covers 0 (signed_decimal i) (omega arith)
  covers (atom a) = atom_covers (bytes_eq a (codes "[]")) a refl
  covers (structure f ts) = structure_covers f ts (each_covers ts)

  each_covers : (ts : Terms) → EachCovers ts
  each_covers none = tt
  each_covers (more t ts) = (covers t, each_covers ts)

-- a term whose variables are numbered by first occurrence has no greater number than its print has bytes
pub highest_fits : (t : Term) → is_numbered t ≡ true → highest t ≤ length (print t)
highest_fits t h =
    let few = (covers t).whole in
    highest_upto t (length (print t)) (numbered_upto (variables_of t) 0 (length (print t)) h (omega arith))

told_small : (v k : ℕ) (vs : List ℕ) → 1 ≤ v → v < FIRST_UNTOLD → told_after k vs ≡ true → told_after k (v ∷ vs) ≡ true
told_small v k vs some few rest =
    ap (λ b. if b then nat_le 1 v && told_after k vs else nat_le v (FIRST_UNTOLD + k) && is_number v && told_after (max k (suc v - FIRST_UNTOLD)) vs) (lt-ltb v FIRST_UNTOLD few)
    ∙ and_from (nat_le 1 v) (told_after k vs) (le-leb 1 v some) rest

-- numbers from 1 by first occurrence are as a text tells them, if there are not too many
numbered_told : (vs : List ℕ) (k most : ℕ) → numbered_after k vs ≡ true → k + length vs ≤ most → most < FIRST_UNTOLD → told_after 0 vs ≡ true
numbered_told [] k most h within few = refl
numbered_told (v ∷ vs) k most h within few =
    let here = and_parts (nat_le 1 v && nat_le v (suc k)) (numbered_after (max k v) vs) h in
    let between = and_parts (nat_le 1 v) (nat_le v (suc k)) here.0 in
    let last = leb-true v (suc k) between.1 in
    told_small v 0 vs (leb-true 1 v between.0) (omega arith) (numbered_told vs (max k v) most here.1 (omega arith) few)

-- so are those of a term whose print isn't too long
pub numbered_terms_are_told : (t : Term) → is_numbered t ≡ true → length (print t) < FIRST_UNTOLD → is_told_term t ≡ true
numbered_terms_are_told t h short = let few = (covers t).whole in numbered_told (variables_of t) 0 (length (print t)) h (omega arith) short
