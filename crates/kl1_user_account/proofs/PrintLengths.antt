-- How long the text of a term is at most, by the number of its nodes.
use Rattle.kl1_user_account.proofs.Words.{◌≡◌, ℕ, suc, sym, ap, ◌∙◌, subst, map, ◌+◌, ◌*◌, ◌<◌, ◌≤◌, ◌^◌, ◌==◌, ◌&&◌, Bool, true, false, if◌then◌else◌, List, [], ◌∷◌, ◌++◌, length, arith, ℤ, pos, negsuc, nat_le, decimal, bytes_eq, list_all, signed_decimal, length-append, length-map, length-decimal-le, and_parts, leb-true, ltb-true, MOST_NAME_BYTES, NUMBER_LIMIT, MOST_ARGUMENTS, MOST_DEPTH, MOST_LINE_BYTES, PairForm, Call, is_text, is_name_byte, is_bare, doubled, quoted, name_text, atom_text, Term, variable, integer, atom, structure, Terms, none, more, count_of, depth, highest, highest_in, is_word, is_narrow, are_narrow, is_writable, form_of, Printed, plain, printed_atom, commas, call_text, printed_pair, printed, printed_each, print, start_line, answer_line, nodes_of, nodes_of_all, Node, code_of}
use Rattle.std.proofs.Common.{codes}
use Rattle.kl1_model.specs.declared.pair_form.PairForm.TheVariants.{Cell, Qualified}

-- between quotes a name is at most twice as long
doubled_length : (bs : List ℕ) → length (doubled bs) ≤ 2 * length bs
doubled_length [] = omega arith
doubled_length (b ∷ bs) = by (b == 39) (doubled_length bs)
  where
    by : (c : Bool) → length (doubled bs) ≤ 2 * length bs → length ((if c then 39 ∷ 39 ∷ [] else b ∷ []) ++ doubled bs) ≤ 2 * suc (length bs)
    by true h = omega (arith, h)
    by false h = omega (arith, h)

-- a name is printed in at most 256 bytes
name_short : (f : List ℕ) → is_text f ≡ true → length (name_text f) ≤ 256
name_short f text = by (is_bare f) (leb-true (length f) MOST_NAME_BYTES (and_parts (nat_le (length f) MOST_NAME_BYTES) (list_all is_name_byte f) text).0)
  where
    by : (c : Bool) → length f ≤ 127 → length (if c then f else quoted f) ≤ 256
    by true few = omega (arith, few)
    by false few = omega (arith, few, doubled_length f, length-append (doubled f) (codes "'"))

-- what is printed of n nodes: at most 264 bytes for each
record Fits (p : Printed) (n : ℕ) : Type 0 where
  whole : length p.whole + 3 ≤ 264 * n
  rest : length p.rest + 1 ≤ 264 * n

plain_fits : (text : List ℕ) (n : ℕ) → length text + 3 ≤ 264 * n → Fits (plain text) n
plain_fits text n h = record { whole = h; rest = omega (arith, h, length-append text (codes "]")) }

atom_fits : (a : List ℕ) → is_text a ≡ true → Fits (printed_atom a) 1
atom_fits a text = by (bytes_eq a (codes "[]"))
  where
    by : (c : Bool) → Fits (if c then record { whole = codes "[]"; rest = codes "]" } else plain (if c then a else name_text a)) 1
    by true = record { whole = omega arith; rest = omega arith }
    by false = plain_fits (name_text a) 1 (let e = name_short a text in omega (arith, e))

integer_fits : (i : ℤ) → is_word i ≡ true → length (signed_decimal i) ≤ 21
integer_fits (pos n) small = let less = ltb-true n NUMBER_LIMIT small in let e = length-decimal-le 20 n (omega arith) (omega (arith, less)) (omega (arith, less)) in omega (arith, e)
integer_fits (negsuc n) small = let less = ltb-true n NUMBER_LIMIT small in let e = length-decimal-le 20 (suc n) (omega arith) (omega (arith, less)) (omega (arith, less)) in omega (arith, e)

-- two texts with one between them
parted : (xs c ys : List ℕ) → length (xs ++ c ++ ys) ≡ length xs + length c + length ys
parted xs c ys = simp length-append (omega arith)

call_fits : (f : List ℕ) (ps : List Printed) (n : ℕ) → is_text f ≡ true → length (commas ps) ≤ 264 * n → Fits (plain (call_text f ps)) (suc n)
call_fits f ps n text few = plain_fits (call_text f ps) (suc n) (simp length-append (omega (arith, name_short f text, few)))

pair_fits : (form : PairForm) (f : List ℕ) (p q : Printed) (m n : ℕ) → is_text f ≡ true → Fits p m → Fits q n → Fits (printed_pair form f p q) (suc (m + n))
pair_fits Cell f p q m n text a b = let e = length-append p.whole q.rest in record { whole = omega (arith, e, a.whole, b.rest); rest = omega (arith, e, a.whole, b.rest) }
pair_fits Qualified f p q m n text a b = plain_fits (p.whole ++ codes ":" ++ q.whole) (suc (m + n)) (let e = parted p.whole (codes ":") q.whole in omega (arith, e, a.whole, b.whole))
pair_fits Call f p q m n text a b = call_fits f (p ∷ q ∷ []) (m + n) text (let e = parted p.whole (codes ",") q.whole in omega (arith, e, a.whole, b.whole))

-- a structure's name
name_of : (f : List ℕ) (ts : Terms) → is_narrow (structure f ts) ≡ true → (is_text f ≡ true) × (are_narrow ts ≡ true)
name_of f ts h =
    let front = and_parts (is_text f && nat_le 1 (count_of ts) && nat_le (count_of ts) MOST_ARGUMENTS) (are_narrow ts) h in
    let named = and_parts (is_text f && nat_le 1 (count_of ts)) (nat_le (count_of ts) MOST_ARGUMENTS) front.0 in
    ((and_parts (is_text f) (nat_le 1 (count_of ts)) named.0).0, front.1)

-- a term's text, if its names, integers and variables are those of the language
mutual
  print_fits : (t : Term) → is_narrow t ≡ true → highest t < 2 ^ 64 → Fits (printed t) (length (nodes_of t))
  print_fits (variable n) narrow few = plain_fits (codes "_" ++ decimal n) 1 (let e = length-decimal-le 20 n (omega arith) (omega (arith, few)) few in omega (arith, e))
  print_fits (integer i) narrow few = plain_fits (signed_decimal i) 1 (let e = integer_fits i narrow in omega (arith, e))
  print_fits (atom a) narrow few = atom_fits a narrow
  print_fits (structure f (more a (more b none))) narrow few =
      let parts = name_of f (more a (more b none)) narrow in
      let both = and_parts (is_narrow a) (are_narrow (more b none)) parts.1 in
      let fits_a = print_fits a both.0 (omega (arith, few)) in
      let fits_b = print_fits b (and_parts (is_narrow b) true both.1).0 (omega (arith, few)) in
      subst (λ n. Fits (printed (structure f (more a (more b none)))) (suc n)) (omega (arith, length-append (nodes_of a) (nodes_of b ++ []), length-append (nodes_of b) []))
      (pair_fits (form_of f a b) f (printed a) (printed b) (length (nodes_of a)) (length (nodes_of b)) parts.0 fits_a fits_b)
  print_fits (structure f ts) narrow few =
      let parts = name_of f ts narrow in
      call_fits f (printed_each ts) (length (nodes_of_all ts)) parts.0 (each_fits ts parts.1 few)

  each_fits : (ts : Terms) → are_narrow ts ≡ true → highest_in ts < 2 ^ 64 → length (commas (printed_each ts)) ≤ 264 * length (nodes_of_all ts)
  each_fits none narrow few = omega arith
  each_fits (more t none) narrow few =
      let h = print_fits t (and_parts (is_narrow t) true narrow).0 (omega (arith, few)) in
      omega (arith, h.whole, length-append (nodes_of t) [])
  each_fits (more t (more u ts)) narrow few =
      let both = and_parts (is_narrow t) (are_narrow (more u ts)) narrow in
      let h = print_fits t both.0 (omega (arith, few)) in
      let others = each_fits (more u ts) both.1 (omega (arith, few)) in
      omega (arith, h.whole, others, length-append (nodes_of t) (nodes_of_all (more u ts)), parted (printed t).whole (codes ",") (commas (printed_each (more u ts))))

-- a term of at most 992 nodes is printed in so few bytes that 69 more fit in a line
pub short_print : (t : Term) (most : ℕ) (nodes : List Node) → most ≡ highest t → most < 2 ^ 64 → map code_of nodes ≡ nodes_of t → length nodes ≤ 992 → is_writable t ≡ true → length (print t) + 69 ≤ MOST_LINE_BYTES
short_print t most nodes is low same few writable =
    let h = print_fits t (and_parts (is_narrow t) (nat_le (depth t) MOST_DEPTH) writable).0 (omega (arith, is, low)) in
    let count : length nodes ≡ length (nodes_of t) = sym (length-map nodes code_of) ∙ ap length same in
    omega (arith, h.whole, few, count)

digits_few : (n : ℕ) → n < 2 ^ 64 → length (decimal n) ≤ 20
digits_few n low = length-decimal-le 20 n (omega arith) (omega (arith, low)) low

-- so the line of its start isn't too long
pub start_short : (allowance low high : ℕ) (t : Term) → allowance < 2 ^ 64 → low < 2 ^ 64 → high < 2 ^ 64 → length (print t) + 69 ≤ MOST_LINE_BYTES → length (start_line allowance low high t) ≤ MOST_LINE_BYTES
start_short allowance low high t a l h few = simp length-append (omega (arith, few, digits_few allowance a, digits_few low l, digits_few high h))

-- nor is that of its answer
pub answer_short : (n report : ℕ) (t : Term) → n < 2 ^ 64 → report < 2 ^ 64 → length (print t) + 69 ≤ MOST_LINE_BYTES → length (answer_line n report t) ≤ MOST_LINE_BYTES
answer_short n report t a l few = simp length-append (omega (arith, few, digits_few n a, digits_few report l))
