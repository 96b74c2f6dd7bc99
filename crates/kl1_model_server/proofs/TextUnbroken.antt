-- No line of a journal has a line feed.
use Rattle.std.specs.Prelude.{◌≡◌, ℕ, ◌+◌, ◌/◌, ◌%◌, ◌≤◌, ◌<◌, ◌==◌, nat_le, nat_lt, not, Bool, true, false, if◌then◌else◌, List, [], ◌∷◌, ◌++◌, codes, bytes_eq, decimal}
use Rattle.std.specs.List.{list_all}
use Rattle.std.proofs.Common.{refl, sym, ap, ◌∙◌, arith}
use Rattle.std.proofs.lemmas.Bool.{and_parts, and_from, leb-true, ne_eqb, not_from_false}
use Rattle.std.proofs.lemmas.List.Folds.{list_all-append}
use Rattle.std.proofs.lemmas.Slice.Eq.{bytes_eq-Decides}
use Rattle.kl1_model.specs.declared.rules.Rules.{Rules}
use Rattle.kl1_model.specs.declared.rules.Rules.TheVariants.{One, Two, Three, Four, Five}
use Rattle.kl1_model.specs.declared.limits.TheConstants.{NUMBER_LIMIT}
use Rattle.kl1_model.specs.declared.message.Message.TheVariants.{Stop, Start, Abort, Allow}
use Rattle.kl1_model.specs.Text.{is_name_byte, is_text}
use Rattle.kl1_model.specs.Name.{atom_text}
use Rattle.kl1_model.specs.Token.{is_digit}
use Rattle.kl1_model.specs.Term.{Term, atom}
use Rattle.kl1_model.specs.Print.{Printed, plain, print}
use Rattle.kl1_model_server.specs.Journal.{Entry, loads, starts, sends, steps, answers, forgets, runs}
use Rattle.kl1_model_server.specs.JournalText.{hex_digit, hex_text, entry_line, name_line, heading_line}
use Rattle.kl1_model_server.specs.laws.TextLaws.{HasLine, is_unbroken}
use Rattle.kl1_model_server.proofs.LexWords.{decimal_writes}
use Rattle.kl1_model_server.proofs.ReadPlain.{prints_are_plain}
use Rattle.kl1_model_server.proofs.TextEntries.{Starts, starts_here, Answers, answers_here, sent_number, sent_more}

-- bytes without a line feed
abbrev IsUnbroken : List ℕ → Type 0
IsUnbroken bs = is_unbroken bs ≡ true

both_unbroken : (a b : List ℕ) → IsUnbroken a → IsUnbroken b → IsUnbroken (a ++ b)
both_unbroken a b h j = list_all-append (λ b. not (b == 10)) a b ∙ and_from (is_unbroken a) (is_unbroken b) h j

-- a byte that isn't too small is no line feed
large : (b : ℕ) → 11 ≤ b → not (b == 10) ≡ true
large b h = not_from_false (b == 10) (ne_eqb b 10 (λ e. omega (arith, e, h)))

digit_unbroken : (b : ℕ) → is_digit b ≡ true → not (b == 10) ≡ true
digit_unbroken b h = let least = leb-true 48 b (and_parts (nat_le 48 b) (nat_le b 57) h).0 in large b (omega arith)

name_byte_unbroken : (b : ℕ) → is_name_byte b ≡ true → not (b == 10) ≡ true
name_byte_unbroken b h = let least = leb-true 32 b (and_parts (nat_le 32 b) (nat_le b 126) h).0 in large b (omega arith)

each_unbroken : (test : ℕ → Bool) → ((b : ℕ) → test b ≡ true → not (b == 10) ≡ true) → (bs : List ℕ) → list_all test bs ≡ true → IsUnbroken bs
each_unbroken test none [] h = refl
each_unbroken test none (b ∷ bs) h =
    let both = and_parts (test b) (list_all test bs) h in
    and_from (not (b == 10)) (is_unbroken bs) (none b both.0) (each_unbroken test none bs both.1)

plain_unbroken : (bs : List ℕ) → list_all is_name_byte bs ≡ true → IsUnbroken bs
plain_unbroken bs h = each_unbroken is_name_byte name_byte_unbroken bs h

decimal_unbroken : (n : ℕ) → n < NUMBER_LIMIT → IsUnbroken (decimal n)
decimal_unbroken n small = each_unbroken is_digit digit_unbroken (decimal n) (decimal_writes n (omega arith)).digits

two_unbroken : (a b : ℕ) → a < NUMBER_LIMIT → b < NUMBER_LIMIT → IsUnbroken (decimal a ++ codes " " ++ decimal b)
two_unbroken a b p q =
    both_unbroken (decimal a ++ codes " ") (decimal b) (both_unbroken (decimal a) (codes " ") (decimal_unbroken a p) refl) (decimal_unbroken b q)

hex_by : (x : Bool) (d : ℕ) → not ((if x then 48 + d else 87 + d) == 10) ≡ true
hex_by true d = large (48 + d) (omega arith)
hex_by false d = large (87 + d) (omega arith)

hex_unbroken : (bs : List ℕ) → IsUnbroken (hex_text bs)
hex_unbroken [] = refl
hex_unbroken (b ∷ bs) =
    let low = hex_digit (b % 16) in
    and_from (not (hex_digit (b / 16) == 10)) (is_unbroken (low ∷ hex_text bs)) (hex_by (nat_lt (b / 16) 10) (b / 16))
    (and_from (not (low == 10)) (is_unbroken (hex_text bs)) (hex_by (nat_lt (b % 16) 10) (b % 16)) (hex_unbroken bs))

start_unbroken : (allowance low high : ℕ) (t : Term) → Starts allowance low high t → IsUnbroken (entry_line (starts allowance low high t))
start_unbroken allowance low high t s =
    let numbers = decimal allowance ++ codes " " ++ decimal low in
    let front = numbers ++ codes " " ++ decimal high in
    both_unbroken (front ++ codes " ") (print t)
    (both_unbroken front (codes " ") (both_unbroken (numbers ++ codes " ") (decimal high) (both_unbroken numbers (codes " ") (two_unbroken allowance low s.first s.second) refl) (decimal_unbroken high s.third)) refl)
    (plain_unbroken (print t) s.plain)

answer_unbroken : (rules : Rules) (n report : ℕ) (t : Term) → Answers rules n report t → IsUnbroken (entry_line (answers n report t))
answer_unbroken rules n report t s =
    let numbers = decimal n ++ codes " " ++ decimal report in
    both_unbroken (numbers ++ codes " ") (print t) (both_unbroken numbers (codes " ") (two_unbroken n report s.first s.second) refl) (plain_unbroken (print t) s.plain)

-- the line of an entry has no line feed
pub entry_unbroken : (rules : Rules) (e : Entry) → HasLine rules e → IsUnbroken (entry_line e)
entry_unbroken rules (loads text) h = hex_unbroken text
entry_unbroken rules (starts allowance low high t) h = start_unbroken allowance low high t (starts_here rules allowance low high t h)
entry_unbroken rules (sends n Stop) h = decimal_unbroken n (sent_number n Stop h)
entry_unbroken rules (sends n Start) h = decimal_unbroken n (sent_number n Start h)
entry_unbroken rules (sends n Abort) h = decimal_unbroken n (sent_number n Abort h)
entry_unbroken rules (sends n (Allow k)) h = two_unbroken n k (sent_number n (Allow k) h) (sent_more n k h)
entry_unbroken rules (runs n) h = decimal_unbroken n h.1
entry_unbroken rules (steps goal clause) h = two_unbroken goal clause h.0 h.1
entry_unbroken rules (forgets n count) h = two_unbroken n count h.1 h.2
entry_unbroken rules (answers n report t) h = answer_unbroken rules n report t (answers_here rules n report t h)

atom_printed : (x : Bool) (t : List ℕ) → bytes_eq t (codes "[]") ≡ x → print (atom t) ≡ atom_text t
atom_printed true t is = rw ((bytes_eq-Decides t (codes "[]")).0 is) refl
atom_printed false t is = ap (λ (x : Bool). (if◌then◌else◌ {A = Printed} x (record { whole = codes "[]"; rest = codes "]" }) (plain (atom_text t))).whole) is

-- the line of a name has no line feed
pub name_unbroken : (t : List ℕ) → is_text t ≡ true → IsUnbroken (name_line t)
name_unbroken t h =
    plain_unbroken (atom_text t) (ap (list_all is_name_byte) (sym (atom_printed (bytes_eq t (codes "[]")) t refl)) ∙ prints_are_plain (atom t) h (omega arith))

-- the first line has no line feed
pub first_unbroken : (rules : Rules) (sessions names : ℕ) → sessions < NUMBER_LIMIT → names < NUMBER_LIMIT → IsUnbroken (heading_line rules sessions names)
first_unbroken One sessions names p q = two_unbroken sessions names p q
first_unbroken Two sessions names p q = two_unbroken sessions names p q
first_unbroken Three sessions names p q = two_unbroken sessions names p q
first_unbroken Four sessions names p q = two_unbroken sessions names p q
first_unbroken Five sessions names p q = two_unbroken sessions names p q
