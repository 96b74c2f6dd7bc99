-- The lines of entries read back.
use Rattle.std.specs.Prelude.{◌≡◌, ℕ, ◌+◌, ◌*◌, ◌-◌, ◌/◌, ◌%◌, ◌≤◌, ◌<◌, nat_le, nat_lt, ◌&&◌, Bool, true, false, if◌then◌else◌, List, [], ◌∷◌, ◌++◌, length, codes, decimal, Option, Some, None, option_map, option_and_then}
use Rattle.std.specs.List.{list_all}
use Rattle.std.proofs.Common.{refl, ap, ap₂, ◌∙◌, arith, inl, inr}
use Rattle.std.proofs.lemmas.Bool.{and_parts, and_from, or_left, or_right, le-leb, lt-leb, lt-ltb, le-ltb, ltb-true, cases_lt}
use Rattle.std.proofs.lemmas.List.{append_assoc, length-append}
use Rattle.std.proofs.lemmas.Option.{none-some, same_Some}
use Rattle.kl1_model.specs.declared.limits.TheConstants.{NUMBER_LIMIT, MOST_LINE_BYTES, MOST_DEPTH}
use Rattle.kl1_model.specs.declared.message.Message.{Message}
use Rattle.kl1_model.specs.declared.message.Message.TheVariants.{Stop, Start, Abort, Allow}
use Rattle.kl1_model.specs.Term.{Term}
use Rattle.kl1_model.specs.Text.{is_name_byte}
use Rattle.kl1_model.specs.Meaning.{depth, is_narrow, is_writable, is_numbered, highest}
use Rattle.kl1_model.specs.Goal.{is_goal}
use Rattle.kl1_model.specs.Print.{print}
use Rattle.kl1_model.specs.Token.{is_digit}
use Rattle.kl1_model.specs.Line.{before_space, behind_space, number_in}
use Rattle.kl1_model.specs.Module.{Reading, good, bad, read_goal}
use Rattle.kl1_model.specs.declared.rules.Rules.{Rules}
use Rattle.kl1_model.specs.State.{has_told, has_forgetting}
use Rattle.kl1_model.specs.Telling.{read_told_goal, is_told_term, read_answer}
use Rattle.kl1_model.specs.Answering.{is_numbered_by}
use Rattle.kl1_model.specs.Event.{is_number}
use Rattle.kl1_model.specs.Sending.{is_message, may_send}
use Rattle.kl1_model.specs.laws.ReadLaws.{is_printable}
use Rattle.kl1_model_server.specs.Journal.{Entry, loads, starts, sends, steps, answers, forgets, runs}
use Rattle.kl1_model_server.specs.JournalText.{hex_digit, is_hex_digit, hex_text, hex_value, hex_bytes, entry_line, of_two, if_good, start_in, answer_in, run_of, entry_by, exactly}
use Rattle.kl1_model_server.specs.laws.TextLaws.{AreBytes, HasLine, EntriesReadBack, StrictLinesAreEntries}
use Rattle.kl1_model_server.proofs.ReadBack.{printed_goals_read_back}
use Rattle.kl1_model_server.proofs.ToldBack.{told_few, told_goals_read_back}
use Rattle.kl1_model_server.proofs.ReadPlain.{prints_are_plain}
use Rattle.kl1_model_server.proofs.Exactly.{exactly_back, exactly_strict}
use Rattle.kl1_model_server.proofs.Words.{few_digits, number_back, before_front, behind_front, decimal_no_space, highest_fits}

two_back : (make : ℕ → ℕ → Entry) (a b : ℕ) → a < NUMBER_LIMIT → b < NUMBER_LIMIT → of_two make (decimal a ++ 32 ∷ decimal b) ≡ Some (make a b)
two_back make a b p q =
    rw (before_front (decimal a) (decimal b) (decimal_no_space a p), behind_front (decimal a) (decimal b) (decimal_no_space a p), number_back a p, number_back b q) refl

digit_back : (d : ℕ) → d < 16 → hex_value (hex_digit d) ≡ d
digit_back d small = elim (cases_lt d 10) [
  | inl less ↦ rw (lt-ltb d 10 less, le-leb (48 + d) 57 (omega (arith, less))) (let e : 48 + d - 48 ≡ d = omega arith in e)
  | inr more ↦ rw (le-ltb d 10 more, lt-leb (87 + d) 57 (omega (arith, more))) (let e : 87 + d - 87 ≡ d = omega arith in e)
]

byte_back : (b : ℕ) → b < 256 → 16 * hex_value (hex_digit (b / 16)) + hex_value (hex_digit (b % 16)) ≡ b
byte_back b small = rw (digit_back (b / 16) (omega arith), digit_back (b % 16) (omega arith)) (let e : 16 * (b / 16) + b % 16 ≡ b = omega arith in e)

-- a digit of a byte is a hexadecimal digit
is_hex : (d : ℕ) → d < 16 → is_hex_digit (hex_digit d) ≡ true
is_hex d small = elim (cases_lt d 10) [
  | inl less ↦ rw (lt-ltb d 10 less) (or_left (is_digit (48 + d)) (nat_le 97 (48 + d) && nat_le (48 + d) 102) (and_from (nat_le 48 (48 + d)) (nat_le (48 + d) 57) (le-leb 48 (48 + d) (omega arith)) (le-leb (48 + d) 57 (omega (arith, less)))))
  | inr more ↦ rw (le-ltb d 10 more) (or_right (is_digit (87 + d)) (nat_le 97 (87 + d) && nat_le (87 + d) 102) (and_from (nat_le 97 (87 + d)) (nat_le (87 + d) 102) (le-leb 97 (87 + d) (omega (arith, more))) (le-leb (87 + d) 102 (omega (arith, small)))))
]

hex_digits : (bs : List ℕ) → AreBytes bs → list_all is_hex_digit (hex_text bs) ≡ true
hex_digits [] a = refl
hex_digits (b ∷ bs) a =
    let low = hex_digit (b % 16) in
    and_from (is_hex_digit (hex_digit (b / 16))) (list_all is_hex_digit (low ∷ hex_text bs)) (is_hex (b / 16) (let h = a.0 in omega (arith, h)))
    (and_from (is_hex_digit low) (list_all is_hex_digit (hex_text bs)) (is_hex (b % 16) (omega arith)) (hex_digits bs a.1))

hex_back : (bs : List ℕ) → AreBytes bs → hex_bytes (hex_text bs) ≡ bs
hex_back [] a = refl
hex_back (b ∷ bs) a = ap₂ (λ (x : ℕ) (xs : List ℕ). x ∷ xs) (byte_back b a.0) (hex_back bs a.1)

-- the facts of a start
pub record Starts (allowance low high : ℕ) (t : Term) : Type 0 where
  pub first : allowance < NUMBER_LIMIT
  pub second : low < NUMBER_LIMIT
  pub third : high < NUMBER_LIMIT
  pub goal : is_goal t ≡ true
  pub printable : is_printable t ≡ true
  pub plain : list_all is_name_byte (print t) ≡ true

-- a goal that reads back
record Printable (t : Term) : Type 0 where
  back : is_printable t ≡ true
  plain : list_all is_name_byte (print t) ≡ true

-- a goal that ends a line that isn't too long
printable_here : (front : List ℕ) (t : Term) → is_writable t ≡ true → is_numbered t ≡ true → length (front ++ print t) ≤ MOST_LINE_BYTES → Printable t
printable_here front t writable numbered short =
    let few : highest t < NUMBER_LIMIT = omega (arith, highest_fits t numbered, length-append front (print t)) in
    record {
      back = and_from (is_writable t && is_numbered t) (nat_lt (highest t) NUMBER_LIMIT) (and_from (is_writable t) (is_numbered t) writable numbered) (lt-ltb (highest t) NUMBER_LIMIT few);
      plain = prints_are_plain t (and_parts (is_narrow t) (nat_le (depth t) MOST_DEPTH) writable).0 few;
    }

-- what a start's line has before its goal
abbrev start_front : ℕ → ℕ → ℕ → List ℕ
start_front allowance low high = codes "start " ++ decimal allowance ++ codes " " ++ decimal low ++ codes " " ++ decimal high ++ codes " "

-- a start that has a line
pub starts_here : (rules : Rules) (allowance low high : ℕ) (t : Term) → HasLine rules (starts allowance low high t) → Starts allowance low high t
starts_here rules allowance low high t h = record {
  first = h.0;
  second = h.1;
  third = h.2;
  goal = h.3;
  printable = (printable_here (start_front allowance low high) t h.4 h.5 h.6).back;
  plain = (printable_here (start_front allowance low high) t h.4 h.5 h.6).plain;
}

-- the facts of an answer
pub record Answers (rules : Rules) (n report : ℕ) (t : Term) : Type 0 where
  pub first : n < NUMBER_LIMIT
  pub second : report < NUMBER_LIMIT
  pub goal : is_goal t ≡ true
  pub writable : is_writable t ≡ true
  pub numbered : is_numbered_by rules t ≡ true
  pub few : highest t < NUMBER_LIMIT
  pub plain : list_all is_name_byte (print t) ≡ true

-- what an answer's line has before its goal
abbrev answer_front : ℕ → ℕ → List ℕ
answer_front n report = codes "answer " ++ decimal n ++ codes " " ++ decimal report ++ codes " "

-- an answer that has a line
answer_few : (c : Bool) (front : List ℕ) (t : Term) → (if c then is_told_term t else is_numbered t) ≡ true → length (front ++ print t) ≤ MOST_LINE_BYTES → highest t < NUMBER_LIMIT
answer_few true front t numbered short = told_few t numbered
answer_few false front t numbered short = omega (arith, highest_fits t numbered, length-append front (print t))

pub answers_here : (rules : Rules) (n report : ℕ) (t : Term) → HasLine rules (answers n report t) → Answers rules n report t
answers_here rules n report t h =
    let few = answer_few (has_told rules) (answer_front n report) t h.4 h.5 in
    record {
      first = h.0;
      second = h.1;
      goal = h.2;
      writable = h.3;
      numbered = h.4;
      few = few;
      plain = prints_are_plain t (and_parts (is_narrow t) (nat_le (depth t) MOST_DEPTH) h.3).0 few;
    }

-- what was read as good
pub is_read : {A : Type 0} (r : Reading A) (a : A) → if_good r ≡ Some a → r ≡ good a
is_read (good b) a h = ap (λ x. good x) (same_Some b a h)
is_read (bad line) a h = absurd (none-some a h)

by_parts : (x y z : Option ℕ) (o : Option Term) (a l h : ℕ) (t : Term) → x ≡ Some a → y ≡ Some l → z ≡ Some h → o ≡ Some t →
    option_and_then (λ a. option_and_then (λ l. option_and_then (λ h. option_map (starts a l h) o) z) y) x ≡ Some (starts a l h t)
by_parts x y z o a l h t p q u e = rw (p, q, u, e) refl

-- a start by its numbers and its goal
start_back : (allowance low high : ℕ) (t : Term) → Starts allowance low high t → start_in (decimal allowance ++ 32 ∷ (decimal low ++ 32 ∷ (decimal high ++ 32 ∷ print t))) ≡ Some (starts allowance low high t)
start_back allowance low high t s =
    let last = print t in
    let c = decimal high ++ 32 ∷ last in
    let b = decimal low ++ 32 ∷ c in
    let rest = decimal allowance ++ 32 ∷ b in
    let is_b : behind_space rest ≡ b = behind_front (decimal allowance) b (decimal_no_space allowance s.first) in
    let is_c : behind_space (behind_space rest) ≡ c = ap behind_space is_b ∙ behind_front (decimal low) c (decimal_no_space low s.second) in
    let is_last : behind_space (behind_space (behind_space rest)) ≡ last = ap behind_space is_c ∙ behind_front (decimal high) last (decimal_no_space high s.third) in
    by_parts (number_in (before_space rest)) (number_in (before_space (behind_space rest))) (number_in (before_space (behind_space (behind_space rest)))) (if_good (read_goal (behind_space (behind_space (behind_space rest))))) allowance low high t
    (ap number_in (before_front (decimal allowance) b (decimal_no_space allowance s.first)) ∙ number_back allowance s.first)
    (ap (λ x. number_in (before_space x)) is_b ∙ ap number_in (before_front (decimal low) c (decimal_no_space low s.second)) ∙ number_back low s.second)
    (ap (λ x. number_in (before_space x)) is_c ∙ ap number_in (before_front (decimal high) last (decimal_no_space high s.third)) ∙ number_back high s.third)
    (ap if_good (ap read_goal is_last ∙ printed_goals_read_back t s.printable s.goal))

by_two : (x y : Option ℕ) (o : Option Term) (n report : ℕ) (t : Term) → x ≡ Some n → y ≡ Some report → o ≡ Some t → option_and_then (λ n. option_and_then (λ report. option_map (answers n report) o) y) x ≡ Some (answers n report t)
by_two x y o n report t p q e = rw (p, q, e) refl

-- a printed goal of an answer reads back
answer_reads : (c : Bool) (t : Term) → is_writable t ≡ true → (if c then is_told_term t else is_numbered t) ≡ true → is_goal t ≡ true → highest t < NUMBER_LIMIT → (if c then read_told_goal (print t) else read_goal (print t)) ≡ good t
answer_reads true t writable numbered goal few = told_goals_read_back t writable numbered goal
answer_reads false t writable numbered goal few =
    printed_goals_read_back t (and_from (is_writable t && is_numbered t) (nat_lt (highest t) NUMBER_LIMIT) (and_from (is_writable t) (is_numbered t) writable numbered) (lt-ltb (highest t) NUMBER_LIMIT few)) goal

-- an answer by its numbers and its goal
answer_back : (rules : Rules) (n report : ℕ) (t : Term) → Answers rules n report t → answer_in rules (decimal n ++ 32 ∷ (decimal report ++ 32 ∷ print t)) ≡ Some (answers n report t)
answer_back rules n report t s =
    let last = print t in
    let b = decimal report ++ 32 ∷ last in
    let rest = decimal n ++ 32 ∷ b in
    let is_b : behind_space rest ≡ b = behind_front (decimal n) b (decimal_no_space n s.first) in
    let is_last : behind_space (behind_space rest) ≡ last = ap behind_space is_b ∙ behind_front (decimal report) last (decimal_no_space report s.second) in
    by_two (number_in (before_space rest)) (number_in (before_space (behind_space rest))) (if_good (read_answer rules (behind_space (behind_space rest)))) n report t
    (ap number_in (before_front (decimal n) b (decimal_no_space n s.first)) ∙ number_back n s.first)
    (ap (λ x. number_in (before_space x)) is_b ∙ ap number_in (before_front (decimal report) last (decimal_no_space report s.second)) ∙ number_back report s.second)
    (ap if_good (ap (read_answer rules) is_last ∙ answer_reads (has_told rules) t s.writable s.numbered s.goal s.few))

three_parts : (a b p : List ℕ) → a ++ 32 ∷ [] ++ b ++ 32 ∷ [] ++ p ≡ a ++ 32 ∷ (b ++ 32 ∷ p)
three_parts a b p = simp append_assoc refl

four_parts : (a l h p : List ℕ) → a ++ 32 ∷ [] ++ l ++ 32 ∷ [] ++ h ++ 32 ∷ [] ++ p ≡ a ++ 32 ∷ (l ++ 32 ∷ (h ++ 32 ∷ p))
four_parts a l h p = simp append_assoc refl

two_parts : (a b : List ℕ) → a ++ 32 ∷ [] ++ b ≡ a ++ 32 ∷ b
two_parts a b = append_assoc a (32 ∷ []) b

-- the number of a message's shoen
pub sent_number : (n : ℕ) (m : Message) → may_send n m ≡ true → n < NUMBER_LIMIT
sent_number n m h = ltb-true n NUMBER_LIMIT (and_parts (is_number n) (is_message m) h).0

-- how much more a message allows
pub sent_more : (n k : ℕ) → may_send n (Allow k) ≡ true → k < NUMBER_LIMIT
sent_more n k h = ltb-true k NUMBER_LIMIT (and_parts (is_number n) (is_number k) h).1

-- the entry that a line may be, by its words
abbrev parsed : Rules → List ℕ → Option Entry
parsed rules line = entry_by rules (before_space line) (behind_space line)

-- a letting go, by rules that have it
forget_if : (c : Bool) (x y : Option Entry) → c ≡ true → (if c then x else y) ≡ x
forget_if true x y e = refl
forget_if false x y e = absurd (cc)

-- the entry by the words of its line
by_back : (rules : Rules) (e : Entry) → HasLine rules e → entry_by rules (before_space (entry_line e)) (behind_space (entry_line e)) ≡ Some e
by_back rules (loads text) h = rw (hex_digits text h.0) (ap (λ bs. Some (loads bs)) (hex_back text h.0))
by_back rules (starts allowance low high t) h = ap start_in (four_parts (decimal allowance) (decimal low) (decimal high) (print t)) ∙ start_back allowance low high t (starts_here rules allowance low high t h)
by_back rules (sends n Stop) h = ap (option_map (λ k. sends k Stop)) (number_back n (sent_number n Stop h))
by_back rules (sends n Start) h = ap (option_map (λ k. sends k Start)) (number_back n (sent_number n Start h))
by_back rules (sends n Abort) h = ap (option_map (λ k. sends k Abort)) (number_back n (sent_number n Abort h))
by_back rules (sends n (Allow k)) h = ap (of_two (λ n k. sends n (Allow k))) (two_parts (decimal n) (decimal k)) ∙ two_back (λ n k. sends n (Allow k)) n k (sent_number n (Allow k) h) (sent_more n k h)
by_back rules (answers n report t) h = ap (answer_in rules) (three_parts (decimal n) (decimal report) (print t)) ∙ answer_back rules n report t (answers_here rules n report t h)
by_back rules (forgets n count) h =
    forget_if (has_forgetting rules) (of_two forgets (decimal n ++ 32 ∷ [] ++ decimal count)) None h.0 ∙ ap (of_two forgets) (two_parts (decimal n) (decimal count)) ∙ two_back forgets n count h.1 h.2
by_back rules (runs n) h = ap (option_and_then run_of) (number_back n h.1) ∙ ap (λ x. if◌then◌else◌ {A = Option Entry} x (Some (runs n)) None) (le-leb 1 n h.0)
by_back rules (steps goal clause) h = ap (of_two steps) (two_parts (decimal goal) (decimal clause)) ∙ two_back steps goal clause h.0 h.1

-- two digits each
pub length_hex : (bs : List ℕ) → length (hex_text bs) ≡ 2 * length bs
length_hex [] = refl
length_hex (b ∷ bs) = omega (arith, length_hex bs)

length_two : (a b : ℕ) → a < NUMBER_LIMIT → b < NUMBER_LIMIT → length (decimal a ++ codes " " ++ decimal b) ≤ 39
length_two a b p q = omega (arith, length-append (decimal a ++ codes " ") (decimal b), length-append (decimal a) (codes " "), few_digits a p, few_digits b q)

-- the line of an entry isn't too long
fits : (rules : Rules) (e : Entry) → HasLine rules e → length (entry_line e) ≤ MOST_LINE_BYTES
fits rules (loads text) h = h.1
fits rules (starts allowance low high t) h = h.6
fits rules (sends n Stop) h = omega (arith, few_digits n (sent_number n Stop h))
fits rules (sends n Start) h = omega (arith, few_digits n (sent_number n Start h))
fits rules (sends n Abort) h = omega (arith, few_digits n (sent_number n Abort h))
fits rules (sends n (Allow k)) h = omega (arith, length_two n k (sent_number n (Allow k) h) (sent_more n k h))
fits rules (answers n report t) h = h.5
fits rules (forgets n count) h = omega (arith, length_two n count h.1 h.2)
fits rules (runs n) h = omega (arith, few_digits n h.1)
fits rules (steps goal clause) h = omega (arith, length_two goal clause h.0 h.1)

pub entries_read_back : EntriesReadBack
entries_read_back rules e h =
    let line = entry_line e in
    ap (λ x. if◌then◌else◌ {A = Option Entry} x (exactly entry_line (parsed rules) line) None) (le-leb (length line) MOST_LINE_BYTES (fits rules e h))
    ∙ exactly_back entry_line (parsed rules) e (by_back rules e h)

strict_short : (rules : Rules) (b : Bool) (line : List ℕ) (e : Entry) → if◌then◌else◌ {A = Option Entry} b (exactly entry_line (parsed rules) line) None ≡ Some e → entry_line e ≡ line
strict_short rules true line e h = (exactly_strict entry_line (parsed rules) line e h).1
strict_short rules false line e h = absurd (none-some e h)

pub strict_lines_are_entries : StrictLinesAreEntries
strict_lines_are_entries rules line e h = strict_short rules (nat_le (length line) MOST_LINE_BYTES) line e h
