-- The entry whose line a line is.
use Rattle.std.proofs.Common.{◌≡◌, ℕ, suc, ◌<◌, ◌≤◌, ◌+◌, ◌*◌, ◌==◌, ◌&&◌, ◌⊎◌, inl, inr, Bool, true, false, if◌then◌else◌, List, [], ◌∷◌, length, codes, bytes_eq, refl, sym, ap, subst, ◌∙◌, arith}
use Rattle.std.specs.Prelude.{nat_le, nat_lt, Option, Some, None, is_some, option_map, option_and_then}
use Rattle.std.specs.List.{list_all}
use Rattle.std.proofs.lemmas.Bool.{and_from, and_parts, le-leb}
use Rattle.std.proofs.lemmas.Option.{option_and_then_some, same_Some}
use Rattle.std.proofs.lemmas.Slice.Eq.{bytes_eq-Decides}
use Rattle.kl1_model.specs.declared.limits.TheConstants.{NUMBER_LIMIT, MOST_DIGITS, MOST_LINE_BYTES}
use Rattle.kl1_model.specs.declared.message.Message.{Message}
use Rattle.kl1_model.specs.declared.message.Message.TheVariants.{Stop, Start, Abort, Allow}
use Rattle.kl1_model.specs.Term.{Term}
use Rattle.kl1_model.specs.Goal.{is_goal}
use Rattle.kl1_model.specs.Meaning.{highest, is_writable, is_numbered}
use Rattle.kl1_model.specs.Token.{is_digit, number_of}
use Rattle.kl1_model.specs.Line.{before_space, behind_space, number_in}
use Rattle.kl1_model.specs.declared.rules.Rules.{Rules}
use Rattle.kl1_model.specs.State.{has_forgetting}
use Rattle.kl1_model.specs.Event.{is_number}
use Rattle.kl1_model.specs.Module.{read_goal}
use Rattle.kl1_model.specs.Opening.{start_line}
use Rattle.kl1_model.specs.Sending.{may_send}
use Rattle.kl1_model.specs.Telling.{read_answer}
use Rattle.kl1_model.specs.Answering.{answer_line, is_numbered_by}
use Rattle.kl1_model_server.specs.Journal.{Entry, loads, starts, sends, steps, answers, forgets, runs}
use Rattle.kl1_model_server.specs.JournalText.{is_hex_digit, hex_bytes, load_in, of_two, if_good, start_in, answer_in, run_of, entry_by, entry_line, entry_in}
use Rattle.kl1_model_server.proofs.ReadStrict.{goals_read_are_printable}
use Rattle.kl1_model_server.proofs.TextEntries.{length_hex, is_read}
use Rattle.kl1_journal_entries.specs.Lined.{is_lined, if_lined}
use Rattle.kl1_journal_entries.specs.Reading.{is_line_of}
use Rattle.kl1_journal_entries.proofs.Sound.{if_true, if_false}
use Rattle.kl1_journal_entries.proofs.ToldRead.{answers_read}

-- ---- an entry that is read is lined

either : (b : Bool) (x y : Option Entry) (e : Entry) → (if b then x else y) ≡ Some e → (x ≡ Some e) ⊎ (y ≡ Some e)
either true x y e h = inl h
either false x y e h = inr h

either_of : (b : Bool) (x y : Option Entry) (e : Entry) → (if b then x else y) ≡ Some e → ((b ≡ true) × (x ≡ Some e)) ⊎ (y ≡ Some e)
either_of true x y e h = inl (refl, h)
either_of false x y e h = inr h

map_some : {A B : Type 0} {P : Type 0} (f : A → B) (o : Option A) (y : B) → option_map f o ≡ Some y → ((x : A) → o ≡ Some x → f x ≡ y → P) → P
map_some f None y h go = absurd (let e : ⊥ = cc in e)
map_some f (Some x) y h go = go x refl (same_Some (f x) y h)

number_by : (b : Bool) (m n : ℕ) → (if b then Some m else None) ≡ Some n → (b ≡ true) × (m ≡ n)
number_by true m n h = (refl, same_Some m n h)
number_by false m n h = absurd (let e : ⊥ = cc in e)

-- a number that is read may stand in a line
number_read : (w : List ℕ) (n : ℕ) → number_in w ≡ Some n → is_number n ≡ true
number_read w n h =
    let both = number_by (nat_le 1 (length w) && nat_le (length w) MOST_DIGITS && list_all is_digit w && nat_lt (number_of w) NUMBER_LIMIT) (number_of w) n h in
    let last = and_parts (nat_le 1 (length w) && nat_le (length w) MOST_DIGITS && list_all is_digit w) (nat_lt (number_of w) NUMBER_LIMIT) both.0 in
    ap is_number (sym both.1) ∙ last.1

two_lined : (rules : Rules) (make : ℕ → ℕ → Entry) → ((a b : ℕ) → is_number a ≡ true → is_number b ≡ true → is_lined rules (make a b) ≡ true) → (rest : List ℕ) (e : Entry) → of_two make rest ≡ Some e → is_lined rules e ≡ true
two_lined rules make lined rest e h =
    option_and_then_some (λ a. option_map (make a) (number_in (behind_space rest))) (number_in (before_space rest)) e h
    (λ a first more. map_some (make a) (number_in (behind_space rest)) e more (λ b second is. ap (is_lined rules) (sym is) ∙ lined a b (number_read (before_space rest) a first) (number_read (behind_space rest) b second)))

one_lined : (rules : Rules) (make : ℕ → Entry) → ((a : ℕ) → is_number a ≡ true → is_lined rules (make a) ≡ true) → (rest : List ℕ) (e : Entry) → option_map make (number_in rest) ≡ Some e → is_lined rules e ≡ true
one_lined rules make lined rest e h = map_some make (number_in rest) e h (λ a first is. ap (is_lined rules) (sym is) ∙ lined a (number_read rest a first))

-- a load whose line isn't too long
load_by : (b : Bool) (text : List ℕ) (e : Entry) → (if b then Some (loads text) else None) ≡ Some e → loads text ≡ e
load_by true text e h = same_Some (loads text) e h
load_by false text e h = absurd (let e : ⊥ = cc in e)

load_lined : (rules : Rules) (rest : List ℕ) (e : Entry) → load_in rest ≡ Some e → length (entry_line e) ≤ MOST_LINE_BYTES → is_lined rules e ≡ true
load_lined rules rest e h few =
    let text = hex_bytes rest in
    let is : loads text ≡ e = load_by (list_all is_hex_digit rest) text e h in
    let short : length (entry_line (loads text)) ≤ MOST_LINE_BYTES = subst (λ (d : Entry). length (entry_line d) ≤ MOST_LINE_BYTES) (sym is) few in
    ap (is_lined rules) (sym is) ∙ le-leb (5 + 2 * length text) MOST_LINE_BYTES (omega (arith, short, length_hex text))

start_from : (rules : Rules) (a l h : ℕ) (t : Term) → is_number a ≡ true → is_number l ≡ true → is_number h ≡ true → is_goal t ≡ true → is_writable t && is_numbered t && nat_lt (highest t) NUMBER_LIMIT ≡ true → length (start_line a l h t) ≤ MOST_LINE_BYTES → is_lined rules (starts a l h t) ≡ true
start_from rules a l h t p q r goal printable few =
    let parts = and_parts (is_writable t) (is_numbered t) (and_parts (is_writable t && is_numbered t) (nat_lt (highest t) NUMBER_LIMIT) printable).0 in
    and_from (is_number a && is_number l && is_number h && is_goal t && is_writable t && is_numbered t) (nat_le (length (start_line a l h t)) MOST_LINE_BYTES)
    (and_from (is_number a && is_number l && is_number h && is_goal t && is_writable t) (is_numbered t)
    (and_from (is_number a && is_number l && is_number h && is_goal t) (is_writable t)
    (and_from (is_number a && is_number l && is_number h) (is_goal t) (and_from (is_number a && is_number l) (is_number h) (and_from (is_number a) (is_number l) p q) r) goal) parts.0) parts.1)
    (le-leb (length (start_line a l h t)) MOST_LINE_BYTES few)

behind_by : (b : Bool) (bs : List ℕ) → length (behind_space bs) ≤ length bs → length {A = ℕ} (elim b [ true ↦ bs | false ↦ behind_space bs ]) ≤ suc (length bs)
behind_by true bs less = omega arith
behind_by false bs less = omega (arith, less)

behind_short : (bs : List ℕ) → length (behind_space bs) ≤ length bs
behind_short [] = omega arith
behind_short (b ∷ bs) = behind_by (b == 32) bs (behind_short bs)

start_lined : (rules : Rules) (rest : List ℕ) (e : Entry) → start_in rest ≡ Some e → length rest ≤ MOST_LINE_BYTES → length (entry_line e) ≤ MOST_LINE_BYTES → is_lined rules e ≡ true
start_lined rules rest e h small few =
    let b = behind_space rest in
    let c = behind_space b in
    let text = behind_space c in
    let less : length text < NUMBER_LIMIT = omega (arith, small, behind_short rest, behind_short b, behind_short c) in
    option_and_then_some (λ a. option_and_then (λ low. option_and_then (λ high. option_map (starts a low high) (if_good (read_goal text))) (number_in (before_space c))) (number_in (before_space b))) (number_in (before_space rest)) e h
    (λ a first m. option_and_then_some (λ low. option_and_then (λ high. option_map (starts a low high) (if_good (read_goal text))) (number_in (before_space c))) (number_in (before_space b)) e m
    (λ low second n. option_and_then_some (λ high. option_map (starts a low high) (if_good (read_goal text))) (number_in (before_space c)) e n
    (λ high third o. map_some (starts a low high) (if_good (read_goal text)) e o
    (λ t read is.
    let facts = goals_read_are_printable text t less (is_read (read_goal text) t read) in
    ap (is_lined rules) (sym is) ∙ start_from rules a low high t (number_read (before_space rest) a first) (number_read (before_space b) low second) (number_read (before_space c) high third) facts.1 facts.0 (subst (λ (d : Entry). length (entry_line d) ≤ MOST_LINE_BYTES) (sym is) few)))))

answer_from : (rules : Rules) (n report : ℕ) (t : Term) → is_number n ≡ true → is_number report ≡ true → is_goal t ≡ true → is_writable t ≡ true → is_numbered_by rules t ≡ true → length (answer_line n report t) ≤ MOST_LINE_BYTES → is_lined rules (answers n report t) ≡ true
answer_from rules n report t p q goal writable numbered few =
    and_from (is_number n && is_number report && is_goal t && is_writable t && is_numbered_by rules t) (nat_le (length (answer_line n report t)) MOST_LINE_BYTES)
    (and_from (is_number n && is_number report && is_goal t && is_writable t) (is_numbered_by rules t)
    (and_from (is_number n && is_number report && is_goal t) (is_writable t)
    (and_from (is_number n && is_number report) (is_goal t) (and_from (is_number n) (is_number report) p q) goal) writable) numbered)
    (le-leb (length (answer_line n report t)) MOST_LINE_BYTES few)

answer_lined : (rules : Rules) (rest : List ℕ) (e : Entry) → answer_in rules rest ≡ Some e → length rest ≤ MOST_LINE_BYTES → length (entry_line e) ≤ MOST_LINE_BYTES → is_lined rules e ≡ true
answer_lined rules rest e h small few =
    let b = behind_space rest in
    let text = behind_space b in
    let less : length text ≤ MOST_LINE_BYTES = omega (arith, small, behind_short rest, behind_short b) in
    option_and_then_some (λ n. option_and_then (λ report. option_map (answers n report) (if_good (read_answer rules text))) (number_in (before_space b))) (number_in (before_space rest)) e h
    (λ n first m. option_and_then_some (λ report. option_map (answers n report) (if_good (read_answer rules text))) (number_in (before_space b)) e m
    (λ report second o. map_some (answers n report) (if_good (read_answer rules text)) e o
    (λ t read is.
    let facts = answers_read rules text t less (is_read (read_answer rules text) t read) in
    ap (is_lined rules) (sym is)
    ∙ answer_from rules n report t (number_read (before_space rest) n first) (number_read (before_space b) report second) facts.goal facts.writable facts.numbered (subst (λ (d : Entry). length (entry_line d) ≤ MOST_LINE_BYTES) (sym is) few))))

-- what lets go, by rules that have it
forget_lined : (rules : Rules) (rest : List ℕ) (e : Entry) → has_forgetting rules ≡ true → of_two forgets rest ≡ Some e → is_lined rules e ≡ true
forget_lined rules rest e has h =
    two_lined rules forgets (λ a b x y. and_from (has_forgetting rules && is_number a) (is_number b) (and_from (has_forgetting rules) (is_number a) has x) y) rest e h

sent_lined : (rules : Rules) (m : Message) (n : ℕ) → may_send n m ≡ true → is_lined rules (sends n m) ≡ true
sent_lined rules m n h = h

with_true : (b : Bool) → b ≡ true → b && true ≡ true
with_true b h = and_from b true h refl

run_by : (rules : Rules) (b : Bool) (n : ℕ) (e : Entry) → nat_le 1 n ≡ b → is_number n ≡ true → (if b then Some (runs n) else None) ≡ Some e → is_lined rules e ≡ true
run_by rules true n e least number h = ap (is_lined rules) (sym (same_Some (runs n) e h)) ∙ and_from (nat_le 1 n) (is_number n) least number
run_by rules false n e least number h = absurd (let f : ⊥ = cc in f)

run_lined : (rules : Rules) (rest : List ℕ) (e : Entry) → option_and_then run_of (number_in rest) ≡ Some e → is_lined rules e ≡ true
run_lined rules rest e h = option_and_then_some run_of (number_in rest) e h (λ n first is. run_by rules (nat_le 1 n) n e refl (number_read rest n first) is)

-- what is read by the first word of a line is lined, if its own line isn't too long
by_word : (rules : Rules) (w rest : List ℕ) (e : Entry) → entry_by rules w rest ≡ Some e → length rest ≤ MOST_LINE_BYTES → length (entry_line e) ≤ MOST_LINE_BYTES → is_lined rules e ≡ true
by_word rules w rest e h small few =
    elim (either (bytes_eq w (codes "reduce")) _ _ e h) [
      | inl p ↦ two_lined rules steps (λ a b x y. and_from (is_number a) (is_number b) x y) rest e p
      | inr h1 ↦ elim (either (bytes_eq w (codes "load")) _ _ e h1) [
        | inl p ↦ load_lined rules rest e p few
        | inr h2 ↦ elim (either (bytes_eq w (codes "start")) _ _ e h2) [
          | inl p ↦ start_lined rules rest e p small few
          | inr h3 ↦ elim (either (bytes_eq w (codes "answer")) _ _ e h3) [
            | inl p ↦ answer_lined rules rest e p small few
            | inr h4 ↦ elim (either_of (bytes_eq w (codes "forget") && has_forgetting rules) _ _ e h4) [
              | inl p ↦ forget_lined rules rest e (and_parts (bytes_eq w (codes "forget")) (has_forgetting rules) p.0).1 p.1
              | inr h5 ↦ elim (either (bytes_eq w (codes "stop")) _ _ e h5) [
                | inl p ↦ one_lined rules (λ n. sends n Stop) (λ n x. with_true (is_number n) x) rest e p
                | inr h6 ↦ elim (either (bytes_eq w (codes "resume")) _ _ e h6) [
                  | inl p ↦ one_lined rules (λ n. sends n Start) (λ n x. with_true (is_number n) x) rest e p
                  | inr h7 ↦ elim (either (bytes_eq w (codes "abort")) _ _ e h7) [
                    | inl p ↦ one_lined rules (λ n. sends n Abort) (λ n x. with_true (is_number n) x) rest e p
                    | inr h8 ↦ elim (either (bytes_eq w (codes "allow")) _ _ e h8) [
                      | inl p ↦ two_lined rules (λ n k. sends n (Allow k)) (λ a b x y. and_from (is_number a) (is_number b) x y) rest e p
                      | inr h9 ↦ elim (either (bytes_eq w (codes "run")) _ _ e h9) [
                        | inl p ↦ run_lined rules rest e p
                        | inr q ↦ absurd (let f : ⊥ = cc in f)
                      ]
                    ]
                  ]
                ]
              ]
            ]
          ]
        ]
      ]
    ]

-- ---- what is found

-- an entry that is found by what it asks for and what is prepared of it
pub record IsFound (rules : Rules) (line : List ℕ) (d p : Option Entry) : Type 0 where
  pub deed : d ≡ entry_in rules line
  pub entry : Some p ≡ option_map (λ e. Some e) (entry_in rules line)

-- an entry, if this is its line
abbrev if_line : List ℕ → Entry → Option Entry
if_line line e = if bytes_eq (entry_line e) line then Some e else None

short_in : (b : Bool) (o : Option Entry) → b ≡ true → (if b then o else None) ≡ o
short_in true o h = refl
short_in false o h = cc

in_short : (rules : Rules) (line : List ℕ) → length line ≤ MOST_LINE_BYTES → entry_in rules line ≡ option_and_then (if_line line) (entry_by rules (before_space line) (behind_space line))
in_short rules line few = short_in (nat_le (length line) MOST_LINE_BYTES) (option_and_then (if_line line) (entry_by rules (before_space line) (behind_space line))) (le-leb (length line) MOST_LINE_BYTES few)

-- no entry is read of a line that has none by its first word
pub none_found : (rules : Rules) (line : List ℕ) → length line ≤ MOST_LINE_BYTES → None ≡ entry_by rules (before_space line) (behind_space line) → entry_in rules line ≡ None
none_found rules line few h = in_short rules line few ∙ ap (option_and_then (if_line line)) (sym h)

-- what is known of an entry by its line
record Known (line : List ℕ) (e : Entry) (p : Option Entry) : Type 0 where
  same : bytes_eq (entry_line e) line ≡ true
  entry : p ≡ Some e

known_by : (rules : Rules) (x y : Bool) (line : List ℕ) (e : Entry) (p : Option Entry) → is_lined rules e ≡ x → bytes_eq (entry_line e) line ≡ y → p ≡ (if x then Some e else None) → is_line_of p line ≡ true → Known line e p
known_by rules true true line e p lined same is h = record { same = same; entry = is }
known_by rules true false line e p lined same is h = absurd (let f : ⊥ = (let g : is_line_of (Some e) line ≡ true = ap (λ o. is_line_of o line) (sym is) ∙ h in cc) in f)
known_by rules false y line e p lined same is h = absurd (let f : ⊥ = (let g : is_line_of None line ≡ true = ap (λ o. is_line_of o line) (sym is) ∙ h in cc) in f)

unknown_by : (rules : Rules) (x y : Bool) (line : List ℕ) (e : Entry) (p : Option Entry) → is_lined rules e ≡ x → bytes_eq (entry_line e) line ≡ y → (y ≡ true → x ≡ true) → p ≡ (if x then Some e else None) → is_line_of p line ≡ false → bytes_eq (entry_line e) line ≡ false
unknown_by rules x false line e p lined same needs is h = same
unknown_by rules true true line e p lined same needs is h = absurd (let f : ⊥ = (let g : is_line_of (Some e) line ≡ false = ap (λ o. is_line_of o line) (sym is) ∙ h in cc) in f)
unknown_by rules false true line e p lined same needs is h = absurd (let f : ⊥ = (let g = needs refl in cc) in f)

-- an entry whose line this is
pub found : (rules : Rules) (line : List ℕ) (d p : Option Entry) → length line ≤ MOST_LINE_BYTES → d ≡ entry_by rules (before_space line) (behind_space line) → p ≡ option_and_then (if_lined rules) d → is_line_of p line ≡ true → IsFound rules line d p
found rules line None p few is q same = absurd (let f : ⊥ = (let g : is_line_of None line ≡ true = ap (λ o. is_line_of o line) (sym q) ∙ same in cc) in f)
found rules line (Some e) p few is q same =
    let known = known_by rules (is_lined rules e) (bytes_eq (entry_line e) line) line e p refl refl q same in
    let read : entry_in rules line ≡ Some e = in_short rules line few ∙ ap (option_and_then (if_line line)) (sym is) ∙ if_true (bytes_eq (entry_line e) line) e known.same in
    record { deed = sym read; entry = ap (λ (w : Option Entry). Some w) known.entry ∙ ap (option_map (λ (d : Entry). Some d)) (sym read) }

-- a line that isn't that of its entry
pub not_found : (rules : Rules) (line : List ℕ) (d p : Option Entry) → length line ≤ MOST_LINE_BYTES → d ≡ entry_by rules (before_space line) (behind_space line) → p ≡ option_and_then (if_lined rules) d → is_line_of p line ≡ false → entry_in rules line ≡ None
not_found rules line None p few is q other = in_short rules line few ∙ ap (option_and_then (if_line line)) (sym is)
not_found rules line (Some e) p few is q other =
    let small : length (behind_space line) ≤ MOST_LINE_BYTES = omega (arith, few, behind_short line) in
    let needs : bytes_eq (entry_line e) line ≡ true → is_lined rules e ≡ true = λ same. by_word rules (before_space line) (behind_space line) e (sym is) small (subst (λ (bs : List ℕ). length bs ≤ MOST_LINE_BYTES) (sym ((bytes_eq-Decides (entry_line e) line).0 same)) few) in
    let differs = unknown_by rules (is_lined rules e) (bytes_eq (entry_line e) line) line e p refl refl needs q other in
    in_short rules line few ∙ ap (option_and_then (if_line line)) (sym is) ∙ if_false (bytes_eq (entry_line e) line) e differs

-- the word of a run
pub run_word : (rules : Rules) (w rest : List ℕ) → bytes_eq w (codes "run") ≡ true → option_and_then run_of (number_in rest) ≡ entry_by rules w rest
run_word rules w rest is = subst (λ (v : List ℕ). option_and_then run_of (number_in rest) ≡ entry_by rules v rest) (sym ((bytes_eq-Decides w (codes "run")).0 is)) refl

-- what is found as an entry is some if the entry is
pub some_as : {X : Type 0} (h : X → Option Entry) (o : Option X) (p : Option Entry) → option_map h o ≡ option_map (λ (e : Entry). let x : Option Entry = Some e in x) p → is_some o ≡ is_some p
some_as h None None e = refl
some_as h None (Some d) e = absurd (let f : ⊥ = cc in f)
some_as h (Some x) None e = absurd (let f : ⊥ = cc in f)
some_as h (Some x) (Some d) e = refl
