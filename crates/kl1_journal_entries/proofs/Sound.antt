-- What is kept in a journal has lines.
use Rattle.std.proofs.Common.{◌≡◌, ℕ, zero, suc, ◌<◌, ◌+◌, ◌*◌, ◌^◌, ◌&&◌, Bool, true, false, if◌then◌else◌, List, [], ◌∷◌, ◌++◌, map, length, refl, sym, ap, subst, ◌∙◌, arith, get_or, Fits, w8}
use Rattle.std.specs.Prelude.{slice_get, nat_le, nat_lt, decimal, codes, Some, None}
use Rattle.std.specs.List.{AllByRecursion}
use Rattle.std.specs.declared.vec.Vec.{Vec}
use Rattle.std.specs.declared.alloc.Global.{Global}
use Rattle.std.proofs.lemmas.List.{length-append}
use Rattle.std.proofs.lemmas.Bool.{and_from, and_parts, lt-ltb, ltb-true, leb-true}
use Rattle.kl1_model.specs.declared.limits.TheConstants.{NUMBER_LIMIT, MOST_LINE_BYTES}
use Rattle.kl1_model.specs.Term.{Term}
use Rattle.kl1_model.specs.Print.{print}
use Rattle.kl1_model.specs.Goal.{is_goal}
use Rattle.kl1_model.specs.declared.rules.Rules.{Rules}
use Rattle.kl1_model.specs.State.{has_told, has_forgetting}
use Rattle.kl1_model.specs.Meaning.{highest, is_writable, is_numbered}
use Rattle.kl1_model.specs.Telling.{is_told_term}
use Rattle.kl1_model.specs.Event.{is_number}
use Rattle.kl1_model.specs.Module.{read_goal}
use Rattle.kl1_model.specs.Opening.{start_line}
use Rattle.kl1_model.specs.Answering.{answer_line, is_numbered_by}
use Rattle.kl1_model_server.specs.Journal.{Entry, loads, starts, answers, forgets}
use Rattle.kl1_model_server.specs.laws.TextLaws.{AreBytes, HasLine}
use Rattle.kl1_model_server.proofs.ReadBack.{printed_goals_read_back}
use Rattle.kl1_model_server.proofs.ToldBack.{told_goals_read_back}
use Rattle.kl1_model_server.proofs.TextEntries.{starts_here, answers_here, length_hex}
use Rattle.kl1_journal_entries.specs.Lined.{is_lined, if_lined}
use Rattle.kl1_journal_entries.specs.Slots.{goal_or, goal_in, answer_in, kept_at, entry_at, IsPlace, IsSound}
use Rattle.kl1_journal_entries.specs.declared.packed_entry.PackedEntry.{PackedEntry}
use Rattle.kl1_journal_entries.specs.declared.packed_entry.PackedEntry.TheVariants as slot
use Rattle.kl1_journal_entries.specs.declared.long_entry.LongEntry.{LongEntry}
use Rattle.kl1_journal_entries.specs.declared.long_entry.LongEntry.TheVariants as whole

-- what is kept whole at a place has a line
kept_line : (rules : Rules) (ws : List LongEntry) (k : ℕ) → k < length ws → AllByRecursion (IsSound rules) ws → HasLine rules (kept_at (slice_get ws k))
kept_line rules [] k less sound = absurd (omega (arith, less))
kept_line rules (w ∷ ws) zero less sound = sound.0.line
kept_line rules (w ∷ ws) (suc k) less sound = kept_line rules ws k (omega (arith, less)) sound.1

-- a message to a shoen whose number has 32 bits
small_number : (n : ℕ) → n < 2 ^ 32 → is_number n && true ≡ true
small_number n small = and_from (is_number n) true (lt-ltb n NUMBER_LIMIT (omega (arith, small))) refl

-- what stands at a place has a line
slot_line : (rules : Rules) (ws : List LongEntry) (s : PackedEntry) → IsPlace (length ws) s → AllByRecursion (IsSound rules) ws → HasLine rules (entry_at ws s)
slot_line rules ws (slot.Step g c) here sound = (omega (arith, here), omega (arith, here))
slot_line rules ws (slot.Stop n) here sound = small_number n here
slot_line rules ws (slot.Resume n) here sound = small_number n here
slot_line rules ws (slot.Abort n) here sound = small_number n here
slot_line rules ws (slot.Run n) here sound = (here.0, omega (arith, here.1))
slot_line rules ws (slot.Kept k) here sound = kept_line rules ws k here sound

-- each entry of a journal has a line
pub row_lines : (rules : Rules) (ws : List LongEntry) (ss : List PackedEntry) → AllByRecursion (IsPlace (length ws)) ss → AllByRecursion (IsSound rules) ws → AllByRecursion (HasLine rules) (map (entry_at ws) ss)
row_lines rules ws [] here sound = tt
row_lines rules ws (s ∷ ss) here sound = (slot_line rules ws s here.0 sound, row_lines rules ws ss here.1 sound)

-- bytes by their type
pub bytes_fit : (xs : List ℕ) → ((i : ℕ) → Fits w8 (get_or xs i 0)) → AreBytes xs
bytes_fit [] fit = tt
bytes_fit (x ∷ xs) fit = (omega (arith, fit 0), bytes_fit xs (λ i. fit (suc i)))

-- a source whose line isn't too long
pub load_line : (rules : Rules) (text : List ℕ) → is_lined rules (loads text) ≡ true → AreBytes text → HasLine rules (loads text)
load_line rules text lined bytes = (bytes, omega (arith, leb-true (5 + 2 * length text) MOST_LINE_BYTES lined, length_hex text))

-- how long the line of a start is
pub start_length : (allowance low high : ℕ) (t : Term) → length (start_line allowance low high t) ≡ 9 + length (decimal allowance) + length (decimal low) + length (decimal high) + length (print t)
start_length allowance low high t = parts (decimal allowance) (decimal low) (decimal high) (print t)
  where
    parts : (a l h p : List ℕ) → length (codes "start " ++ a ++ codes " " ++ l ++ codes " " ++ h ++ codes " " ++ p) ≡ 9 + length a + length l + length h + length p
    parts a l h p = simp length-append (omega arith)

-- a start that is lined has a line
start_line_here : (rules : Rules) (allowance low high : ℕ) (t : Term) → is_lined rules (starts allowance low high t) ≡ true → HasLine rules (starts allowance low high t)
start_line_here rules allowance low high t lined =
    let a = and_parts (is_number allowance && is_number low && is_number high && is_goal t && is_writable t && is_numbered t) (nat_le (length (start_line allowance low high t)) MOST_LINE_BYTES) lined in
    let b = and_parts (is_number allowance && is_number low && is_number high && is_goal t && is_writable t) (is_numbered t) a.0 in
    let c = and_parts (is_number allowance && is_number low && is_number high && is_goal t) (is_writable t) b.0 in
    let d = and_parts (is_number allowance && is_number low && is_number high) (is_goal t) c.0 in
    let e = and_parts (is_number allowance && is_number low) (is_number high) d.0 in
    let f = and_parts (is_number allowance) (is_number low) e.0 in
    (ltb-true allowance NUMBER_LIMIT f.0, ltb-true low NUMBER_LIMIT f.1, ltb-true high NUMBER_LIMIT e.1, d.1, c.1, b.1, leb-true (length (start_line allowance low high t)) MOST_LINE_BYTES a.1)

-- the goal that the print of a lined start's goal is
pub start_back : (rules : Rules) (allowance low high : ℕ) (t : Term) (text : List ℕ) → text ≡ print t → is_lined rules (starts allowance low high t) ≡ true → goal_in text ≡ t
unfolding goal_in
start_back rules allowance low high t text is lined =
    let here = starts_here rules allowance low high t (start_line_here rules allowance low high t lined) in
    ap (λ bs. goal_or (read_goal bs)) is ∙ ap goal_or (printed_goals_read_back t here.printable here.goal)

-- a test that holds
pub if_true : (b : Bool) (e : Entry) → b ≡ true → (if b then Some e else None) ≡ Some e
if_true true e is = refl
if_true false e is = cc

-- a test that doesn't
pub if_false : (b : Bool) (e : Entry) → b ≡ false → (if b then Some e else None) ≡ None
if_false true e is = cc
if_false false e is = refl

-- a start with its goal's print
pub start_is : (rules : Rules) (allowance low high : ℕ) (t : Term) (text : List ℕ) → text ≡ print t → is_lined rules (starts allowance low high t) ≡ true → Some (starts allowance low high (goal_in text)) ≡ if_lined rules (starts allowance low high t)
start_is rules allowance low high t text is lined = ap (λ g. Some (starts allowance low high g)) (start_back rules allowance low high t text is lined) ∙ sym (if_true (is_lined rules (starts allowance low high t)) (starts allowance low high t) lined)

pub start_sound : (rules : Rules) (allowance low high : ℕ) (t : Term) (goal : Vec ℕ Global) → goal.items ≡ print t → is_lined rules (starts allowance low high t) ≡ true → IsSound rules (whole.Start allowance low high goal)
start_sound rules allowance low high t goal is lined =
    let back = start_back rules allowance low high t goal.items is lined in
    record {
      line = subst (λ (g : Term). HasLine rules (starts allowance low high g)) (sym back) (start_line_here rules allowance low high t lined);
      printed = ap print back ∙ sym is;
      told = tt;
    }

-- how long the line of an answer is
pub answer_length : (n report : ℕ) (t : Term) → length (answer_line n report t) ≡ 9 + length (decimal n) + length (decimal report) + length (print t)
answer_length n report t = parts (decimal n) (decimal report) (print t)
  where
    parts : (a l p : List ℕ) → length (codes "answer " ++ a ++ codes " " ++ l ++ codes " " ++ p) ≡ 9 + length a + length l + length p
    parts a l p = simp length-append (omega arith)

-- an answer that is lined has a line
answer_line_here : (rules : Rules) (n report : ℕ) (t : Term) → is_lined rules (answers n report t) ≡ true → HasLine rules (answers n report t)
answer_line_here rules n report t lined =
    let a = and_parts (is_number n && is_number report && is_goal t && is_writable t && is_numbered_by rules t) (nat_le (length (answer_line n report t)) MOST_LINE_BYTES) lined in
    let b = and_parts (is_number n && is_number report && is_goal t && is_writable t) (is_numbered_by rules t) a.0 in
    let c = and_parts (is_number n && is_number report && is_goal t) (is_writable t) b.0 in
    let d = and_parts (is_number n && is_number report) (is_goal t) c.0 in
    let e = and_parts (is_number n) (is_number report) d.0 in
    (ltb-true n NUMBER_LIMIT e.0, ltb-true report NUMBER_LIMIT e.1, d.1, c.1, b.1, leb-true (length (answer_line n report t)) MOST_LINE_BYTES a.1)

-- the goal that the print of a goal is, by whether its variables are told
read_again : (told : Bool) (t : Term) → is_goal t ≡ true → is_writable t ≡ true → (if told then is_told_term t else is_numbered t) ≡ true → highest t < NUMBER_LIMIT → answer_in told (print t) ≡ t
unfolding answer_in
read_again true t goal writable numbered few = ap goal_or (told_goals_read_back t writable numbered goal)
read_again false t goal writable numbered few =
    ap goal_or (printed_goals_read_back t (and_from (is_writable t && is_numbered t) (nat_lt (highest t) NUMBER_LIMIT) (and_from (is_writable t) (is_numbered t) writable numbered) (lt-ltb (highest t) NUMBER_LIMIT few)) goal)

-- the goal that the print of a lined answer's goal is
pub answer_back : (rules : Rules) (n report : ℕ) (t : Term) (text : List ℕ) → text ≡ print t → is_lined rules (answers n report t) ≡ true → answer_in (has_told rules) text ≡ t
answer_back rules n report t text is lined =
    let line = answer_line_here rules n report t lined in
    ap (answer_in (has_told rules)) is ∙ read_again (has_told rules) t line.2 line.3 line.4 (answers_here rules n report t line).few

-- an answer with its goal's print
pub answer_is : (rules : Rules) (n report : ℕ) (t : Term) (text : List ℕ) → text ≡ print t → is_lined rules (answers n report t) ≡ true → Some (answers n report (answer_in (has_told rules) text)) ≡ if_lined rules (answers n report t)
answer_is rules n report t text is lined = ap (λ g. Some (answers n report g)) (answer_back rules n report t text is lined) ∙ sym (if_true (is_lined rules (answers n report t)) (answers n report t) lined)

pub answer_sound : (rules : Rules) (n report : ℕ) (t : Term) (goal : Vec ℕ Global) (told : Bool) → goal.items ≡ print t → told ≡ has_told rules → is_lined rules (answers n report t) ≡ true → IsSound rules (whole.Answer n report goal told)
answer_sound rules n report t goal told is by lined =
    let back = ap (λ b. answer_in b goal.items) by ∙ answer_back rules n report t goal.items is lined in
    record {
      line = subst (λ (g : Term). HasLine rules (answers n report g)) (sym back) (answer_line_here rules n report t lined);
      printed = ap print back ∙ sym is;
      told = by;
    }

-- a letting go that is lined has a line
pub forget_sound : (rules : Rules) (n count : ℕ) → is_lined rules (forgets n count) ≡ true → IsSound rules (whole.Forget n count)
forget_sound rules n count lined =
    let a = and_parts (has_forgetting rules && is_number n) (is_number count) lined in
    let b = and_parts (has_forgetting rules) (is_number n) a.0 in
    record { line = (b.0, ltb-true n NUMBER_LIMIT b.1, ltb-true count NUMBER_LIMIT a.1); printed = tt; told = tt }
