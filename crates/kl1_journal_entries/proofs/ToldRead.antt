-- Goals that were read as those of answers have their variables as rules want them.
use Rattle.std.proofs.Common.{◌≡◌, ℕ, suc, ◌+◌, ◌-◌, ◌≤◌, ◌<◌, max, ◌&&◌, Bool, true, false, if◌then◌else◌, List, [], ◌∷◌, ◌++◌, length, codes, bytes_eq, drop, refl, sym, ap, ◌∙◌, arith}
use Rattle.std.specs.Prelude.{nat_le, nat_lt, decimal, Option, Some, None, option_map}
use Rattle.std.proofs.lemmas.Bool.{and_from, and_parts, le-leb, lt-ltb, le-ltb, ltb-true, ltb-false}
use Rattle.std.proofs.lemmas.List.{append-nil, length-append, length-map}
use Rattle.std.proofs.lemmas.Option.{none-some, same_Some}
use Rattle.kl1_model.specs.declared.limits.TheConstants.{FIRST_UNTOLD, NUMBER_LIMIT, MOST_LINE_BYTES}
use Rattle.kl1_model.specs.declared.rules.Rules.{Rules}
use Rattle.kl1_model.specs.Term.{Term}
use Rattle.kl1_model.specs.Token.{Token, Placed, name_token, variable_token, digits_token, minus_token, sign_token, end_token, number_of, tokens_of_text}
use Rattle.kl1_model.specs.Grammar.{Expression}
use Rattle.kl1_model.specs.reader.Reader.{expression_tree}
use Rattle.kl1_model.specs.Numbering.{place_of, variable_number, seen_after}
use Rattle.kl1_model.specs.Meaning.{expression_term, variables_of, highest, is_writable, is_numbered}
use Rattle.kl1_model.specs.Goal.{is_goal}
use Rattle.kl1_model.specs.Event.{is_number}
use Rattle.kl1_model.specs.State.{has_told}
use Rattle.kl1_model.specs.Module.{Reading, good, bad, startable, bare_tokens, first_line, read_goal}
use Rattle.kl1_model.specs.Telling.{is_told, told_from, told_term, read_told_goal, told_after, is_told_term, read_answer}
use Rattle.kl1_model.specs.Answering.{is_numbered_by}
use Rattle.kl1_model.proofs.ReadSound.{expression_trees_sound}
use Rattle.kl1_model.proofs.ReadMeans.{numbers_of, expression_variables}
use Rattle.kl1_model_server.proofs.ReadCounts.{few_tokens}
use Rattle.kl1_model_server.proofs.ReadStrict.{goals_read_are_printable}

-- a number that is the next one at most, from 1
record IsNext (seen n : ℕ) : Type 0 where
  some : 1 ≤ n
  within : n ≤ suc seen

place_case : (x : Bool) (seen n : ℕ) → IsNext seen n → IsNext (suc seen) (if x then 1 else suc n)
place_case true seen n h = record { some = omega arith; within = omega arith }
place_case false seen n h = record { some = omega arith; within = omega (arith, h.within) }

place_next : (seen : List (List ℕ)) (v : List ℕ) → IsNext (length seen) (place_of seen v)
place_next [] v = record { some = omega arith; within = omega arith }
place_next (s ∷ seen) v = place_case (bytes_eq s v) (length seen) (place_of seen v) (place_next seen v)

number_case : (x : Bool) (seen n : ℕ) → IsNext seen n → IsNext seen (if x then suc seen else n)
number_case true seen n h = record { some = omega arith; within = omega arith }
number_case false seen n h = h

number_next : (seen : List (List ℕ)) (v : List ℕ) → IsNext (length seen) (variable_number seen v)
number_next seen v = number_case (bytes_eq v (codes "_")) (length seen) (place_of seen v) (place_next seen v)

seen_case : (x : Bool) (seen : List (List ℕ)) (v : List ℕ) (n : ℕ) → nat_lt (length seen) n ≡ x → n ≤ suc (length seen) → length {A = List ℕ} (if x then seen ++ v ∷ [] else seen) ≡ max (length seen) n
seen_case true seen v n is within = omega (arith, ltb-true (length seen) n is, length-append seen (v ∷ []))
seen_case false seen v n is within = omega (arith, ltb-false (length seen) n is)

length_seen : (seen : List (List ℕ)) (v : List ℕ) → length (seen_after seen v) ≡ max (length seen) (variable_number seen v)
length_seen seen v = seen_case (nat_lt (length seen) (variable_number seen v)) seen v (variable_number seen v) refl (number_next seen v).within

-- one variable more, which is told or isn't
variable_in_order : (b : Bool) (v : List ℕ) (seen : List (List ℕ)) (ts : List (Token (List ℕ))) → is_told v ≡ b → length seen < FIRST_UNTOLD →
    ((s : List (List ℕ)) → length s ≤ suc (length seen) → told_after (length s) (numbers_of (told_from s ts)) ≡ true) →
    told_after (length seen) ((if b then number_of (drop 1 v) else FIRST_UNTOLD + (variable_number seen v - 1)) ∷ numbers_of (told_from (if b then seen else seen_after seen v) ts)) ≡ true
variable_in_order true v seen ts is small behind =
    let k = length seen in
    let n = number_of (drop 1 v) in
    let ns = numbers_of (told_from seen ts) in
    let both = and_parts (nat_le 1 n && nat_lt n FIRST_UNTOLD) (bytes_eq v (codes "_" ++ decimal n)) is in
    let range = and_parts (nat_le 1 n) (nat_lt n FIRST_UNTOLD) both.0 in
    ap (λ x. if x then nat_le 1 n && told_after k ns else nat_le n (FIRST_UNTOLD + k) && is_number n && told_after (max k (suc n - FIRST_UNTOLD)) ns) range.1
    ∙ and_from (nat_le 1 n) (told_after k ns) range.0 (behind seen (omega arith))
variable_in_order false v seen ts is small behind =
    let k = length seen in
    let w = variable_number seen v in
    let n = FIRST_UNTOLD + (w - 1) in
    let ns = numbers_of (told_from (seen_after seen v) ts) in
    let next = number_next seen v in
    let long = length_seen seen v in
    let above : nat_lt n FIRST_UNTOLD ≡ false = le-ltb n FIRST_UNTOLD (omega arith) in
    let same : max k (suc n - FIRST_UNTOLD) ≡ length (seen_after seen v) = omega (arith, long, next.some) in
    ap (λ x. if x then nat_le 1 n && told_after k ns else nat_le n (FIRST_UNTOLD + k) && is_number n && told_after (max k (suc n - FIRST_UNTOLD)) ns) above
    ∙ and_from (nat_le n (FIRST_UNTOLD + k) && is_number n) (told_after (max k (suc n - FIRST_UNTOLD)) ns)
    (and_from (nat_le n (FIRST_UNTOLD + k)) (is_number n) (le-leb n (FIRST_UNTOLD + k) (omega (arith, next.some, next.within))) (lt-ltb n NUMBER_LIMIT (omega (arith, next.within, small))))
    (ap (λ m. told_after m ns) same ∙ behind (seen_after seen v) (omega (arith, long, next.within)))

-- tokens have their variables as a text tells them
told_in_order : (ts : List (Token (List ℕ))) (seen : List (List ℕ)) → length seen + length ts ≤ FIRST_UNTOLD → told_after (length seen) (numbers_of (told_from seen ts)) ≡ true
told_in_order [] seen small = refl
told_in_order (variable_token v ∷ ts) seen small = variable_in_order (is_told v) v seen ts refl (omega (arith, small)) (λ s few. told_in_order ts s (omega (arith, small, few)))
told_in_order (name_token a q applied ∷ ts) seen small = told_in_order ts seen (omega (arith, small))
told_in_order (digits_token n ∷ ts) seen small = told_in_order ts seen (omega (arith, small))
told_in_order (minus_token digit ∷ ts) seen small = told_in_order ts seen (omega (arith, small))
told_in_order (sign_token s ∷ ts) seen small = told_in_order ts seen (omega (arith, small))
told_in_order (end_token ∷ ts) seen small = told_in_order ts seen (omega (arith, small))

-- so has the term that they are
tree_told : (ts : List (Token (List ℕ))) (e : Expression) → length ts ≤ FIRST_UNTOLD → expression_tree (told_from [] ts) ≡ Some e → is_told_term (expression_term e) ≡ true
tree_told ts e small h =
    let t = expression_term e in
    let rows : numbers_of (told_from [] ts) ≡ variables_of t = ap numbers_of (sym (expression_trees_sound (told_from [] ts) e h)) ∙ expression_variables e [] ∙ append-nil (variables_of t) in
    ap (told_after 0) (sym rows) ∙ told_in_order ts [] (omega (arith, small))

mapped_told : (ts : List (Token (List ℕ))) (x : Option Expression) → length ts ≤ FIRST_UNTOLD → expression_tree (told_from [] ts) ≡ x → (t : Term) → option_map expression_term x ≡ Some t → is_told_term t ≡ true
mapped_told ts None small is t h = absurd (none-some t h)
mapped_told ts (Some e) small is t h = ap is_told_term (sym (same_Some (expression_term e) t h)) ∙ tree_told ts e small is

-- what is known of a goal that was read
record Started (x : Option Term) (t : Term) : Type 0 where
  found : x ≡ Some t
  writable : is_writable t ≡ true
  goal : is_goal t ≡ true

goods : (t u : Term) → good t ≡ good u → t ≡ u
goods t u h = cc

started_by : (x : Bool) (line : ℕ) (t u : Term) → is_writable t && is_goal t ≡ x → if◌then◌else◌ {A = Reading Term} x (good t) (bad line) ≡ good u → Started (Some t) u
started_by true line t u is h =
    let both = and_parts (is_writable t) (is_goal t) is in
    rw (← goods t u h) (record { found = refl; writable = both.0; goal = both.1 })
started_by false line t u is h = cc

started : (line : ℕ) (x : Option Term) (t : Term) → startable line x ≡ good t → Started x t
started line None t h = cc
started line (Some u) t h = started_by (is_writable u && is_goal u) line u t refl h

told_read : (ts : List Placed) (broken_at : Option ℕ) (t : Term) → startable (first_line ts broken_at) (elim broken_at [ None ↦ told_term (bare_tokens ts) | Some line ↦ None ]) ≡ good t → Started (told_term (bare_tokens ts)) t
told_read ts None t h = started (first_line ts None) (told_term (bare_tokens ts)) t h
told_read ts (Some line) t h = absurd (none-some t (started (first_line ts (Some line)) None t h).found)

-- what holds of the goal of an answer
pub record IsRead (rules : Rules) (t : Term) : Type 0 where
  pub writable : is_writable t ≡ true
  pub goal : is_goal t ≡ true
  pub numbered : is_numbered_by rules t ≡ true

record IsReadBy (told : Bool) (t : Term) : Type 0 where
  writable : is_writable t ≡ true
  goal : is_goal t ≡ true
  numbered : (if told then is_told_term t else is_numbered t) ≡ true

read_by : (told : Bool) (bs : List ℕ) (t : Term) → length bs ≤ MOST_LINE_BYTES → (if told then read_told_goal bs else read_goal bs) ≡ good t → IsReadBy told t
read_by true bs t few h =
    let ts = tokens_of_text bs in
    let s = told_read ts.placed ts.broken_at t h in
    let bare = bare_tokens ts.placed in
    let small : length bare ≤ FIRST_UNTOLD = omega (arith, few, length-map ts.placed (λ (p : Placed). p.token), few_tokens bs) in
    record { writable = s.writable; goal = s.goal; numbered = mapped_told bare (expression_tree (told_from [] bare)) small refl t s.found }
read_by false bs t few h =
    let p = goals_read_are_printable bs t (omega (arith, few)) h in
    let a = and_parts (is_writable t && is_numbered t) (nat_lt (highest t) NUMBER_LIMIT) p.0 in
    let b = and_parts (is_writable t) (is_numbered t) a.0 in
    record { writable = b.0; goal = p.1; numbered = b.1 }

-- the goal of an answer that was read has its variables numbered as its rules want it
pub answers_read : (rules : Rules) (bs : List ℕ) (t : Term) → length bs ≤ MOST_LINE_BYTES → read_answer rules bs ≡ good t → IsRead rules t
answers_read rules bs t few h =
    let r = read_by (has_told rules) bs t few h in
    record { writable = r.writable; goal = r.goal; numbered = r.numbered }
