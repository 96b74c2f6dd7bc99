-- A clause that suspends names a variable, if the variables of its guard are the head's.
use Rattle.std.proofs.Common.{◌≡◌, ℕ, zero, suc, ◌+◌, ◌-◌, ◌≤◌, ◌==◌, ◌&&◌, ◌||◌, Bool, true, false, if◌then◌else◌, List, [], ◌∷◌, ◌++◌, refl, sym, ap, ◌∙◌, subst, arith}
use Rattle.std.specs.Prelude.{nat_le, bytes_eq, codes, Option, Some, None, option_map}
use Rattle.std.specs.List.{list_all, list_any}
use Rattle.std.specs.Ordering.{int_eq}
use Rattle.std.proofs.lemmas.Bool.{cond-false, leb-true, false_from_ne_true, false≢true, and_parts, eq-eqb, eqb-true, or_left, or_right}
use Rattle.std.proofs.lemmas.List.Folds.{list_all-append, list_any-append}
use Rattle.kl1_model.specs.declared.operator.Operator.{Operator}
use Rattle.kl1_model.specs.declared.comparison.Comparison.{Comparison}
use Rattle.kl1_model.specs.declared.type_test.TypeTest.{TypeTest}
use Rattle.kl1_model.specs.declared.number.Number.{Number}
use Rattle.kl1_model.specs.declared.number.Number.TheVariants.{Value, Overflow, ZeroDivisor}
use Rattle.kl1_model.specs.declared.limits.TheConstants.{MOST_OPERATORS}
use Rattle.kl1_model.specs.Term.{Term, variable, integer, atom, structure, Terms, none, more, terms_of, count_of, substituted, each_substituted, Replacement}
use Rattle.kl1_model.specs.Meaning.{variables_of, variables_in, highest_in}
use Rattle.kl1_model.specs.Module.{is_among, has_only}
use Rattle.kl1_model.specs.Answer.{Answer, yes, no, wait, together, opposite, known}
use Rattle.kl1_model.specs.Same.{compare, compare_each}
use Rattle.kl1_model.specs.Arithmetic.{ArithmeticExpression, with_left, with_right, operator_named, scan, scan_operation, evaluated, Scanned}
use Rattle.kl1_model.specs.Guard.{type_test_named, comparison_named, Test, holds, looks, is_same, is_other, compares, test_of, test_substituted, is_found, compared, look, numbers_answer, sides_answer, test_answer}
use Rattle.kl1_model.specs.Match.{Match, option_answer, with_answer, match_pattern, match_patterns, two_answer, one_answer, each_answer, beside, test_variable, own_variables, own_answer, one_test_answer, tests_answer, guard_answer}
use Rattle.kl1_model.specs.code.Verdicts.{suspends, verdict_with}
use Rattle.kl1_model.specs.laws.VerdictLaws.{NamedSuspendsWaits}
use Rattle.kl1_model.proofs.Comparisons.{Names, names_both, names_known, compare_names}
use Rattle.kl1_model.proofs.ScanStays.{computed}
use Rattle.kl1_model.specs.Found.{Found, found, awaits, wrong}

-- ---- who waits names a variable

names_decided : (b : Bool) (m : Match) → Names m.answer → Names (if b then m else with_answer no).answer
names_decided true m n = n
names_decided false m n = tt

mutual
  match_names : (p t : Term) → Names (match_pattern p t).answer
  match_names (variable v) t = tt
  match_names (integer i) (variable w) = tt
  match_names (integer i) (integer j) = names_known (int_eq i j)
  match_names (integer i) (atom b) = tt
  match_names (integer i) (structure g us) = tt
  match_names (atom a) (variable w) = tt
  match_names (atom a) (integer j) = tt
  match_names (atom a) (atom b) = names_known (bytes_eq a b)
  match_names (atom a) (structure g us) = tt
  match_names (structure f ps) (variable w) = tt
  match_names (structure f ps) (integer j) = tt
  match_names (structure f ps) (atom b) = tt
  match_names (structure f ps) (structure g ts) = names_decided (bytes_eq f g && count_of ps == count_of ts) (match_patterns ps ts) (match_all_names ps ts)

  match_all_names : (ps ts : Terms) → Names (match_patterns ps ts).answer
  match_all_names none none = tt
  match_all_names none (more t ts) = tt
  match_all_names (more p ps) none = tt
  match_all_names (more p ps) (more t ts) = names_both (match_pattern p t).answer (match_patterns ps ts).answer (match_names p t) (match_all_names ps ts)

if_names : (c : Bool) (o : Answer) → Names o → Names (if c then o else yes)
if_names true o n = n
if_names false o n = tt

one_answer_names : (p : Replacement) (qs : List Replacement) → Names (one_answer p qs)
one_answer_names p [] = tt
one_answer_names p (q ∷ qs) =
    names_both (two_answer p q) (one_answer p qs) (if_names (p.number == q.number) (compare p.by q.by) (compare_names p.by q.by)) (one_answer_names p qs)

each_answer_names : (ps : List Replacement) → Names (each_answer ps)
each_answer_names [] = tt
each_answer_names (p ∷ ps) = names_both (one_answer p ps) (each_answer ps) (one_answer_names p ps) (each_answer_names ps)

-- ---- terms of the goal's variables alone

abbrev mutual
  Above : ℕ → Term → Type 0
  Above last (variable v) = suc last ≤ v
  Above last (integer i) = Unit {0}
  Above last (atom a) = Unit {0}
  Above last (structure f ts) = EachAbove last ts

  EachAbove : ℕ → Terms → Type 0
  EachAbove last none = Unit {0}
  EachAbove last (more t ts) = Above last t × EachAbove last ts

-- an outcome that waits does so first for a variable of the goal
abbrev Own : ℕ → Answer → Type 0
Own last yes = Unit {0}
Own last no = Unit {0}
Own last (wait []) = ⊥
Own last (wait (v ∷ vs)) = suc last ≤ v

mutual
  beside_above : (last : ℕ) (t : Term) → Above last (beside last t)
  beside_above last (variable v) = omega arith
  beside_above last (integer i) = tt
  beside_above last (atom a) = tt
  beside_above last (structure f ts) = each_beside_above last ts

  each_beside_above : (last : ℕ) (ts : Terms) → EachAbove last (each_substituted (λ v. variable (suc (last + v))) ts)
  each_beside_above last none = tt
  each_beside_above last (more t ts) = (beside_above last t, each_beside_above last ts)

own_both : (last : ℕ) (a b : Answer) → Own last a → Own last b → Own last (together a b)
own_both last yes b n k = k
own_both last no b n k = tt
own_both last (wait vs) yes n k = n
own_both last (wait vs) no n k = tt
own_both last (wait []) (wait ws) n k = absurd n
own_both last (wait (v ∷ vs)) (wait ws) n k = n

own_opposite : (last : ℕ) (a : Answer) → Own last a → Own last (opposite a)
own_opposite last yes n = tt
own_opposite last no n = tt
own_opposite last (wait []) n = absurd n
own_opposite last (wait (v ∷ vs)) n = n

own_if : (last : ℕ) (c : Bool) (a : Answer) → Own last a → Own last (if c then a else no)
own_if last true a n = n
own_if last false a n = tt

own_two : (last v w : ℕ) (c : Bool) → suc last ≤ v → Own last (if c then yes else wait (v ∷ w ∷ []))
own_two last v w true a = tt
own_two last v w false a = a

-- ---- tests of such terms

decided_own : (last : ℕ) (b : Bool) → Own last (known b)
decided_own last true = tt
decided_own last false = tt

mutual
  compare_own : (last : ℕ) (t u : Term) → Above last t → Above last u → Own last (compare t u)
  compare_own last (variable v) (variable w) a b = own_two last v w (v == w) a
  compare_own last (variable v) (integer j) a b = a
  compare_own last (variable v) (atom y) a b = a
  compare_own last (variable v) (structure g us) a b = a
  compare_own last (integer i) (variable w) a b = b
  compare_own last (integer i) (integer j) a b = decided_own last (int_eq i j)
  compare_own last (integer i) (atom y) a b = tt
  compare_own last (integer i) (structure g us) a b = tt
  compare_own last (atom x) (variable w) a b = b
  compare_own last (atom x) (integer j) a b = tt
  compare_own last (atom x) (atom y) a b = decided_own last (bytes_eq x y)
  compare_own last (atom x) (structure g us) a b = tt
  compare_own last (structure f ts) (variable w) a b = b
  compare_own last (structure f ts) (integer j) a b = tt
  compare_own last (structure f ts) (atom y) a b = tt
  compare_own last (structure f ts) (structure g us) a b = own_if last (bytes_eq f g && count_of ts == count_of us) (compare_each ts us) (each_own last ts us a b)

  each_own : (last : ℕ) (ts us : Terms) → EachAbove last ts → EachAbove last us → Own last (compare_each ts us)
  each_own last none us a b = tt
  each_own last (more t ts) none a b = tt
  each_own last (more t ts) (more u us) a b = own_both last (compare t u) (compare_each ts us) (compare_own last t u a.0 b.0) (each_own last ts us a.1 b.1)

look_own : (last : ℕ) (i : TypeTest) (t : Term) → Above last t → Own last (look i t)
look_own last i (variable v) a = a
look_own last i (integer n) a = decided_own last (is_found i (integer n))
look_own last i (atom x) a = decided_own last (is_found i (atom x))
look_own last i (structure f ts) a = decided_own last (is_found i (structure f ts))

abbrev ScanAbove : ℕ → Found Scanned → Type 0
ScanAbove last (found e) = Unit {0}
ScanAbove last (awaits v) = suc last ≤ v
ScanAbove last wrong = Unit {0}

right_above : (last : ℕ) (o : Operator) (e : ArithmeticExpression) (y : Found Scanned) → ScanAbove last y → ScanAbove last (with_right o e y)
right_above last o e (found b) a = tt
right_above last o e (awaits v) a = a
right_above last o e wrong a = tt

left_above : (last : ℕ) (o : Operator) (x : Found Scanned) (right : ℕ → Found Scanned) → ScanAbove last x → ((m : ℕ) → ScanAbove last (right m)) → ScanAbove last (with_left o x right)
left_above last o (found e) right a f = right_above last o e.expression (right e.operators_left) (f e.operators_left)
left_above last o (awaits v) right a f = a
left_above last o wrong right a f = tt

mutual
  scan_above : (last n : ℕ) (t : Term) → Above last t → ScanAbove last (scan n t)
  scan_above last n (variable v) a = a
  scan_above last n (integer i) a = tt
  scan_above last n (atom x) a = tt
  scan_above last n (structure f ts) a = operation_above last (operator_named f) n ts a

  operation_above : (last : ℕ) (o : Option Operator) (n : ℕ) (ts : Terms) → EachAbove last ts → ScanAbove last (scan_operation o n ts)
  operation_above last None n ts a = tt
  operation_above last (Some o) zero ts a = tt
  operation_above last (Some o) (suc n) none a = tt
  operation_above last (Some o) (suc n) (more t none) a = tt
  operation_above last (Some o) (suc n) (more t (more u none)) a = left_above last o (scan n t) (λ m. scan m u) (scan_above last n t a.0) (λ m. scan_above last m u a.1.0)
  operation_above last (Some o) (suc n) (more t (more u (more w ts))) a = tt

abbrev EvaluatedAbove : ℕ → Found Number → Type 0
EvaluatedAbove last (found n) = Unit {0}
EvaluatedAbove last (awaits v) = suc last ≤ v
EvaluatedAbove last wrong = Unit {0}

computed_above : (last : ℕ) (x : Found Scanned) → ScanAbove last x → EvaluatedAbove last (computed x)
computed_above last (found e) a = tt
computed_above last (awaits v) a = a
computed_above last wrong a = tt

numbers_own : (last : ℕ) (c : Comparison) (x y : Number) → Own last (numbers_answer c x y)
numbers_own last c (Value i) (Value j) = decided_own last (compared c i j)
numbers_own last c (Value i) Overflow = tt
numbers_own last c (Value i) ZeroDivisor = tt
numbers_own last c Overflow y = tt
numbers_own last c ZeroDivisor y = tt

sides_own : (last : ℕ) (c : Comparison) (x y : Found Number) → EvaluatedAbove last x → EvaluatedAbove last y → Own last (sides_answer c x y)
sides_own last c (awaits v) y a b = a
sides_own last c wrong y a b = tt
sides_own last c (found n) (awaits v) a b = b
sides_own last c (found n) wrong a b = tt
sides_own last c (found n) (found m) a b = numbers_own last c n m

abbrev TestAbove : ℕ → Test → Type 0
TestAbove last holds = Unit {0}
TestAbove last (looks i t) = Above last t
TestAbove last (is_same t u) = Above last t × Above last u
TestAbove last (is_other t u) = Above last t × Above last u
TestAbove last (compares c t u) = Above last t × Above last u

test_own : (last : ℕ) (test : Test) → TestAbove last test → Own last (test_answer test)
test_own last holds a = tt
test_own last (looks i t) a = look_own last i t a
test_own last (is_same t u) a = compare_own last t u a.0 a.1
test_own last (is_other t u) a = own_opposite last (compare t u) (compare_own last t u a.0 a.1)
test_own last (compares c t u) a =
    sides_own last c (evaluated t) (evaluated u) (computed_above last (scan MOST_OPERATORS t) (scan_above last MOST_OPERATORS t a.0)) (computed_above last (scan MOST_OPERATORS u) (scan_above last MOST_OPERATORS u a.1))

not_below : (last v : ℕ) → suc last ≤ v → nat_le v last ≡ false
not_below last v h = false_from_ne_true (nat_le v last) (λ e. let less = leb-true v last e in omega (arith, h, less))

own_names : (last : ℕ) (o : Answer) → Own last o → Names (own_answer last o)
own_names last yes a = tt
own_names last no a = tt
own_names last (wait []) a = absurd a
own_names last (wait (v ∷ vs)) a = subst (λ (l : List ℕ). Names (wait l)) (sym (cond-false (nat_le v last) (own_variables last vs) ((v - suc last) ∷ own_variables last vs) (not_below last v a))) tt

-- ---- variables that have a place

-- whether a variable has a place
abbrev has : List Replacement → ℕ → Bool
has places v = list_any (λ p. p.number == v) places

place_above : (last : ℕ) (c r : Bool) (t u : Term) → (c || r) ≡ true → (r ≡ true → Above last u) → Above last (if c then beside last t else u)
place_above last true r t u h f = beside_above last t
place_above last false r t u h f = f h

found_above : (last : ℕ) (places : List Replacement) (v : ℕ) → has places v ≡ true → Above last (test_variable last places v)
found_above last [] v h = absurd (false≢true h)
found_above last (p ∷ places) v h = place_above last (p.number == v) (has places v) p.by (test_variable last places v) h (found_above last places v)

all_append : (f : ℕ → Bool) (vs ws : List ℕ) → list_all f (vs ++ ws) ≡ true → (list_all f vs ≡ true) × (list_all f ws ≡ true)
all_append f vs ws h = and_parts (list_all f vs) (list_all f ws) (sym (list_all-append f vs ws) ∙ h)

module _ (last : ℕ) (places : List Replacement) where
  abbrev placed : Term → Term
  placed t = substituted (test_variable last places) t

  mutual
    term_above : (t : Term) → list_all (has places) (variables_of t) ≡ true → Above last (placed t)
    term_above (variable v) h = found_above last places v (and_parts (has places v) true h).0
    term_above (integer i) h = tt
    term_above (atom a) h = tt
    term_above (structure f ts) h = terms_above ts h

    terms_above : (ts : Terms) → list_all (has places) (variables_in ts) ≡ true → EachAbove last (each_substituted (test_variable last places) ts)
    terms_above none h = tt
    terms_above (more t ts) h = let b = all_append (has places) (variables_of t) (variables_in ts) h in (term_above t b.0, terms_above ts b.1)

  abbrev OptionAbove : Option Test → Type 0
  OptionAbove None = Unit {0}
  OptionAbove (Some test) = TestAbove last (test_substituted (test_variable last places) test)

  true_above : (c : Bool) → OptionAbove (if c then Some holds else None)
  true_above true = tt
  true_above false = tt

  one_above : (o : Option TypeTest) (a : Term) → Above last (placed a) → OptionAbove (option_map (λ i. looks i a) o)
  one_above None a h = tt
  one_above (Some i) a h = h

  pair_above : (c d : Bool) (o : Option Comparison) (a b : Term) → Above last (placed a) → Above last (placed b) → OptionAbove (if c then Some (is_same a b) else if d then Some (is_other a b) else option_map (λ k. compares k a b) o)
  pair_above true d o a b h k = (h, k)
  pair_above false true o a b h k = (h, k)
  pair_above false false None a b h k = tt
  pair_above false false (Some q) a b h k = (h, k)

  test_above : (t : Term) → list_all (has places) (variables_of t) ≡ true → OptionAbove (test_of t)
  test_above (variable v) h = tt
  test_above (integer i) h = tt
  test_above (atom a) h = true_above (bytes_eq a (codes "true"))
  test_above (structure f none) h = tt
  test_above (structure f (more a none)) h = one_above (type_test_named f) a (terms_above (more a none) h).0
  test_above (structure f (more a (more b none))) h =
      let k = terms_above (more a (more b none)) h in
      pair_above (bytes_eq f (codes "=")) (bytes_eq f (codes "\\=")) (comparison_named f) a b k.0 k.1.0
  test_above (structure f (more a (more b (more c ts)))) h = tt

  by_own : (x : Option Test) → OptionAbove x → Own last (option_answer (test_variable last places) x)
  by_own None h = tt
  by_own (Some test) h = test_own last (test_substituted (test_variable last places) test) h

  each_has : (vs ns : List ℕ) → ((v : ℕ) → is_among v vs ≡ true → has places v ≡ true) → list_all (λ v. is_among v vs) ns ≡ true → list_all (has places) ns ≡ true
  each_has vs [] f h = refl
  each_has vs (n ∷ ns) f h = let b = and_parts (is_among n vs) (list_all (λ v. is_among v vs) ns) h in ap (λ x. x && list_all (has places) ns) (f n b.0) ∙ each_has vs ns f b.1

  tests_names : (vs : List ℕ) → ((v : ℕ) → is_among v vs ≡ true → has places v ≡ true) → (ts : List Term) → list_all (has_only vs) ts ≡ true → Names (tests_answer last places ts)
  tests_names vs f [] h = tt
  tests_names vs f (t ∷ ts) h =
      let b = and_parts (has_only vs t) (list_all (has_only vs) ts) h in
      names_both (one_test_answer last places t) (tests_answer last places ts)
      (own_names last (option_answer (test_variable last places) (test_of t)) (by_own (test_of t) (test_above t (each_has vs (variables_of t) f b.0))))
      (tests_names vs f ts b.1)

-- ---- a match that agrees has a place for each variable

both_agree : (a b : Answer) → together a b ≡ yes → (a ≡ yes) × (b ≡ yes)
both_agree yes b e = (refl, e)
both_agree no b e = absurd (cc)
both_agree (wait vs) yes e = absurd (cc)
both_agree (wait vs) no e = absurd (cc)
both_agree (wait vs) (wait ws) e = absurd (cc)

or_false : (x : Bool) → (x || false) ≡ true → x ≡ true
or_false true h = refl
or_false false h = h

has_one : (w v : ℕ) (t : Term) → v == w ≡ true → has (record { number = w; by = t } ∷ []) v ≡ true
has_one w v t e = or_left (w == v) false (eq-eqb w v (sym (eqb-true v w e)))

has_inside : (c : Bool) (m : Match) (v : ℕ) → (if c then m else with_answer no).answer ≡ yes → (m.answer ≡ yes → has m.places v ≡ true) → has (if c then m else with_answer no).places v ≡ true
has_inside true m v e f = f e
has_inside false m v e f = absurd (let k : no ≡ yes = e in cc)

has_either : (ps qs : List Replacement) (v : ℕ) (x y : Bool) → (x || y) ≡ true → (x ≡ true → has ps v ≡ true) → (y ≡ true → has qs v ≡ true) → has (ps ++ qs) v ≡ true
has_either ps qs v true y h f g = list_any-append (λ p. p.number == v) ps qs ∙ or_left (has ps v) (has qs v) (f refl)
has_either ps qs v false y h f g = list_any-append (λ p. p.number == v) ps qs ∙ or_right (has ps v) (has qs v) (g h)

mutual
  match_has : (p t : Term) → (match_pattern p t).answer ≡ yes → (v : ℕ) → is_among v (variables_of p) ≡ true → has (match_pattern p t).places v ≡ true
  match_has (variable w) t e v h = has_one w v t (or_false (v == w) h)
  match_has (integer i) t e v h = absurd (false≢true h)
  match_has (atom a) t e v h = absurd (false≢true h)
  match_has (structure f ps) (variable w) e v h = absurd (let k : wait (w ∷ []) ≡ yes = e in cc)
  match_has (structure f ps) (integer j) e v h = absurd (let k : no ≡ yes = e in cc)
  match_has (structure f ps) (atom b) e v h = absurd (let k : no ≡ yes = e in cc)
  match_has (structure f ps) (structure g ts) e v h = has_inside (bytes_eq f g && count_of ps == count_of ts) (match_patterns ps ts) v e (λ k. match_each_has ps ts k v h)

  match_each_has : (ps ts : Terms) → (match_patterns ps ts).answer ≡ yes → (v : ℕ) → is_among v (variables_in ps) ≡ true → has (match_patterns ps ts).places v ≡ true
  match_each_has none none e v h = absurd (false≢true h)
  match_each_has none (more t ts) e v h = absurd (false≢true h)
  match_each_has (more p ps) none e v h = absurd (let k : no ≡ yes = e in cc)
  match_each_has (more p ps) (more t ts) e v h =
      let b = both_agree (match_pattern p t).answer (match_patterns ps ts).answer e in
      has_either (match_pattern p t).places (match_patterns ps ts).places v (is_among v (variables_of p)) (is_among v (variables_in ps))
      (sym (list_any-append (λ m. v == m) (variables_of p) (variables_in ps)) ∙ h)
      (match_has p t b.0 v)
      (match_each_has ps ts b.1 v)

-- ---- verdicts

-- an outcome that clashes, or waits for some variable
abbrev Stuck : Answer → Type 0
Stuck yes = ⊥
Stuck no = Unit {0}
Stuck (wait []) = ⊥
Stuck (wait (v ∷ vs)) = Unit {0}

stuck_both : (a b : Answer) → Stuck a → Stuck (together a b)
stuck_both yes b k = absurd k
stuck_both no b k = tt
stuck_both (wait []) b k = absurd k
stuck_both (wait (v ∷ vs)) yes k = tt
stuck_both (wait (v ∷ vs)) no k = tt
stuck_both (wait (v ∷ vs)) (wait ws) k = tt

stuck_names : (o : Answer) → Stuck o → Names o
stuck_names yes k = tt
stuck_names no k = tt
stuck_names (wait []) k = k
stuck_names (wait (v ∷ vs)) k = tt

whole_names : (a b g : Answer) → Names a → Names b → (a ≡ yes → Names g) → Names (together (together a b) g)
whole_names yes b g n k f = names_both b g k (f refl)
whole_names no b g n k f = tt
whole_names (wait []) b g n k f = absurd n
whole_names (wait (v ∷ vs)) b g n k f = stuck_names (together (together (wait (v ∷ vs)) b) g) (stuck_both (together (wait (v ∷ vs)) b) g (stuck_both (wait (v ∷ vs)) b tt))

no_suspension : (m : Match) (o : Answer) → verdict_with m o ≡ suspends [] → Names o → ⊥
no_suspension m yes e n = absurd (cc)
no_suspension m no e n = absurd (cc)
no_suspension m (wait []) e n = n
no_suspension m (wait (v ∷ vs)) e n = absurd (cc)

pub named_suspends_waits : NamedSuspendsWaits
named_suspends_waits c ts g e =
    let m = match_patterns c.patterns ts in
    no_suspension m (together (together m.answer (each_answer m.places)) (guard_answer m.places c.tests)) e
    (whole_names m.answer (each_answer m.places) (guard_answer m.places c.tests) (match_all_names c.patterns ts) (each_answer_names m.places)
    (λ k. tests_names (highest_in (terms_of c.tests)) m.places (variables_in c.patterns) (match_each_has c.patterns ts k) c.tests g))
