-- Matches, comparisons, tests and verdicts of terms with other numbers for their variables.
use Rattle.std.proofs.Common.{◌≡◌, ℕ, suc, ◌+◌, ◌-◌, ◌<◌, ◌≤◌, ◌==◌, ◌&&◌, Bool, true, false, if◌then◌else◌, List, [], ◌∷◌, refl, sym, ap, ap₂, ◌∙◌, ◌⊎◌, inl, inr, arith}
use Rattle.std.specs.Prelude.{nat_le, bytes_eq, map, Option, Some, None}
use Rattle.std.specs.Ordering.{int_eq}
use Rattle.std.proofs.lemmas.Bool.{cond-true, cond-false, le-leb, leb-true, false_from_ne_true}
use Rattle.std.proofs.lemmas.List.{map-append}
use Rattle.kl1_model.specs.declared.comparison.Comparison.{Comparison}
use Rattle.kl1_model.specs.declared.type_test.TypeTest.{TypeTest}
use Rattle.kl1_model.specs.declared.number.Number.{Number}
use Rattle.kl1_model.specs.declared.number.Number.TheVariants.{Value, Overflow, ZeroDivisor}
use Rattle.kl1_model.specs.Term.{Term, variable, integer, atom, structure, Terms, none, more, terms_of, count_of, Replacement}
use Rattle.kl1_model.specs.Meaning.{highest, highest_in}
use Rattle.kl1_model.specs.Found.{Found, found, awaits, wrong}
use Rattle.kl1_model.specs.Arithmetic.{evaluated}
use Rattle.kl1_model.specs.Answer.{Answer, yes, no, wait, together, opposite, known}
use Rattle.kl1_model.specs.Same.{compare, compare_each}
use Rattle.kl1_model.specs.Guard.{Test, holds, looks, is_same, is_other, compares, test_of, test_substituted, compared, look, numbers_answer, sides_answer, test_answer}
use Rattle.kl1_model.specs.Match.{Match, with_answer, match_both, match_pattern, match_patterns, two_answer, one_answer, each_answer, beside, test_variable, option_answer, own_variables, own_answer, one_test_answer, tests_answer, guard_answer, whole}
use Rattle.kl1_model.specs.laws.RelabelLaws.{renamed, each_renamed, answer_renamed, place_renamed, match_renamed, IsIncreasing, MatchRenamed, VerdictRenamed}
use Rattle.kl1_model.proofs.GuardStays.{then_substituted, everywhere, FewOption, test_again, few_test}
use Rattle.kl1_model.proofs.Renamed.{evaluated_renamed, comes_renamed, found_renamed}
use Rattle.kl1_model.proofs.Renaming.{same_number, count_renamed}

-- ---- answers

pub together_renamed : (g : ℕ → ℕ) (a b : Answer) → together (answer_renamed g a) (answer_renamed g b) ≡ answer_renamed g (together a b)
together_renamed g yes b = refl
together_renamed g no b = refl
together_renamed g (wait vs) yes = refl
together_renamed g (wait vs) no = refl
together_renamed g (wait vs) (wait ws) = ap wait (sym (map-append g vs ws))

opposite_renamed : (g : ℕ → ℕ) (a : Answer) → opposite (answer_renamed g a) ≡ answer_renamed g (opposite a)
opposite_renamed g yes = refl
opposite_renamed g no = refl
opposite_renamed g (wait vs) = refl

known_renamed : (g : ℕ → ℕ) (b : Bool) → known b ≡ answer_renamed g (known b)
known_renamed g true = refl
known_renamed g false = refl

-- ---- matches

both_renamed : (g : ℕ → ℕ) (a b : Match) → match_both (match_renamed g a) (match_renamed g b) ≡ match_renamed g (match_both a b)
both_renamed g a b =
    ap₂ (λ (x : Answer) (l : List Replacement). let m : Match = record { answer = x; places = l } in m) (together_renamed g a.answer b.answer) (sym (map-append (place_renamed g) a.places b.places))

with_renamed : (g : ℕ → ℕ) (b : Bool) → with_answer (known b) ≡ match_renamed g (with_answer (known b))
with_renamed g b = ap (λ a. with_answer a) (known_renamed g b)

inside : (g : ℕ → ℕ) (c : Bool) (m n : Match) → n ≡ match_renamed g m → (if c then n else with_answer no) ≡ match_renamed g (if c then m else with_answer no)
inside g true m n e = e
inside g false m n e = refl

mutual
  pattern_renamed : (g : ℕ → ℕ) (p t : Term) → match_pattern p (renamed g t) ≡ match_renamed g (match_pattern p t)
  pattern_renamed g (variable v) t = refl
  pattern_renamed g (integer i) (variable w) = refl
  pattern_renamed g (integer i) (integer j) = with_renamed g (int_eq i j)
  pattern_renamed g (integer i) (atom b) = refl
  pattern_renamed g (integer i) (structure f us) = refl
  pattern_renamed g (atom a) (variable w) = refl
  pattern_renamed g (atom a) (integer j) = refl
  pattern_renamed g (atom a) (atom b) = with_renamed g (bytes_eq a b)
  pattern_renamed g (atom a) (structure f us) = refl
  pattern_renamed g (structure f ps) (variable w) = refl
  pattern_renamed g (structure f ps) (integer j) = refl
  pattern_renamed g (structure f ps) (atom b) = refl
  pattern_renamed g (structure f ps) (structure h ts) =
      ap (λ n. if bytes_eq f h && count_of ps == n then match_patterns ps (each_renamed g ts) else with_answer no) (count_renamed g ts)
      ∙ inside g (bytes_eq f h && count_of ps == count_of ts) (match_patterns ps ts) (match_patterns ps (each_renamed g ts)) (patterns_renamed g ps ts)

  pub patterns_renamed : MatchRenamed
  patterns_renamed g none none = refl
  patterns_renamed g none (more t ts) = refl
  patterns_renamed g (more p ps) none = refl
  patterns_renamed g (more p ps) (more t ts) = ap₂ match_both (pattern_renamed g p t) (patterns_renamed g ps ts) ∙ both_renamed g (match_pattern p t) (match_patterns ps ts)

-- ---- comparisons

if_renamed : (g : ℕ → ℕ) (c : Bool) (a b x y : Answer) → a ≡ answer_renamed g x → b ≡ answer_renamed g y → (if c then a else b) ≡ answer_renamed g (if c then x else y)
if_renamed g true a b x y e f = e
if_renamed g false a b x y e f = f

mutual
  pub compare_renamed : (g : ℕ → ℕ) (t u : Term) → IsIncreasing g → compare (renamed g t) (renamed g u) ≡ answer_renamed g (compare t u)
  compare_renamed g (variable v) (variable w) up =
      ap (λ c. if c then yes else wait (g v ∷ g w ∷ [])) (same_number g v w up) ∙ if_renamed g (v == w) yes (wait (g v ∷ g w ∷ [])) yes (wait (v ∷ w ∷ [])) refl refl
  compare_renamed g (variable v) (integer j) up = refl
  compare_renamed g (variable v) (atom b) up = refl
  compare_renamed g (variable v) (structure f us) up = refl
  compare_renamed g (integer i) (variable w) up = refl
  compare_renamed g (integer i) (integer j) up = known_renamed g (int_eq i j)
  compare_renamed g (integer i) (atom b) up = refl
  compare_renamed g (integer i) (structure f us) up = refl
  compare_renamed g (atom a) (variable w) up = refl
  compare_renamed g (atom a) (integer j) up = refl
  compare_renamed g (atom a) (atom b) up = known_renamed g (bytes_eq a b)
  compare_renamed g (atom a) (structure f us) up = refl
  compare_renamed g (structure f ts) (variable w) up = refl
  compare_renamed g (structure f ts) (integer j) up = refl
  compare_renamed g (structure f ts) (atom b) up = refl
  compare_renamed g (structure f ts) (structure h us) up =
      ap₂ (λ m n. if bytes_eq f h && m == n then compare_each (each_renamed g ts) (each_renamed g us) else no) (count_renamed g ts) (count_renamed g us)
      ∙ if_renamed g (bytes_eq f h && count_of ts == count_of us) (compare_each (each_renamed g ts) (each_renamed g us)) no (compare_each ts us) no (compare_each_renamed g ts us up) refl

  compare_each_renamed : (g : ℕ → ℕ) (ts us : Terms) → IsIncreasing g → compare_each (each_renamed g ts) (each_renamed g us) ≡ answer_renamed g (compare_each ts us)
  compare_each_renamed g none us up = refl
  compare_each_renamed g (more t ts) none up = refl
  compare_each_renamed g (more t ts) (more u us) up = ap₂ together (compare_renamed g t u up) (compare_each_renamed g ts us up) ∙ together_renamed g (compare t u) (compare_each ts us)

-- ---- the places of a variable

two_renamed : (g : ℕ → ℕ) (p q : Replacement) → IsIncreasing g → two_answer (place_renamed g p) (place_renamed g q) ≡ answer_renamed g (two_answer p q)
two_renamed g p q up = if_renamed g (p.number == q.number) (compare (renamed g p.by) (renamed g q.by)) yes (compare p.by q.by) yes (compare_renamed g p.by q.by up) refl

one_renamed : (g : ℕ → ℕ) (p : Replacement) (qs : List Replacement) → IsIncreasing g → one_answer (place_renamed g p) (map (place_renamed g) qs) ≡ answer_renamed g (one_answer p qs)
one_renamed g p [] up = refl
one_renamed g p (q ∷ qs) up = ap₂ together (two_renamed g p q up) (one_renamed g p qs up) ∙ together_renamed g (two_answer p q) (one_answer p qs)

places_renamed : (g : ℕ → ℕ) (ps : List Replacement) → IsIncreasing g → each_answer (map (place_renamed g) ps) ≡ answer_renamed g (each_answer ps)
places_renamed g [] up = refl
places_renamed g (p ∷ ps) up = ap₂ together (one_renamed g p ps up) (places_renamed g ps up) ∙ together_renamed g (one_answer p ps) (each_answer ps)

-- ---- tests

look_renamed : (g : ℕ → ℕ) (i : TypeTest) (t : Term) → look i (renamed g t) ≡ answer_renamed g (look i t)
look_renamed g i (variable v) = refl
look_renamed g i (integer n) = known_renamed g _
look_renamed g i (atom a) = known_renamed g _
look_renamed g i (structure f ts) = ap known (found_renamed g i f ts) ∙ known_renamed g _

numbers_renamed : (g : ℕ → ℕ) (c : Comparison) (x y : Number) → numbers_answer c x y ≡ answer_renamed g (numbers_answer c x y)
numbers_renamed g c (Value i) (Value j) = known_renamed g (compared c i j)
numbers_renamed g c (Value i) Overflow = refl
numbers_renamed g c (Value i) ZeroDivisor = refl
numbers_renamed g c Overflow y = refl
numbers_renamed g c ZeroDivisor y = refl

sides_renamed : (g : ℕ → ℕ) (c : Comparison) (x y : Found Number) → sides_answer c (evaluated_renamed g x) (evaluated_renamed g y) ≡ answer_renamed g (sides_answer c x y)
sides_renamed g c (awaits v) y = refl
sides_renamed g c wrong y = refl
sides_renamed g c (found n) (awaits v) = refl
sides_renamed g c (found n) wrong = refl
sides_renamed g c (found n) (found m) = numbers_renamed g c n m

pub test_renamed : (g : ℕ → ℕ) (test : Test) → IsIncreasing g → test_answer (test_substituted (λ v. variable (g v)) test) ≡ answer_renamed g (test_answer test)
test_renamed g holds up = refl
test_renamed g (looks i t) up = look_renamed g i t
test_renamed g (is_same t u) up = compare_renamed g t u up
test_renamed g (is_other t u) up = ap opposite (compare_renamed g t u up) ∙ opposite_renamed g (compare t u)
test_renamed g (compares c t u) up = ap₂ (sides_answer c) (comes_renamed g t) (comes_renamed g u) ∙ sides_renamed g c (evaluated t) (evaluated u)

-- ---- tests beside the goal's variables

-- the numbers there: a test's own stay, and the goal's go after them as before
abbrev lifted : ℕ → (ℕ → ℕ) → ℕ → ℕ
lifted last g n = if nat_le n last then n else suc (last + g (n - suc last))

lifted_own : (last : ℕ) (g : ℕ → ℕ) (v : ℕ) → v ≤ last → lifted last g v ≡ v
lifted_own last g v few = cond-true (nat_le v last) v (suc (last + g (v - suc last))) (le-leb v last few)

over_last : (last v : ℕ) → last < v → nat_le v last ≡ false
over_last last v over = false_from_ne_true (nat_le v last) (λ e. let less = leb-true v last e in omega (arith, less, over))

lifted_over : (last : ℕ) (g : ℕ → ℕ) (v : ℕ) → last < v → lifted last g v ≡ suc (last + g (v - suc last))
lifted_over last g v over = cond-false (nat_le v last) v (suc (last + g (v - suc last))) (over_last last v over)

lifted_goal : (last : ℕ) (g : ℕ → ℕ) (v : ℕ) → lifted last g (suc (last + v)) ≡ suc (last + g v)
lifted_goal last g v =
    let back : suc (last + v) - suc last ≡ v = omega arith in
    lifted_over last g (suc (last + v)) (omega arith) ∙ ap (λ k. suc (last + g k)) back

side_of : (v last : ℕ) → (v ≤ last) ⊎ (last < v)
side_of v last = grind arith

lifted_up : (last : ℕ) (g : ℕ → ℕ) → IsIncreasing g → IsIncreasing (lifted last g)
lifted_up last g up v w less = by_sides (side_of v last) (side_of w last)
  where
    by_sides : (v ≤ last) ⊎ (last < v) → (w ≤ last) ⊎ (last < w) → lifted last g v < lifted last g w
    by_sides (inl a) (inl b) = let x = lifted_own last g v a in let y = lifted_own last g w b in omega (arith, less, x, y)
    by_sides (inl a) (inr b) = let x = lifted_own last g v a in let y = lifted_over last g w b in omega (arith, a, x, y)
    by_sides (inr a) (inl b) = absurd (omega (arith, a, b, less))
    by_sides (inr a) (inr b) =
        let x = lifted_over last g v a in
        let y = lifted_over last g w b in
        let before : v - suc last < w - suc last = omega (arith, a, b, less) in
        let z = up (v - suc last) (w - suc last) before in
        omega (arith, x, y, z)

beside_renamed : (last : ℕ) (g : ℕ → ℕ) (t : Term) → beside last (renamed g t) ≡ renamed (lifted last g) (beside last t)
beside_renamed last g t =
    then_substituted (λ v. variable (suc (last + v))) (λ v. variable (g v)) t
    ∙ everywhere (λ v. variable (suc (last + g v))) (λ v. variable (lifted last g (suc (last + v)))) (λ v. ap variable (sym (lifted_goal last g v))) t
    ∙ sym (then_substituted (λ v. variable (lifted last g v)) (λ v. variable (suc (last + v))) t)

by_place : (last : ℕ) (g : ℕ → ℕ) (c : Bool) (t u x : Term) → u ≡ renamed (lifted last g) x → (if c then beside last (renamed g t) else u) ≡ renamed (lifted last g) (if c then beside last t else x)
by_place last g true t u x e = beside_renamed last g t
by_place last g false t u x e = e

variable_renamed : (last : ℕ) (g : ℕ → ℕ) (places : List Replacement) (v : ℕ) → v ≤ last → test_variable last (map (place_renamed g) places) v ≡ renamed (lifted last g) (test_variable last places v)
variable_renamed last g [] v few = ap variable (sym (lifted_own last g v few))
variable_renamed last g (p ∷ places) v few =
    by_place last g (p.number == v) p.by (test_variable last (map (place_renamed g) places) v) (test_variable last places v) (variable_renamed last g places v few)

own_by : (last : ℕ) (g : ℕ → ℕ) (v : ℕ) (vs ws : List ℕ) → vs ≡ map g ws → (v ≤ last) ⊎ (last < v) →
    (if nat_le (lifted last g v) last then vs else (lifted last g v - suc last) ∷ vs) ≡ map g (if nat_le v last then ws else (v - suc last) ∷ ws)
own_by last g v vs ws e (inl low) =
    let k = le-leb v last low in
    ap (λ n. if nat_le n last then vs else (n - suc last) ∷ vs) (lifted_own last g v low) ∙ cond-true (nat_le v last) vs ((v - suc last) ∷ vs) k ∙ e
    ∙ ap (map g) (sym (cond-true (nat_le v last) ws ((v - suc last) ∷ ws) k))
own_by last g v vs ws e (inr over) =
    let n = suc (last + g (v - suc last)) in
    let back : n - suc last ≡ g (v - suc last) = omega arith in
    ap (λ n. if nat_le n last then vs else (n - suc last) ∷ vs) (lifted_over last g v over) ∙ cond-false (nat_le n last) vs ((n - suc last) ∷ vs) (over_last last n (omega arith))
    ∙ ap₂ (λ (x : ℕ) (l : List ℕ). x ∷ l) back e
    ∙ ap (map g) (sym (cond-false (nat_le v last) ws ((v - suc last) ∷ ws) (over_last last v over)))

own_renamed : (last : ℕ) (g : ℕ → ℕ) (vs : List ℕ) → own_variables last (map (lifted last g) vs) ≡ map g (own_variables last vs)
own_renamed last g [] = refl
own_renamed last g (v ∷ vs) = own_by last g v (own_variables last (map (lifted last g) vs)) (own_variables last vs) (own_renamed last g vs) (side_of v last)

own_answer_renamed : (last : ℕ) (g : ℕ → ℕ) (a : Answer) → own_answer last (answer_renamed (lifted last g) a) ≡ answer_renamed g (own_answer last a)
own_answer_renamed last g yes = refl
own_answer_renamed last g no = refl
own_answer_renamed last g (wait vs) = ap wait (own_renamed last g vs)

by_renamed : (last : ℕ) (g : ℕ → ℕ) (before later : ℕ → Term) (again : (v : ℕ) → v ≤ last → later v ≡ renamed g (before v)) (x : Option Test) → FewOption last (λ v. variable (g v)) before later again x → IsIncreasing g →
    option_answer later x ≡ answer_renamed g (option_answer before x)
by_renamed last g before later again None few up = refl
by_renamed last g before later again (Some test) few up =
    ap test_answer (test_again last (λ v. variable (g v)) before later again test few) ∙ test_renamed g (test_substituted before test) up

one_test_renamed : (last : ℕ) (g : ℕ → ℕ) (places : List Replacement) (t : Term) → highest t ≤ last → IsIncreasing g → one_test_answer last (map (place_renamed g) places) t ≡ answer_renamed g (one_test_answer last places t)
one_test_renamed last g places t few up =
    let h = lifted last g in
    let before = test_variable last places in
    let later = test_variable last (map (place_renamed g) places) in
    let again = variable_renamed last g places in
    ap (own_answer last) (by_renamed last h before later again (test_of t) (few_test last (λ v. variable (h v)) before later again t few) (lifted_up last g up))
    ∙ own_answer_renamed last g (option_answer before (test_of t))

tests_renamed : (last : ℕ) (g : ℕ → ℕ) (places : List Replacement) (ts : List Term) → highest_in (terms_of ts) ≤ last → IsIncreasing g → tests_answer last (map (place_renamed g) places) ts ≡ answer_renamed g (tests_answer last places ts)
tests_renamed last g places [] few up = refl
tests_renamed last g places (t ∷ ts) few up =
    ap₂ together (one_test_renamed last g places t (omega (arith, few)) up) (tests_renamed last g places ts (omega (arith, few)) up)
    ∙ together_renamed g (one_test_answer last places t) (tests_answer last places ts)

-- ---- verdicts

whole_renamed : (g : ℕ → ℕ) (tests : List Term) (m : Match) → IsIncreasing g → whole tests (match_renamed g m) ≡ answer_renamed g (whole tests m)
whole_renamed g tests m up =
    ap₂ together
    (ap (together (answer_renamed g m.answer)) (places_renamed g m.places up) ∙ together_renamed g m.answer (each_answer m.places))
    (tests_renamed (highest_in (terms_of tests)) g m.places tests (omega arith) up)
    ∙ together_renamed g (together m.answer (each_answer m.places)) (guard_answer m.places tests)

pub verdict_renamed : VerdictRenamed
verdict_renamed g c ts up = ap (whole c.tests) (patterns_renamed g c.patterns ts) ∙ whole_renamed g c.tests (match_patterns c.patterns ts) up
