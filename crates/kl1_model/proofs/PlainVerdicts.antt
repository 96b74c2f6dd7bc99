-- Verdicts without what they wait for are what they were.
use Rattle.std.proofs.Common.{◌≡◌, ℕ, suc, ◌+◌, ◌-◌, ◌≤◌, ◌==◌, ◌&&◌, Bool, true, false, if◌then◌else◌, List, [], ◌∷◌, ◌++◌, refl, sym, ap, ap₂, ◌∙◌, subst, arith, inl, inr}
use Rattle.std.specs.Prelude.{nat_le, bytes_eq}
use Rattle.std.specs.Ordering.{int_eq}
use Rattle.std.proofs.lemmas.Bool.{cond-true, cond-false, leb-true, le-leb, false_from_ne_true}
use Rattle.std.proofs.lemmas.Bool.Decides.{leb_tells}
use Rattle.kl1_model.specs.Term.{Term, variable, integer, atom, structure, Terms, none, more, terms_of, count_of, substituted, each_substituted, Replacement}
use Rattle.kl1_model.specs.Meaning.{highest, highest_in}
use Rattle.kl1_model.specs.Answer.{Answer, yes, no, wait, together}
use Rattle.kl1_model.specs.Same.{compare}
use Rattle.kl1_model.specs.code.Comparing.{passive}
use Rattle.kl1_model.specs.Guard.{test_of}
use Rattle.kl1_model.specs.Module.{Clause}
use Rattle.kl1_model.specs.Match.{Match, option_answer, with_answer, match_both, match_pattern, match_patterns, two_answer, one_answer, each_answer, beside, test_variable, own_answer, one_test_answer, tests_answer, guard_answer, whole}
use Rattle.kl1_model.specs.laws.PlainAnswers.{Plain, surely, never, plain, plain_together, plain_same, PlainMatch, plain_with, plain_both, plain_pattern, plain_patterns, plain_one, plain_each, guard_term, plain_tests, plain_whole}
use Rattle.kl1_model.specs.laws.PlainLaws.{MatchesStand, VerdictsStand}
use Rattle.kl1_model.proofs.Comparisons.{compare_plain}
use Rattle.kl1_model.proofs.GuardStays.{then_substituted}
use Rattle.kl1_model.proofs.Renamed.{renamed, IsOneToOne}
use Rattle.kl1_model.proofs.PlainTests.{answer_both, answer_decided, answer_by_plain, Renames, same_answer_made}

-- ---- matches

-- a match without what it waits for
abbrev pub answered : Match → PlainMatch
answered m = record { answer = plain m.answer; places = m.places }

answered_both : (a b : Match) → answered (match_both a b) ≡ plain_both (answered a) (answered b)
answered_both a b = ap (λ (x : Plain). let m : PlainMatch = record { answer = x; places = a.places ++ b.places } in m) (answer_both a.answer b.answer)

answered_inside : (c : Bool) (m : Match) (n : PlainMatch) → answered m ≡ n → answered (if c then m else with_answer no) ≡ (if c then n else plain_with never)
answered_inside true m n e = e
answered_inside false m n e = refl

mutual
  pattern_answer : (p t : Term) → answered (match_pattern p t) ≡ plain_pattern p t
  pattern_answer (variable v) t = refl
  pattern_answer (integer i) (variable w) = refl
  pattern_answer (integer i) (integer j) = ap (λ a. plain_with a) (answer_decided (int_eq i j))
  pattern_answer (integer i) (atom b) = refl
  pattern_answer (integer i) (structure g us) = refl
  pattern_answer (atom a) (variable w) = refl
  pattern_answer (atom a) (integer j) = refl
  pattern_answer (atom a) (atom b) = ap (λ x. plain_with x) (answer_decided (bytes_eq a b))
  pattern_answer (atom a) (structure g us) = refl
  pattern_answer (structure f ps) (variable w) = refl
  pattern_answer (structure f ps) (integer j) = refl
  pattern_answer (structure f ps) (atom b) = refl
  pattern_answer (structure f ps) (structure g ts) = answered_inside (bytes_eq f g && count_of ps == count_of ts) (match_patterns ps ts) (plain_patterns ps ts) (patterns_answer ps ts)

  pub patterns_answer : (ps ts : Terms) → answered (match_patterns ps ts) ≡ plain_patterns ps ts
  patterns_answer none none = refl
  patterns_answer none (more t ts) = refl
  patterns_answer (more p ps) none = refl
  patterns_answer (more p ps) (more t ts) = answered_both (match_pattern p t) (match_patterns ps ts) ∙ ap₂ plain_both (pattern_answer p t) (patterns_answer ps ts)

-- ---- places

by_number : (c : Bool) (o : Answer) (a : Plain) → plain o ≡ a → plain (if c then o else yes) ≡ (if c then a else surely)
by_number true o a e = e
by_number false o a e = refl

one_answers : (p : Replacement) (qs : List Replacement) → plain (one_answer p qs) ≡ plain_one p qs
one_answers p [] = refl
one_answers p (q ∷ qs) =
    answer_both (two_answer p q) (one_answer p qs)
    ∙ ap₂ plain_together (by_number (p.number == q.number) (compare p.by q.by) (plain_same (passive p.by q.by)) (compare_plain p.by q.by)) (one_answers p qs)

each_answers : (ps : List Replacement) → plain (each_answer ps) ≡ plain_each ps
each_answers [] = refl
each_answers (p ∷ ps) = answer_both (one_answer p ps) (each_answer ps) ∙ ap₂ plain_together (one_answers p ps) (each_answers ps)

-- ---- the variables of tests

-- the numbers that variables have in the guard, if a test's own go up to the last: the goal's are what they are in
-- the goal, and the test's own are above the goal's
abbrev pub guard_number : ℕ → ℕ → ℕ → ℕ
guard_number last top v = if nat_le v last then suc (top + v) else v - suc last

pub own_number : (last top v : ℕ) → v ≤ last → guard_number last top v ≡ suc (top + v)
own_number last top v few = cond-true (nat_le v last) (suc (top + v)) (v - suc last) (le-leb v last few)

above_last : (last v : ℕ) → suc last ≤ v → nat_le v last ≡ false
above_last last v over = false_from_ne_true (nat_le v last) (λ e. let less = leb-true v last e in omega (arith, less, over))

pub goal_number : (last top v : ℕ) → suc last ≤ v → guard_number last top v ≡ v - suc last
goal_number last top v over = cond-false (nat_le v last) (suc (top + v)) (v - suc last) (above_last last v over)

number_once : (last top : ℕ) → IsOneToOne (guard_number last top) (suc (last + top))
number_once last top v w few less e =
    elim (leb_tells v last) [
      | inl a ↦
          elim (leb_tells w last) [
            | inl b ↦ let k : suc (top + v) ≡ suc (top + w) = sym (own_number last top v a.1) ∙ e ∙ own_number last top w b.1 in omega (arith, k)
            | inr b ↦ let k : suc (top + v) ≡ w - suc last = sym (own_number last top v a.1) ∙ e ∙ goal_number last top w b.1 in let over = b.1 in absurd (omega (arith, k, over, less))
          ]
      | inr a ↦
          elim (leb_tells w last) [
            | inl b ↦ let k : v - suc last ≡ suc (top + w) = sym (goal_number last top v a.1) ∙ e ∙ own_number last top w b.1 in let over = a.1 in absurd (omega (arith, k, over, few))
            | inr b ↦ let k : v - suc last ≡ w - suc last = sym (goal_number last top v a.1) ∙ e ∙ goal_number last top w b.1 in let over = a.1 in let past = b.1 in omega (arith, k, over, past)
          ]
    ]

mutual
  unchanged : (f : ℕ → Term) → ((v : ℕ) → f v ≡ variable v) → (t : Term) → substituted f t ≡ t
  unchanged f all (variable v) = all v
  unchanged f all (integer i) = refl
  unchanged f all (atom a) = refl
  unchanged f all (structure g ts) = ap (structure g) (each_unchanged f all ts)

  each_unchanged : (f : ℕ → Term) → ((v : ℕ) → f v ≡ variable v) → (ts : Terms) → each_substituted f ts ≡ ts
  each_unchanged f all none = refl
  each_unchanged f all (more t ts) = ap₂ more (unchanged f all t) (each_unchanged f all ts)

-- a term of the goal is there what it is in the goal
back_in_goal : (last top : ℕ) (t : Term) → renamed (guard_number last top) (beside last t) ≡ t
back_in_goal last top t =
    then_substituted (λ v. variable (guard_number last top v)) (λ v. variable (suc (last + v))) t
    ∙ unchanged (λ v. variable (guard_number last top (suc (last + v))))
    (λ v. let back : suc (last + v) - suc last ≡ v = omega arith in ap variable (goal_number last top (suc (last + v)) (omega arith) ∙ back)) t

variable_made_by : (last top : ℕ) (c : Bool) (t u x : Term) → u ≡ renamed (guard_number last top) x → (if c then t else u) ≡ renamed (guard_number last top) (if c then beside last t else x)
variable_made_by last top true t u x e = sym (back_in_goal last top t)
variable_made_by last top false t u x e = e

variable_made : (last top : ℕ) (places : List Replacement) (v : ℕ) → v ≤ last → guard_term top places v ≡ renamed (guard_number last top) (test_variable last places v)
variable_made last top [] v few = ap variable (sym (own_number last top v few))
variable_made last top (p ∷ places) v few =
    variable_made_by last top (p.number == v) p.by (guard_term top places v) (test_variable last places v) (variable_made last top places v few)

-- ---- the greatest variable

-- the terms at places have variables up to the greatest
abbrev pub AreUpTo : ℕ → List Replacement → Type 0
AreUpTo top [] = Unit {0}
AreUpTo top (p ∷ ps) = (highest p.by ≤ top) × AreUpTo top ps

both_up_to : (top : ℕ) (ps qs : List Replacement) → AreUpTo top ps → AreUpTo top qs → AreUpTo top (ps ++ qs)
both_up_to top [] qs a b = b
both_up_to top (p ∷ ps) qs a b = (a.0, both_up_to top ps qs a.1 b)

inside_up_to : (top : ℕ) (c : Bool) (m : PlainMatch) → AreUpTo top m.places → AreUpTo top (if c then m else plain_with never).places
inside_up_to top true m a = a
inside_up_to top false m a = tt

mutual
  match_up_to : (top : ℕ) (p t : Term) → highest t ≤ top → AreUpTo top (plain_pattern p t).places
  match_up_to top (variable v) t few = (few, tt)
  match_up_to top (integer i) (variable w) few = tt
  match_up_to top (integer i) (integer j) few = tt
  match_up_to top (integer i) (atom b) few = tt
  match_up_to top (integer i) (structure g us) few = tt
  match_up_to top (atom a) (variable w) few = tt
  match_up_to top (atom a) (integer j) few = tt
  match_up_to top (atom a) (atom b) few = tt
  match_up_to top (atom a) (structure g us) few = tt
  match_up_to top (structure f ps) (variable w) few = tt
  match_up_to top (structure f ps) (integer j) few = tt
  match_up_to top (structure f ps) (atom b) few = tt
  match_up_to top (structure f ps) (structure g ts) few = inside_up_to top (bytes_eq f g && count_of ps == count_of ts) (plain_patterns ps ts) (matches_up_to top ps ts few)

  matches_up_to : (top : ℕ) (ps ts : Terms) → highest_in ts ≤ top → AreUpTo top (plain_patterns ps ts).places
  matches_up_to top none none few = tt
  matches_up_to top none (more t ts) few = tt
  matches_up_to top (more p ps) none few = tt
  matches_up_to top (more p ps) (more t ts) few =
      both_up_to top (plain_pattern p t).places (plain_patterns ps ts).places (match_up_to top p t (omega (arith, few))) (matches_up_to top ps ts (omega (arith, few)))

mutual
  beside_up_to : (last top : ℕ) (t : Term) → highest t ≤ top → highest (beside last t) ≤ suc (last + top)
  beside_up_to last top (variable v) few = omega (arith, few)
  beside_up_to last top (integer i) few = omega arith
  beside_up_to last top (atom a) few = omega arith
  beside_up_to last top (structure f ts) few = each_beside_up_to last top ts few

  each_beside_up_to : (last top : ℕ) (ts : Terms) → highest_in ts ≤ top → highest_in (each_substituted (λ v. variable (suc (last + v))) ts) ≤ suc (last + top)
  each_beside_up_to last top none few = omega arith
  each_beside_up_to last top (more t ts) few =
      let one : highest (beside last t) ≤ suc (last + top) = beside_up_to last top t (omega (arith, few)) in
      let rest : highest_in (each_substituted (λ v. variable (suc (last + v))) ts) ≤ suc (last + top) = each_beside_up_to last top ts (omega (arith, few)) in
      omega (arith, one, rest)

variable_up_to_by : (last top : ℕ) (c : Bool) (t x : Term) → highest t ≤ top → highest x ≤ suc (last + top) → highest (if c then beside last t else x) ≤ suc (last + top)
variable_up_to_by last top true t x few less = beside_up_to last top t few
variable_up_to_by last top false t x few less = less

variable_up_to : (last top : ℕ) (places : List Replacement) (v : ℕ) → AreUpTo top places → v ≤ last → highest (test_variable last places v) ≤ suc (last + top)
variable_up_to last top [] v a few = omega (arith, few)
variable_up_to last top (p ∷ places) v a few = variable_up_to_by last top (p.number == v) p.by (test_variable last places v) a.0 (variable_up_to last top places v a.1 few)

-- what stands for the variables of tests differs by their numbers alone
pub renames : (last top : ℕ) (places : List Replacement) → AreUpTo top places → Renames (guard_number last top) last (suc (last + top)) (test_variable last places) (guard_term top places)
renames last top places a =
    record { makes = variable_made last top places; up_to = λ v few. variable_up_to last top places v a few; once = number_once last top }

-- ---- tests

plain_own : (last : ℕ) (o : Answer) → plain (own_answer last o) ≡ plain o
plain_own last yes = refl
plain_own last no = refl
plain_own last (wait vs) = refl

tests_answered : (last top : ℕ) (places : List Replacement) → AreUpTo top places → (ts : List Term) → highest_in (terms_of ts) ≤ last → plain (tests_answer last places ts) ≡ plain_tests (guard_term top places) ts
tests_answered last top places a [] few = refl
tests_answered last top places a (t ∷ ts) few =
    answer_both (one_test_answer last places t) (tests_answer last places ts)
    ∙ ap₂ plain_together
    (plain_own last (option_answer (test_variable last places) (test_of t))
    ∙ answer_by_plain (test_variable last places) (test_of t)
    ∙ same_answer_made (guard_number last top) last (suc (last + top)) (test_variable last places) (guard_term top places) (renames last top places a) t (omega (arith, few)))
    (tests_answered last top places a ts (omega (arith, few)))

-- ---- verdicts

whole_answered : (tests : List Term) (top : ℕ) (m : Match) → AreUpTo top m.places → plain (whole tests m) ≡ plain_whole tests top (answered m)
whole_answered tests top m a =
    answer_both (together m.answer (each_answer m.places)) (guard_answer m.places tests)
    ∙ ap₂ plain_together
    (answer_both m.answer (each_answer m.places) ∙ ap (plain_together (plain m.answer)) (each_answers m.places))
    (tests_answered (highest_in (terms_of tests)) top m.places a tests (omega arith))

places_up_to : (c : Clause) (ts : Terms) → AreUpTo (highest_in ts) (match_patterns c.patterns ts).places
places_up_to c ts = subst (λ (ps : List Replacement). AreUpTo (highest_in ts) ps) (sym (ap (λ (m : PlainMatch). m.places) (patterns_answer c.patterns ts))) (matches_up_to (highest_in ts) c.patterns ts (omega arith))

pub verdicts_stand : VerdictsStand
verdicts_stand c ts =
    let m = match_patterns c.patterns ts in
    whole_answered c.tests (highest_in ts) m (places_up_to c ts) ∙ ap (plain_whole c.tests (highest_in ts)) (patterns_answer c.patterns ts)

pub matches_stand : MatchesStand
matches_stand ps ts = let k = patterns_answer ps ts in (ap (λ (m : PlainMatch). m.answer) k, ap (λ (m : PlainMatch). m.places) k)
