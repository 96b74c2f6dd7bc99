-- The answers of tests without what they wait for are what they were, whatever the numbers of their variables.
use Rattle.std.proofs.Common.{◌≡◌, ℕ, ◌≤◌, Bool, true, false, if◌then◌else◌, refl, sym, ap, ap₂, ◌∙◌, arith}
use Rattle.std.specs.Prelude.{bytes_eq, codes, Option, Some, None, option_map}
use Rattle.kl1_model.specs.declared.comparison.Comparison.{Comparison}
use Rattle.kl1_model.specs.declared.type_test.TypeTest.{TypeTest}
use Rattle.kl1_model.specs.declared.number.Number.{Number}
use Rattle.kl1_model.specs.declared.number.Number.TheVariants.{Value, Overflow, ZeroDivisor}
use Rattle.kl1_model.specs.Term.{Term, variable, integer, atom, structure, Terms, none, more, substituted, each_substituted}
use Rattle.kl1_model.specs.Meaning.{highest, highest_in}
use Rattle.kl1_model.specs.Answer.{Answer, yes, no, wait, together, opposite, known}
use Rattle.kl1_model.specs.Same.{compare}
use Rattle.kl1_model.specs.code.Comparing.{Passive, same, differs, unknown, passive}
use Rattle.kl1_model.specs.Arithmetic.{evaluated}
use Rattle.kl1_model.specs.Guard.{Test, holds, looks, is_same, is_other, compares, test_of, type_test_named, comparison_named, test_substituted, is_found, compared, numbers_answer, sides_answer}
use Rattle.kl1_model.specs.Match.{option_answer}
use Rattle.kl1_model.specs.laws.PlainAnswers.{plain, plain_together, plain_known, plain_same, plain_other, plain_numbers, plain_sides, plain_test, plain_by}
use Rattle.kl1_model.specs.laws.PlainLaws.{TestsStand}
use Rattle.kl1_model.proofs.Comparisons.{compare_plain}
use Rattle.kl1_model.proofs.Renamed.{renamed, each_renamed, IsOneToOne, passive_renamed, evaluated_renamed, comes_renamed, found_renamed}
use Rattle.kl1_model.specs.Found.{Found, found, awaits, wrong}

-- ---- an answer without what it waits for

pub answer_both : (o p : Answer) → plain (together o p) ≡ plain_together (plain o) (plain p)
answer_both yes p = refl
answer_both no p = refl
answer_both (wait vs) yes = refl
answer_both (wait vs) no = refl
answer_both (wait vs) (wait ws) = refl

pub answer_decided : (b : Bool) → plain (known b) ≡ plain_known b
answer_decided true = refl
answer_decided false = refl

answer_other : (a : Answer) (p : Passive) → plain a ≡ plain_same p → plain (opposite a) ≡ plain_other p
answer_other yes same e = refl
answer_other yes differs e = absurd (cc)
answer_other yes unknown e = absurd (cc)
answer_other no same e = absurd (cc)
answer_other no differs e = refl
answer_other no unknown e = absurd (cc)
answer_other (wait vs) same e = absurd (cc)
answer_other (wait vs) differs e = absurd (cc)
answer_other (wait vs) unknown e = refl

answer_numbers : (c : Comparison) (x y : Number) → plain (numbers_answer c x y) ≡ plain_numbers c x y
answer_numbers c (Value x) (Value y) = answer_decided (compared c x y)
answer_numbers c (Value x) Overflow = refl
answer_numbers c (Value x) ZeroDivisor = refl
answer_numbers c Overflow y = refl
answer_numbers c ZeroDivisor y = refl

answer_sides : (c : Comparison) (x y : Found Number) → plain (sides_answer c x y) ≡ plain_sides c x y
answer_sides c (awaits v) y = refl
answer_sides c wrong y = refl
answer_sides c (found x) (awaits v) = refl
answer_sides c (found x) wrong = refl
answer_sides c (found x) (found y) = answer_numbers c x y

pub tests_stand : TestsStand
tests_stand holds = refl
tests_stand (looks i (variable v)) = refl
tests_stand (looks i (integer n)) = answer_decided (is_found i (integer n))
tests_stand (looks i (atom a)) = answer_decided (is_found i (atom a))
tests_stand (looks i (structure f ts)) = answer_decided (is_found i (structure f ts))
tests_stand (is_same t u) = compare_plain t u
tests_stand (is_other t u) = answer_other (compare t u) (passive t u) (compare_plain t u)
tests_stand (compares c t u) = answer_sides c (evaluated t) (evaluated u)

pub answer_by_plain : (s : ℕ → Term) (x : Option Test) → plain (option_answer s x) ≡ plain_by s x
answer_by_plain s None = refl
answer_by_plain s (Some test) = tests_stand (test_substituted s test)

-- ---- the answer of a test with other numbers for its variables

-- the variables of a test are numbered up to the greatest
abbrev pub IsUpTo : ℕ → Test → Type 0
IsUpTo most holds = Unit {0}
IsUpTo most (looks i t) = highest t ≤ most
IsUpTo most (is_same t u) = (highest t ≤ most) × (highest u ≤ most)
IsUpTo most (is_other t u) = (highest t ≤ most) × (highest u ≤ most)
IsUpTo most (compares c t u) = (highest t ≤ most) × (highest u ≤ most)

sides_renamed : (r : ℕ → ℕ) (c : Comparison) (x y : Found Number) → plain_sides c (evaluated_renamed r x) (evaluated_renamed r y) ≡ plain_sides c x y
sides_renamed r c (awaits v) y = refl
sides_renamed r c wrong y = refl
sides_renamed r c (found x) (awaits v) = refl
sides_renamed r c (found x) wrong = refl
sides_renamed r c (found x) (found y) = refl

pub answer_renamed : (r : ℕ → ℕ) (most : ℕ) (test : Test) → IsOneToOne r most → IsUpTo most test → plain_test (test_substituted (λ v. variable (r v)) test) ≡ plain_test test
answer_renamed r most holds once few = refl
answer_renamed r most (looks i (variable v)) once few = refl
answer_renamed r most (looks i (integer n)) once few = refl
answer_renamed r most (looks i (atom a)) once few = refl
answer_renamed r most (looks i (structure f ts)) once few = ap plain_known (found_renamed r i f ts)
answer_renamed r most (is_same t u) once few = ap plain_same (passive_renamed r most t u once few.0 few.1)
answer_renamed r most (is_other t u) once few = ap plain_other (passive_renamed r most t u once few.0 few.1)
answer_renamed r most (compares c t u) once few =
    ap₂ (plain_sides c) (comes_renamed r t) (comes_renamed r u) ∙ sides_renamed r c (evaluated t) (evaluated u)

-- ---- two substitutions, of which a renaming makes the second of the first

-- for each variable of a test the second gives what the renaming makes of what the first gives, whose variables are numbered
-- up to the greatest, and no two of these get one number
pub record Renames (r : ℕ → ℕ) (last most : ℕ) (first second : ℕ → Term) : Type 0 where
  pub makes : (v : ℕ) → v ≤ last → second v ≡ renamed r (first v)
  pub up_to : (v : ℕ) → v ≤ last → highest (first v) ≤ most
  pub once : IsOneToOne r most

mutual
  term_made : (r : ℕ → ℕ) (last most : ℕ) (first second : ℕ → Term) → Renames r last most first second → (t : Term) → highest t ≤ last → substituted second t ≡ renamed r (substituted first t)
  term_made r last most first second is (variable v) few = is.makes v few
  term_made r last most first second is (integer i) few = refl
  term_made r last most first second is (atom a) few = refl
  term_made r last most first second is (structure f ts) few = ap (structure f) (terms_made r last most first second is ts few)

  terms_made : (r : ℕ → ℕ) (last most : ℕ) (first second : ℕ → Term) → Renames r last most first second → (ts : Terms) → highest_in ts ≤ last → each_substituted second ts ≡ each_renamed r (each_substituted first ts)
  terms_made r last most first second is none few = refl
  terms_made r last most first second is (more t ts) few =
      ap₂ more (term_made r last most first second is t (omega (arith, few))) (terms_made r last most first second is ts (omega (arith, few)))

mutual
  term_up_to : (last most : ℕ) (first : ℕ → Term) → ((v : ℕ) → v ≤ last → highest (first v) ≤ most) → (t : Term) → highest t ≤ last → highest (substituted first t) ≤ most
  term_up_to last most first all (variable v) few = all v few
  term_up_to last most first all (integer i) few = omega arith
  term_up_to last most first all (atom a) few = omega arith
  term_up_to last most first all (structure f ts) few = terms_up_to last most first all ts few

  terms_up_to : (last most : ℕ) (first : ℕ → Term) → ((v : ℕ) → v ≤ last → highest (first v) ≤ most) → (ts : Terms) → highest_in ts ≤ last → highest_in (each_substituted first ts) ≤ most
  terms_up_to last most first all none few = omega arith
  terms_up_to last most first all (more t ts) few =
      let one : highest (substituted first t) ≤ most = term_up_to last most first all t (omega (arith, few)) in
      let rest : highest_in (each_substituted first ts) ≤ most = terms_up_to last most first all ts (omega (arith, few)) in
      omega (arith, one, rest)

pub test_made : (r : ℕ → ℕ) (last most : ℕ) (first second : ℕ → Term) → Renames r last most first second → (test : Test) → IsUpTo last test → test_substituted second test ≡ test_substituted (λ v. variable (r v)) (test_substituted first test)
test_made r last most first second is holds few = refl
test_made r last most first second is (looks i t) few = ap (looks i) (term_made r last most first second is t few)
test_made r last most first second is (is_same t u) few = ap₂ is_same (term_made r last most first second is t few.0) (term_made r last most first second is u few.1)
test_made r last most first second is (is_other t u) few = ap₂ is_other (term_made r last most first second is t few.0) (term_made r last most first second is u few.1)
test_made r last most first second is (compares c t u) few = ap₂ (compares c) (term_made r last most first second is t few.0) (term_made r last most first second is u few.1)

pub test_up_to : (last most : ℕ) (first : ℕ → Term) → ((v : ℕ) → v ≤ last → highest (first v) ≤ most) → (test : Test) → IsUpTo last test → IsUpTo most (test_substituted first test)
test_up_to last most first all holds few = tt
test_up_to last most first all (looks i t) few = term_up_to last most first all t few
test_up_to last most first all (is_same t u) few = (term_up_to last most first all t few.0, term_up_to last most first all u few.1)
test_up_to last most first all (is_other t u) few = (term_up_to last most first all t few.0, term_up_to last most first all u few.1)
test_up_to last most first all (compares c t u) few = (term_up_to last most first all t few.0, term_up_to last most first all u few.1)

-- the variables of what may be a test
abbrev pub MayBeUpTo : ℕ → Option Test → Type 0
MayBeUpTo last None = Unit {0}
MayBeUpTo last (Some test) = IsUpTo last test

answers_by : (r : ℕ → ℕ) (last most : ℕ) (first second : ℕ → Term) → Renames r last most first second → (x : Option Test) → MayBeUpTo last x → plain_by first x ≡ plain_by second x
answers_by r last most first second is None few = refl
answers_by r last most first second is (Some test) few =
    sym
    (ap plain_test (test_made r last most first second is test few)
    ∙ answer_renamed r most (test_substituted first test) is.once (test_up_to last most first is.up_to test few))

-- ---- the variables of the test that a term is

true_up_to : (last : ℕ) (c : Bool) → MayBeUpTo last (if c then Some holds else None)
true_up_to last true = tt
true_up_to last false = tt

one_up_to : (last : ℕ) (o : Option TypeTest) (a : Term) → highest a ≤ last → MayBeUpTo last (option_map (λ i. looks i a) o)
one_up_to last None a few = tt
one_up_to last (Some i) a few = few

two_up_to : (last : ℕ) (c d : Bool) (o : Option Comparison) (a b : Term) → highest a ≤ last → highest b ≤ last → MayBeUpTo last (if c then Some (is_same a b) else if d then Some (is_other a b) else option_map (λ k. compares k a b) o)
two_up_to last true d o a b few less = (few, less)
two_up_to last false true o a b few less = (few, less)
two_up_to last false false None a b few less = tt
two_up_to last false false (Some k) a b few less = (few, less)

pub read_up_to : (last : ℕ) (t : Term) → highest t ≤ last → MayBeUpTo last (test_of t)
read_up_to last (variable v) few = tt
read_up_to last (integer i) few = tt
read_up_to last (atom a) few = true_up_to last (bytes_eq a (codes "true"))
read_up_to last (structure f none) few = tt
read_up_to last (structure f (more a none)) few = one_up_to last (type_test_named f) a (omega (arith, few))
read_up_to last (structure f (more a (more b none))) few = two_up_to last (bytes_eq f (codes "=")) (bytes_eq f (codes "\\=")) (comparison_named f) a b (omega (arith, few)) (omega (arith, few))
read_up_to last (structure f (more a (more b (more c ts)))) few = tt

-- the answer of the test that a term is
pub same_answer_made : (r : ℕ → ℕ) (last most : ℕ) (first second : ℕ → Term) → Renames r last most first second → (t : Term) → highest t ≤ last → plain_by first (test_of t) ≡ plain_by second (test_of t)
same_answer_made r last most first second is t few = answers_by r last most first second is (test_of t) (read_up_to last t few)
