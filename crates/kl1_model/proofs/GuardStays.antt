-- Outcomes of tests when variables are replaced.
use Rattle.std.proofs.Common.{◌≡◌, ℕ, suc, ◌+◌, ◌-◌, ◌≤◌, ◌==◌, Bool, true, false, if◌then◌else◌, List, [], ◌∷◌, refl, sym, ap, ap₂, ◌∙◌, arith, inl, inr}
use Rattle.std.specs.Prelude.{nat_le, bytes_eq, codes, Option, Some, None, option_map}
use Rattle.std.proofs.lemmas.Bool.{cond-true, cond-false, leb-true, le-leb, false_from_ne_true, false≢true}
use Rattle.std.proofs.lemmas.Bool.Decides.{leb_tells}
use Rattle.kl1_model.specs.declared.comparison.Comparison.{Comparison}
use Rattle.kl1_model.specs.declared.type_test.TypeTest.{TypeTest}
use Rattle.kl1_model.specs.declared.type_test.TypeTest.TheVariants as look_for
use Rattle.kl1_model.specs.Term.{Term, variable, integer, atom, structure, Terms, none, more, terms_of, substituted, each_substituted, Replacement}
use Rattle.kl1_model.specs.Meaning.{highest, highest_in}
use Rattle.kl1_model.specs.Answer.{Answer, yes, no, wait, opposite, known, awaited_in}
use Rattle.kl1_model.specs.Same.{compare}
use Rattle.kl1_model.specs.Arithmetic.{evaluated}
use Rattle.kl1_model.specs.Guard.{Test, holds, looks, is_same, is_other, compares, test_of, type_test_named, comparison_named, test_substituted, is_found, look, sides_answer, test_answer}
use Rattle.kl1_model.specs.Match.{option_answer, two_answer, one_answer, each_answer, beside, test_variable, own_variables, own_answer, one_test_answer, tests_answer, guard_answer}
use Rattle.kl1_model.specs.code.Waits.{LeavesEach, awaited_by_found}
pub use Rattle.kl1_model.specs.laws.CompareLaws.{Stays}
use Rattle.kl1_model.specs.laws.WaitsLaws.{place_substituted, places_substituted}
pub use Rattle.kl1_model.proofs.Comparisons.{both_stay}
use Rattle.kl1_model.proofs.Comparisons.{compare_stays}
use Rattle.kl1_model.proofs.ScanStays.{evaluated_stays}
use Rattle.kl1_model.specs.Found.{Found, found, awaits, wrong}
use Rattle.kl1_model.specs.declared.number.Number.{Number}

-- ---- the other answer

opposite_stays : (s : ℕ → Term) (a b : Answer) → Stays s a b → Stays s (opposite a) (opposite b)
opposite_stays s yes b f l = ap opposite (f tt)
opposite_stays s no b f l = ap opposite (f tt)
opposite_stays s (wait vs) b f l = ap opposite (f l)

-- ---- looks and comparisons

found_stays : (s : ℕ → Term) (i : TypeTest) (f : List ℕ) (ts : Terms) → is_found i (structure f (each_substituted s ts)) ≡ is_found i (structure f ts)
found_stays s look_for.Bound f ts = refl
found_stays s look_for.Integer f ts = refl
found_stays s look_for.Atom f ts = refl
found_stays s look_for.Cell f none = refl
found_stays s look_for.Cell f (more a none) = refl
found_stays s look_for.Cell f (more a (more b none)) = refl
found_stays s look_for.Cell f (more a (more b (more c ts))) = refl

look_stays : (s : ℕ → Term) (i : TypeTest) (t : Term) → Stays s (look i t) (look i (substituted s t))
look_stays s i (variable v) l = ap (look i) l.0
look_stays s i (integer n) l = refl
look_stays s i (atom a) l = refl
look_stays s i (structure f ts) l = ap known (found_stays s i f ts)

sides_stay : (s : ℕ → Term) (c : Comparison) (p q x y : Found Number) → (LeavesEach s (awaited_by_found x) → p ≡ x) → (LeavesEach s (awaited_by_found y) → q ≡ y) → Stays s (sides_answer c x y) (sides_answer c p q)
sides_stay s c p q (awaits v) y f g l = ap (λ x. sides_answer c x q) (f l)
sides_stay s c p q wrong y f g l = ap (λ x. sides_answer c x q) (f tt)
sides_stay s c p q (found n) (awaits v) f g l = ap₂ (sides_answer c) (f tt) (g l)
sides_stay s c p q (found n) wrong f g l = ap₂ (sides_answer c) (f tt) (g tt)
sides_stay s c p q (found n) (found m) f g l = ap₂ (sides_answer c) (f tt) (g tt)

-- the outcome of a test stays until a variable for which it waits is replaced
pub test_answer_stays : (s : ℕ → Term) (test : Test) → Stays s (test_answer test) (test_answer (test_substituted s test))
test_answer_stays s holds l = refl
test_answer_stays s (looks i t) l = look_stays s i t l
test_answer_stays s (is_same t u) l = compare_stays s t u l
test_answer_stays s (is_other t u) l = opposite_stays s (compare t u) (compare (substituted s t) (substituted s u)) (compare_stays s t u) l
test_answer_stays s (compares c t u) l = sides_stay s c (evaluated (substituted s t)) (evaluated (substituted s u)) (evaluated t) (evaluated u) (evaluated_stays s t) (evaluated_stays s u) l

-- ---- substitutions one after another, and substitutions that agree

mutual
  pub then_substituted : (f g : ℕ → Term) (t : Term) → substituted f (substituted g t) ≡ substituted (λ v. substituted f (g v)) t
  then_substituted f g (variable v) = refl
  then_substituted f g (integer i) = refl
  then_substituted f g (atom a) = refl
  then_substituted f g (structure h ts) = ap (structure h) (then_each_substituted f g ts)

  then_each_substituted : (f g : ℕ → Term) (ts : Terms) → each_substituted f (each_substituted g ts) ≡ each_substituted (λ v. substituted f (g v)) ts
  then_each_substituted f g none = refl
  then_each_substituted f g (more t ts) = ap₂ more (then_substituted f g t) (then_each_substituted f g ts)

mutual
  agreeing : (f g : ℕ → Term) (last : ℕ) → ((v : ℕ) → v ≤ last → f v ≡ g v) → (t : Term) → highest t ≤ last → substituted f t ≡ substituted g t
  agreeing f g last same_to (variable v) few = same_to v few
  agreeing f g last same_to (integer i) few = refl
  agreeing f g last same_to (atom a) few = refl
  agreeing f g last same_to (structure h ts) few = ap (structure h) (each_agreeing f g last same_to ts few)

  each_agreeing : (f g : ℕ → Term) (last : ℕ) → ((v : ℕ) → v ≤ last → f v ≡ g v) → (ts : Terms) → highest_in ts ≤ last → each_substituted f ts ≡ each_substituted g ts
  each_agreeing f g last same_to none few = refl
  each_agreeing f g last same_to (more t ts) few = ap₂ more (agreeing f g last same_to t (omega (arith, few))) (each_agreeing f g last same_to ts (omega (arith, few)))

pub everywhere : (f g : ℕ → Term) → ((v : ℕ) → f v ≡ g v) → (t : Term) → substituted f t ≡ substituted g t
everywhere f g all t = agreeing f g (highest t) (λ v few. all v) t (omega arith)

-- ---- tests beside the goal's variables

-- a substitution of the goal's variables, with those of a test before them
abbrev lift : ℕ → (ℕ → Term) → ℕ → Term
lift last s n = if nat_le n last then variable n else beside last (s (n - suc last))

lift_own : (last : ℕ) (s : ℕ → Term) (v : ℕ) → v ≤ last → lift last s v ≡ variable v
lift_own last s v few = cond-true (nat_le v last) (variable v) (beside last (s (v - suc last))) (le-leb v last few)

pub behind_last : (last v : ℕ) → nat_le (suc (last + v)) last ≡ false
behind_last last v = false_from_ne_true (nat_le (suc (last + v)) last) (λ e. let less = leb-true (suc (last + v)) last e in omega (arith, less))

lift_goal : (last : ℕ) (s : ℕ → Term) (v : ℕ) → lift last s (suc (last + v)) ≡ beside last (s v)
lift_goal last s v =
    let back : suc (last + v) - suc last ≡ v = omega arith in
    cond-false (nat_le (suc (last + v)) last) (variable (suc (last + v))) (beside last (s (suc (last + v) - suc last))) (behind_last last v) ∙ ap (λ k. beside last (s k)) back

lift_beside : (last : ℕ) (s : ℕ → Term) (t : Term) → substituted (lift last s) (beside last t) ≡ beside last (substituted s t)
lift_beside last s t =
    then_substituted (lift last s) (λ v. variable (suc (last + v))) t
    ∙ everywhere (λ v. lift last s (suc (last + v))) (λ v. beside last (s v)) (lift_goal last s) t
    ∙ sym (then_substituted (λ v. variable (suc (last + v))) s t)

by_place : (last : ℕ) (s : ℕ → Term) (c : Bool) (t u x : Term) → u ≡ substituted (lift last s) x → (if c then beside last (substituted s t) else u) ≡ substituted (lift last s) (if c then beside last t else x)
by_place last s true t u x e = sym (lift_beside last s t)
by_place last s false t u x e = e

test_variable_stays : (last : ℕ) (s : ℕ → Term) (places : List Replacement) (v : ℕ) → v ≤ last → test_variable last (places_substituted s places) v ≡ substituted (lift last s) (test_variable last places v)
test_variable_stays last s [] v few = sym (lift_own last s v few)
test_variable_stays last s (p ∷ places) v few =
    by_place last s (p.number == v) p.by (test_variable last (places_substituted s places) v) (test_variable last places v) (test_variable_stays last s places v few)

-- what stands for the variables of a test before and after, if a substitution makes the one of the other
module _ (last : ℕ) (s before later : ℕ → Term) (again : (v : ℕ) → v ≤ last → later v ≡ substituted s (before v)) where
  term_again : (t : Term) → highest t ≤ last → substituted later t ≡ substituted s (substituted before t)
  term_again t few = agreeing later (λ v. substituted s (before v)) last again t few ∙ sym (then_substituted s before t)

  -- the variables of a test are numbered up to the last
  abbrev pub FewIn : Test → Type 0
  FewIn holds = Unit {0}
  FewIn (looks i t) = highest t ≤ last
  FewIn (is_same t u) = (highest t ≤ last) × (highest u ≤ last)
  FewIn (is_other t u) = (highest t ≤ last) × (highest u ≤ last)
  FewIn (compares c t u) = (highest t ≤ last) × (highest u ≤ last)

  abbrev pub FewOption : Option Test → Type 0
  FewOption None = Unit {0}
  FewOption (Some test) = FewIn test

  pub test_again : (test : Test) → FewIn test → test_substituted later test ≡ test_substituted s (test_substituted before test)
  test_again holds few = refl
  test_again (looks i t) few = ap (looks i) (term_again t few)
  test_again (is_same t u) few = ap₂ is_same (term_again t few.0) (term_again u few.1)
  test_again (is_other t u) few = ap₂ is_other (term_again t few.0) (term_again u few.1)
  test_again (compares c t u) few = ap₂ (compares c) (term_again t few.0) (term_again u few.1)

  few_true : (c : Bool) → FewOption (if c then Some holds else None)
  few_true true = tt
  few_true false = tt

  few_one : (o : Option TypeTest) (a : Term) → highest a ≤ last → FewOption (option_map (λ i. looks i a) o)
  few_one None a few = tt
  few_one (Some i) a few = few

  few_two : (c d : Bool) (o : Option Comparison) (a b : Term) → highest a ≤ last → highest b ≤ last → FewOption (if c then Some (is_same a b) else if d then Some (is_other a b) else option_map (λ k. compares k a b) o)
  few_two true d o a b few less = (few, less)
  few_two false true o a b few less = (few, less)
  few_two false false None a b few less = tt
  few_two false false (Some k) a b few less = (few, less)

  pub few_test : (t : Term) → highest t ≤ last → FewOption (test_of t)
  few_test (variable v) few = tt
  few_test (integer i) few = tt
  few_test (atom a) few = few_true (bytes_eq a (codes "true"))
  few_test (structure f none) few = tt
  few_test (structure f (more a none)) few = few_one (type_test_named f) a (omega (arith, few))
  few_test (structure f (more a (more b none))) few = few_two (bytes_eq f (codes "=")) (bytes_eq f (codes "\\=")) (comparison_named f) a b (omega (arith, few)) (omega (arith, few))
  few_test (structure f (more a (more b (more c ts)))) few = tt

  pub by_test : (x : Option Test) → FewOption x → Stays s (option_answer before x) (option_answer later x)
  by_test None few l = refl
  by_test (Some test) few l = ap test_answer (test_again test few) ∙ test_answer_stays s (test_substituted before test) l

more_than : (v last : ℕ) → nat_le v last ≡ false → suc last ≤ v
more_than v last e = elim (leb_tells v last) [ inl a ↦ absurd (false≢true (sym e ∙ a.0)) | inr b ↦ b.1 ]

lifted_by : (last : ℕ) (s : ℕ → Term) (v : ℕ) (vs : List ℕ) (c : Bool) → nat_le v last ≡ c → (LeavesEach s (own_variables last vs) → LeavesEach (lift last s) vs) → LeavesEach s (if c then own_variables last vs else (v - suc last) ∷ own_variables last vs) → LeavesEach (lift last s) (v ∷ vs)
lifted_by last s v vs true e f k = (cond-true (nat_le v last) (variable v) (beside last (s (v - suc last))) e, f k)
lifted_by last s v vs false e f k =
    let above : suc last ≤ v = more_than v last e in
    let back : suc (last + (v - suc last)) ≡ v = omega (arith, above) in
    (cond-false (nat_le v last) (variable v) (beside last (s (v - suc last))) e ∙ ap (beside last) k.0 ∙ ap variable back, f k.1)

lifted : (last : ℕ) (s : ℕ → Term) (vs : List ℕ) → LeavesEach s (own_variables last vs) → LeavesEach (lift last s) vs
lifted last s [] l = tt
lifted last s (v ∷ vs) l = lifted_by last s v vs (nat_le v last) refl (lifted last s vs) l

own_left : (last : ℕ) (s : ℕ → Term) (o : Answer) → LeavesEach s (awaited_in (own_answer last o)) → LeavesEach (lift last s) (awaited_in o)
own_left last s yes l = tt
own_left last s no l = tt
own_left last s (wait vs) l = lifted last s vs l

test_stays : (last : ℕ) (s : ℕ → Term) (places : List Replacement) (t : Term) → highest t ≤ last → Stays s (one_test_answer last places t) (one_test_answer last (places_substituted s places) t)
test_stays last s places t few l =
    let before = test_variable last places in
    let later = test_variable last (places_substituted s places) in
    let again = test_variable_stays last s places in
    ap (own_answer last) (by_test last (lift last s) before later again (test_of t) (few_test last (lift last s) before later again t few) (own_left last s (option_answer before (test_of t)) l))

tests_stay : (last : ℕ) (s : ℕ → Term) (places : List Replacement) (ts : List Term) → highest_in (terms_of ts) ≤ last → Stays s (tests_answer last places ts) (tests_answer last (places_substituted s places) ts)
tests_stay last s places [] few l = refl
tests_stay last s places (t ∷ ts) few l =
    both_stay s (one_test_answer last places t) (tests_answer last places ts) (one_test_answer last (places_substituted s places) t) (tests_answer last (places_substituted s places) ts)
    (test_stays last s places t (omega (arith, few)))
    (tests_stay last s places ts (omega (arith, few)))
    l

-- the outcome of a guard stays until a variable for which it waits is replaced
pub guard_stays : (s : ℕ → Term) (places : List Replacement) (ts : List Term) → Stays s (guard_answer places ts) (guard_answer (places_substituted s places) ts)
guard_stays s places ts = tests_stay (highest_in (terms_of ts)) s places ts (omega arith)

-- ---- the places of a variable

by_same : (s : ℕ → Term) (c : Bool) (t u : Term) → Stays s (if c then compare t u else yes) (if c then compare (substituted s t) (substituted s u) else yes)
by_same s true t u l = compare_stays s t u l
by_same s false t u l = refl

one_answer_stays : (s : ℕ → Term) (p : Replacement) (qs : List Replacement) → Stays s (one_answer p qs) (one_answer (place_substituted s p) (places_substituted s qs))
one_answer_stays s p [] l = refl
one_answer_stays s p (q ∷ qs) l =
    both_stay s (two_answer p q) (one_answer p qs) (two_answer (place_substituted s p) (place_substituted s q)) (one_answer (place_substituted s p) (places_substituted s qs))
    (by_same s (p.number == q.number) p.by q.by)
    (one_answer_stays s p qs)
    l

-- what the places of variables come to stays until a variable for which they wait is replaced
pub each_answer_stays : (s : ℕ → Term) (ps : List Replacement) → Stays s (each_answer ps) (each_answer (places_substituted s ps))
each_answer_stays s [] l = refl
each_answer_stays s (p ∷ ps) l =
    both_stay s (one_answer p ps) (each_answer ps) (one_answer (place_substituted s p) (places_substituted s ps)) (each_answer (places_substituted s ps))
    (one_answer_stays s p ps)
    (each_answer_stays s ps)
    l
