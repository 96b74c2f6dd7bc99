-- What a solution does, case by case of what the front equations led to.
use Rattle.std.proofs.Common.{Option, Some, None, ◌≡◌, ℕ, ◌≤◌, ◌≢◌, ◌==◌, false, List, [], ◌∷◌, refl, sym, ◌∙◌, ap, eq-eqb}
use Rattle.std.proofs.lemmas.Bool.{cond-true, eqb-false}
use Rattle.std.specs.List.{AllByRecursion}
use Rattle.kl1_model.specs.Term.{Term, variable, structure, Terms, count_of, occurs, replace, Replacement, substituted, each_substituted}
use Rattle.kl1_model.specs.code.Unifying.{replaced}
use Rattle.kl1_model.specs.Unify.{mgu, Equation, argument_equations, replace_in_all}
use Rattle.kl1_model.specs.laws.UnifyLaws.{equate, bind, NumberedTo, AllNumberedTo, MakesEqual, SolutionsMakeEqual, IsLower, ReplacedByLower, NeverComeBack, ReplacedOnce, ReplacedAreGone, SolutionsKeepNumbers, SolutionsAreMostGeneral, NoReplacementsAreMoreGeneral, NoneWhereNoneUnify}
use Rattle.kl1_model.proofs.TermFacts.{occurs-replace, occurs-replaced, replace-absent}
use Rattle.kl1_model.proofs.Occurrences.{numbered-replace_in_all, numbered-arguments, Absent, absent-replace_in_all, absent-replaced, absent-arguments}
use Rattle.kl1_model.proofs.Substitutions.{substituted-replace, values_of, replaced_is, equal_arguments, arguments_equal, MakesEqual-same, MakesEqual-replaced, replaced-MakesEqual}
use Rattle.kl1_model.proofs.UnifySound.{HoldsInEachCase, holds_of_solution}

-- ---- both sides become equal

-- after a replacement of a variable by a term without it, they are the same
bound_sides : (v : ℕ) (t : Term) (rs : List Replacement) → occurs v t ≡ false → replaced (bind v t ∷ rs) (variable v) ≡ replaced (bind v t ∷ rs) t
bound_sides v t rs o = ap (replaced rs) (cond-true (v == v) t (variable v) (eq-eqb v v refl) ∙ sym (replace-absent v t t o))

-- structures become equal if their arguments do
equal_structures : (f : List ℕ) (ts us : Terms) (es : List Equation) (rs : List Replacement) → count_of ts ≡ count_of us → MakesEqual (replaced rs) (argument_equations ts us es) → MakesEqual (replaced rs) (equate (structure f ts) (structure f us) ∷ es)
equal_structures f ts us es rs n h =
    let s = values_of rs in
    let k = equal_arguments s ts us es n (MakesEqual-same (replaced rs) (substituted s) (argument_equations ts us es) (replaced_is rs) h) in
    (replaced_is rs (structure f ts) ∙ ap (structure f) k.0 ∙ sym (replaced_is rs (structure f us)), MakesEqual-same (substituted s) (replaced rs) es (λ t. sym (replaced_is rs t)) k.1)

made_equal : HoldsInEachCase (λ es rs. MakesEqual (replaced rs) es)
made_equal = record {
  done = tt;
  same = λ t es rs h. (refl, h);
  inner = equal_structures;
  left = λ v t es rs o w h. (bound_sides v t rs o, MakesEqual-replaced (replaced rs) v t es h);
  right = λ v t es rs o w h. (sym (bound_sides v t rs o), MakesEqual-replaced (replaced rs) v t es h);
}

-- a solution makes both sides of each equation equal
pub solutions_make_equal : SolutionsMakeEqual
solutions_make_equal = holds_of_solution (λ es rs. MakesEqual (replaced rs) es) made_equal

-- ---- what replaces what

replaced_by_lower_cases : HoldsInEachCase (λ es rs. AllByRecursion (λ r. (occurs r.number r.by ≡ false) × IsLower r.number r.by) rs)
replaced_by_lower_cases = record {
  done = tt;
  same = λ t es rs h. h;
  inner = λ f ts us es rs n h. h;
  left = λ v t es rs o w h. ((o, w), h);
  right = λ v t es rs o w h. ((o, w), h);
}

-- a variable is replaced by a lower one, or by a term that is none and is without it
pub replaced_by_lower : ReplacedByLower
replaced_by_lower = holds_of_solution (λ es rs. AllByRecursion (λ r. (occurs r.number r.by ≡ false) × IsLower r.number r.by) rs) replaced_by_lower_cases

-- replacements with no such variable
abbrev Avoids : ℕ → List Replacement → Type 0
Avoids v rs = AllByRecursion (λ r. (r.number ≢ v) × (occurs v r.by ≡ false)) rs

-- what does not occur in the equations does not in the solution, and no number comes back
abbrev Orderly : List Equation → List Replacement → Type 0
Orderly es rs = ((v : ℕ) → Absent v es → Avoids v rs) × NeverComeBack rs

orderly_bound : (v : ℕ) (t : Term) (before es : List Equation) (rs : List Replacement) → occurs v t ≡ false → ((w : ℕ) → Absent w before → (occurs w (variable v) ≡ false) × (occurs w t ≡ false) × Absent w es) → Orderly (replace_in_all v t es) rs → Orderly before (bind v t ∷ rs)
orderly_bound v t before es rs o a h = (
  λ w b. let p = a w b in ((λ e. eqb-false w v p.0 (sym e), p.1), h.0 w (absent-replace_in_all w v t es p.1 p.2)),
  (h.0 v (absent-replaced v t es o), h.1),
)

orderly : HoldsInEachCase Orderly
orderly = record {
  done = (λ v a. tt, tt);
  same = λ t es rs h. (λ v a. h.0 v a.1, h.1);
  inner = λ f ts us es rs n h. (λ v a. h.0 v (absent-arguments v ts us es a.0.0 a.0.1 a.1), h.1);
  left = λ v t es rs o w h. orderly_bound v t (equate (variable v) t ∷ es) es rs o (λ x a. (a.0.0, a.0.1, a.1)) h;
  right = λ v t es rs o w h. orderly_bound v t (equate t (variable v) ∷ es) es rs o (λ x a. (a.0.1, a.0.0, a.1)) h;
}

-- no number comes back
pub replaced_once : ReplacedOnce
replaced_once es rs e = (holds_of_solution Orderly orderly es rs e).1

-- what later replacements avoid does not come back
avoided : (v : ℕ) (rs : List Replacement) (t : Term) → Avoids v rs → occurs v t ≡ false → occurs v (replaced rs t) ≡ false
avoided v [] t a h = h
avoided v (r ∷ rs) t a h = avoided v rs (replace r.number r.by t) a.1 (occurs-replace v r.number r.by t a.0.1 h)

all_gone : (rs : List Replacement) → AllByRecursion (λ r. (occurs r.number r.by ≡ false) × IsLower r.number r.by) rs → NeverComeBack rs → (t : Term) → AllByRecursion (λ r. occurs r.number (replaced rs t) ≡ false) rs
all_gone [] o n t = tt
all_gone (r ∷ rs) o n t = (avoided r.number rs (replace r.number r.by t) n.0 (occurs-replaced r.number r.by t o.0.0), all_gone rs o.1 n.1 (replace r.number r.by t))

-- what a solution replaces occurs no longer after it
pub replaced_are_gone : ReplacedAreGone
replaced_are_gone es rs e = all_gone rs (replaced_by_lower es rs e) (replaced_once es rs e)

-- replacements numbered up to the last, if the equations are
abbrev KeepsNumbers : ℕ → List Equation → List Replacement → Type 0
KeepsNumbers last es rs = AllNumberedTo last es → AllByRecursion (λ r. (r.number ≤ last) × NumberedTo last r.by) rs

keeps_numbers : (last : ℕ) → HoldsInEachCase (KeepsNumbers last)
keeps_numbers last = record {
  done = λ h. tt;
  same = λ t es rs k h. k h.1;
  inner = λ f ts us es rs n k h. k (numbered-arguments last ts us es h.0.0 h.0.1 h.1);
  left = λ v t es rs o w k h. ((h.0.0, h.0.1), k (numbered-replace_in_all last v t es h.0.1 h.1));
  right = λ v t es rs o w k h. ((h.0.1, h.0.0), k (numbered-replace_in_all last v t es h.0.0 h.1));
}

-- a solution has no higher numbers than the equations
pub solutions_keep_numbers : SolutionsKeepNumbers
solutions_keep_numbers last es rs h e = holds_of_solution (KeepsNumbers last) (keeps_numbers last) es rs e h

-- ---- most general

-- what makes all sides equal is the same after the replacements
abbrev MostGeneral : (ℕ → Term) → List Equation → List Replacement → Type 0
MostGeneral s es rs = MakesEqual (substituted s) es → (t : Term) → substituted s (replaced rs t) ≡ substituted s t

bound_most_general : (s : ℕ → Term) (v : ℕ) (t : Term) (es : List Equation) (rs : List Replacement) → s v ≡ substituted s t → MakesEqual (substituted s) es → MostGeneral s (replace_in_all v t es) rs → (x : Term) → substituted s (replaced (bind v t ∷ rs) x) ≡ substituted s x
bound_most_general s v t es rs e h k x =
    let f : Term → Term = λ x. substituted s (replace v t x) in
    let q : (x : Term) → substituted s x ≡ f x = λ x. sym (substituted-replace s v t x e) in
    k (replaced-MakesEqual (substituted s) v t es (MakesEqual-same (substituted s) f es q h)) (replace v t x) ∙ substituted-replace s v t x e

most_general : (s : ℕ → Term) → HoldsInEachCase (MostGeneral s)
most_general s = record {
  done = λ h t. refl;
  same = λ t es rs k h. k h.1;
  inner = λ f ts us es rs n k h. k (arguments_equal s ts us es (let p = h.0 in let q : each_substituted s ts ≡ each_substituted s us = cc in q) h.1);
  left = λ v t es rs o w k h. bound_most_general s v t es rs h.0 h.1 k;
  right = λ v t es rs o w k h. bound_most_general s v t es rs (sym h.0) h.1 k;
}

-- what makes all sides equal is the same after a solution
pub solutions_are_most_general : SolutionsAreMostGeneral
solutions_are_most_general es rs e s = holds_of_solution (MostGeneral s) (most_general s) es rs e

-- no replacements that make all sides equal are more general than a solution
pub none_more_general : NoReplacementsAreMoreGeneral
none_more_general es rs others e h t =
    replaced_is others (replaced rs t)
    ∙ solutions_are_most_general es rs e (values_of others) (MakesEqual-same (replaced others) (substituted (values_of others)) es (replaced_is others) h) t
    ∙ sym (replaced_is others t)

-- ---- none

-- a value is none if it can be nothing else
none_if_never : {A : Type 0} (o : Option A) → ((x : A) → o ≡ Some x → ⊥) → o ≡ None
none_if_never None h = refl
none_if_never (Some x) h = absurd (h x refl)

-- equations that no replacements make equal have no solution
pub none_where_none_unify : NoneWhereNoneUnify
none_where_none_unify es h = none_if_never (mgu es) (λ rs e. h rs (solutions_make_equal es rs e))
