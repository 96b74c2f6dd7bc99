-- A failure leaves nothing that makes all sides equal.
use Rattle.std.proofs.Common.{◌≡◌, ℕ, true, false, List, ◌∷◌, Option, Some, None, option_map, IsSome, is_some, refl, sym, ap}
use Rattle.kl1_model.specs.Term.{Term, replace, Replacement, substituted, each_substituted}
use Rattle.kl1_model.specs.code.Unifying.{replaced}
use Rattle.kl1_model.specs.Unify.{Equation, replace_in_all, mgu}
use Rattle.kl1_model.specs.laws.UnifyLaws.{bind, MakesEqual, FailureLeavesNone, FailureLeavesNoReplacements}
use Rattle.kl1_model.proofs.Substitutions.{substituted-replace, values_of, replaced_is, arguments_equal, MakesEqual-same, replaced-MakesEqual}
use Rattle.kl1_model.proofs.UnifyAnswer.{HoldsOfEachAnswer, holds_of_answer}

is_some-option_map : {A B : Type 0} (f : A → B) (o : Option A) → IsSome o → IsSome (option_map f o)
is_some-option_map f None h = absurd cc
is_some-option_map f (Some x) h = refl

-- if something makes all sides equal, there is a solution
abbrev Found : (ℕ → Term) → List Equation → Option (List Replacement) → Type 0
Found s es o = MakesEqual (substituted s) es → IsSome o

-- equations with a variable replaced are made equal by what makes both sides of the replacement equal
made_equal_bound : (s : ℕ → Term) (v : ℕ) (t : Term) (es : List Equation) → s v ≡ substituted s t → MakesEqual (substituted s) es → MakesEqual (substituted s) (replace_in_all v t es)
made_equal_bound s v t es e h = replaced-MakesEqual (substituted s) v t es (MakesEqual-same (substituted s) (λ x. substituted s (replace v t x)) es (λ x. sym (substituted-replace s v t x e)) h)

found : (s : ℕ → Term) → HoldsOfEachAnswer (Found s)
found s = record {
  done = λ m. refl;
  same = λ t es o k m. k m.1;
  inner = λ f ts us es o n k m. k (arguments_equal s ts us es (let p = m.0 in let q : each_substituted s ts ≡ each_substituted s us = cc in q) m.1);
  left = λ v t es o w l k m. is_some-option_map (λ rest. bind v t ∷ rest) o (k (made_equal_bound s v t es m.0 m.1));
  right = λ v t es o w l k m. is_some-option_map (λ rest. bind v t ∷ rest) o (k (made_equal_bound s v t es (sym m.0) m.1));
  clash = λ t u es c m. absurd (c s m.0);
}

-- if there is no solution, nothing makes all sides equal
pub failure_leaves_none : FailureLeavesNone
failure_leaves_none es e s m =
    let k : is_some (mgu es) ≡ true = holds_of_answer (Found s) (found s) es m in
    let q : is_some (mgu es) ≡ false = ap is_some e in
    cc

-- nor do replacements
pub failure_leaves_no_replacements : FailureLeavesNoReplacements
failure_leaves_no_replacements es e rs m = failure_leaves_none es e (values_of rs) (MakesEqual-same (replaced rs) (substituted (values_of rs)) es (replaced_is rs) m)
