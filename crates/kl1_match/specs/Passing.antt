-- Passive equality of two terms of a clause's tests.
use Rattle.std.specs.Prelude.{◌≡◌, ℕ, suc, ◌+◌, Bool, true, false, List, [], ◌++◌}
use Rattle.kl1_model.specs.declared.built_in.BuiltIn.{BuiltIn}
use Rattle.kl1_model.specs.Answer.{yes, no, wait}
use Rattle.kl1_model.specs.Same.{compare}
use Rattle.kl1_model.specs.code.Comparing.{clash}
use Rattle.kl1_model.specs.Match.{own_variables}
use Rattle.kl1_text.specs.Reading.{Reads}
use Rattle.kl1_match_guard.specs.declared.pair.Pair.{Pair}
use Rattle.kl1_match_guard.specs.Alike.{is_among, wait_for, some_pair}
use Rattle.kl1_match.specs.declared.test_view.TestAt.{TestAt}
use Rattle.kl1_match.specs.declared.passing.Passed.{Passed}
use Rattle.kl1_match.specs.declared.passing.Passed.TheVariants.{Same, Differs, Unknown}
use Rattle.kl1_match.specs.TestTerms.{Tests, last_of, test_term}
use Rattle.kl1_match.specs.Waiting.{AreUnbound, AreSame}

-- the number that a variable of the goal has in the tests
abbrev pub goal_number : {N : Type 0} → Tests N → ℕ → ℕ
goal_number t w = suc (last_of t + w)

-- no two cells of a pair clash, and these are the variables of the goal for which they wait
pub record PairsWait {N : Type 0} (built : BuiltIn → N) (f : N → List ℕ) (t : Tests N) (pairs : List (Pair (TestAt N))) (named : List ℕ) : Type 0 where
  pub clash : some_pair (test_term built f t) clash pairs ≡ false
  pub awaited : (w : ℕ) → is_among w named ≡ some_pair (test_term built f t) (wait_for (goal_number t w)) pairs
  pub none : named ≡ [] → (v : ℕ) → some_pair (test_term built f t) (wait_for v) pairs ≡ false

-- that, or two clash, if the answer is no
abbrev pub PairsWaitAs : {N : Type 0} → (BuiltIn → N) → (N → List ℕ) → Tests N → List (Pair (TestAt N)) → List ℕ → Bool → Type 0
PairsWaitAs built f t pairs named true = PairsWait built f t pairs named
PairsWaitAs built f t pairs named false = some_pair (test_term built f t) clash pairs ≡ true

-- pairs of cells were compared
pub record PairsCome {N : Type 0} (built : BuiltIn → N) (t : Tests N) (pairs : List (Pair (TestAt N))) (before after : List ℕ) (answer : Bool) : Type 0 where
  pub named : List ℕ
  pub unbound : AreUnbound t.held named
  pub added : after ≡ before ++ named
  pub comes : (f : N → List ℕ) → Reads built f → PairsWaitAs built f t pairs named answer

-- what passive equality answers of two terms, and which variables are named
abbrev pub PassesAs : {N : Type 0} → (BuiltIn → N) → (N → List ℕ) → Tests N → TestAt N → TestAt N → List ℕ → Passed → Type 0
PassesAs built f t x y named Same = (compare (test_term built f t x) (test_term built f t y) ≡ yes) × (named ≡ [])
PassesAs built f t x y named Differs = compare (test_term built f t x) (test_term built f t y) ≡ no
PassesAs built f t x y named Unknown = (vs : List ℕ) × ((compare (test_term built f t x) (test_term built f t y) ≡ wait vs) × AreSame named (own_variables (last_of t) vs))

-- that, however names are read; the variables that are named are added to those before, all unbound
pub record Passes {N : Type 0} (built : BuiltIn → N) (t : Tests N) (x y : TestAt N) (before after : List ℕ) (answer : Passed) : Type 0 where
  pub named : List ℕ
  pub unbound : AreUnbound t.held named
  pub added : after ≡ before ++ named
  pub comes : (f : N → List ℕ) → Reads built f → PassesAs built f t x y named answer
