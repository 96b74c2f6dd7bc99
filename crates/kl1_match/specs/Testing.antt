-- What comes of a clause's tests.
use Rattle.std.specs.Prelude.{ℕ, Bool, true, false, List, drop}
use Rattle.kl1_model.specs.declared.built_in.BuiltIn.{BuiltIn}
use Rattle.kl1_model.specs.declared.comparison.Comparison.{Comparison}
use Rattle.kl1_model.specs.Term.{Term}
use Rattle.kl1_model.specs.code.TermCode.{first_term}
use Rattle.kl1_model.specs.Answer.{opposite}
use Rattle.kl1_model.specs.Same.{compare}
use Rattle.kl1_model.specs.Arithmetic.{evaluated}
use Rattle.kl1_model.specs.Guard.{sides_answer, test_answer}
use Rattle.kl1_model.specs.Match.{own_answer, one_test_answer, tests_answer}
use Rattle.kl1_clause.specs.declared.instruction.Instruction.{Instruction}
use Rattle.kl1_clause.specs.declared.instruction.Instruction.TheVariants.{Variable, Integer, Atom, Structure}
use Rattle.kl1_match_guard.specs.declared.outcome.Outcome.{Outcome}
use Rattle.kl1_match_guard.specs.declared.test.Test.{Test}
use Rattle.kl1_match_guard.specs.Outcomes.{outcome_of}
use Rattle.kl1_match_guard.specs.Tests.{test_in}
use Rattle.kl1_match.specs.declared.test_view.TestAt.{TestAt}
use Rattle.kl1_match.specs.declared.test_view.TestVariable.{TestVariable}
use Rattle.kl1_match.specs.Instances.{replacements_of}
use Rattle.kl1_match.specs.Outcomes.{Comes}
use Rattle.kl1_match.specs.TestTerms.{Tests, last_of, named_in, terms_from, test_term, test_number}

-- whether an instruction is a variable
abbrev pub is_variable : Instruction → Bool
is_variable (Variable n) = true
is_variable (Integer i) = false
is_variable (Atom a) = false
is_variable (Structure a n) = false

-- the tests from a place of the row on
abbrev pub tests_from : {N : Type 0} → (BuiltIn → N) → (N → List ℕ) → Tests N → ℕ → List Term
tests_from built f t q = terms_from (named_in built f t) (drop q t.row)

-- what comes of a test whose outcome is known
abbrev pub SettledAs : {N : Type 0} → (BuiltIn → N) → Tests N → Outcome TestVariable → List ℕ → List ℕ → Bool → Type 0
SettledAs built t outcome before after answer = Comes built t.held (λ f. own_answer (last_of t) (outcome_of (test_number t) outcome)) before after answer

-- what comes of `=`
abbrev pub SameAs : {N : Type 0} → (BuiltIn → N) → Tests N → TestAt N → TestAt N → List ℕ → List ℕ → Bool → Type 0
SameAs built t x y before after answer = Comes built t.held (λ f. own_answer (last_of t) (compare (test_term built f t x) (test_term built f t y))) before after answer

-- what comes of `\=`
abbrev pub OtherAs : {N : Type 0} → (BuiltIn → N) → Tests N → TestAt N → TestAt N → List ℕ → List ℕ → Bool → Type 0
OtherAs built t x y before after answer = Comes built t.held (λ f. own_answer (last_of t) (opposite (compare (test_term built f t x) (test_term built f t y)))) before after answer

-- what comes of a comparison
abbrev pub ComparedAs : {N : Type 0} → (BuiltIn → N) → Tests N → Comparison → TestAt N → TestAt N → List ℕ → List ℕ → Bool → Type 0
ComparedAs built t c x y before after answer = Comes built t.held (λ f. own_answer (last_of t) (sides_answer c (evaluated (test_term built f t x)) (evaluated (test_term built f t y)))) before after answer

-- what comes of a test
abbrev pub FoundAs : {N : Type 0} → (BuiltIn → N) → Tests N → Test (TestAt N) → List ℕ → List ℕ → Bool → Type 0
FoundAs built t test before after answer = Comes built t.held (λ f. own_answer (last_of t) (test_answer (test_in (test_term built f t) test))) before after answer

-- what comes of the test at a place of the row
abbrev pub TestComes : {N : Type 0} → (BuiltIn → N) → Tests N → ℕ → List ℕ → List ℕ → Bool → Type 0
TestComes built t q before after answer = Comes built t.held (λ f. one_test_answer (last_of t) (replacements_of f t.held t.places) (first_term (tests_from built f t q))) before after answer

-- what comes of all from a place on
abbrev pub TestsCome : {N : Type 0} → (BuiltIn → N) → Tests N → ℕ → List ℕ → List ℕ → Bool → Type 0
TestsCome built t q before after answer = Comes built t.held (λ f. tests_answer (last_of t) (replacements_of f t.held t.places) (tests_from built f t q)) before after answer
