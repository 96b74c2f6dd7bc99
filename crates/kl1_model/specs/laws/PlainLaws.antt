-- Answers that name the variables for which they wait are those that don't, which were the definitions before.
use Rattle.std.specs.Prelude.{◌≡◌}
use Rattle.kl1_model.specs.Term.{Term, Terms}
use Rattle.kl1_model.specs.Same.{compare}
use Rattle.kl1_model.specs.Guard.{Test, test_answer}
use Rattle.kl1_model.specs.Module.{Clause}
use Rattle.kl1_model.specs.Match.{match_patterns, verdict}
use Rattle.kl1_model.specs.code.Comparing.{passive}
use Rattle.kl1_model.specs.laws.PlainAnswers.{plain, plain_same, plain_test, plain_patterns, plain_verdict}

-- passive equality is what it was
abbrev pub ComparisonsStand : Type 0
ComparisonsStand = (t u : Term) → plain (compare t u) ≡ plain_same (passive t u)

-- so is the answer of each test
abbrev pub TestsStand : Type 0
TestsStand = (test : Test) → plain (test_answer test) ≡ plain_test test

-- and so are the answer of each match, with the terms at its places,
abbrev pub MatchesStand : Type 0
MatchesStand = (ps ts : Terms) → (plain (match_patterns ps ts).answer ≡ (plain_patterns ps ts).answer) × ((match_patterns ps ts).places ≡ (plain_patterns ps ts).places)

-- and each verdict, though variables had other numbers in its tests
abbrev pub VerdictsStand : Type 0
VerdictsStand = (c : Clause) (ts : Terms) → plain (verdict c ts) ≡ plain_verdict c ts
