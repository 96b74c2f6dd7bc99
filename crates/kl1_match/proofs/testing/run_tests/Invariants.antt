use Rattle.std.proofs.Common.{◌-◌, length}
use Rattle.kl1_store.specs.Remembers.{Remembers}
use Rattle.kl1_match.specs.TestTerms.{tests_of}
use Rattle.kl1_match.proofs.TestSteps.{TestsLeft}
use Rattle.kl1_match.proofs.testing.run_tests.Given as goal

-- the tests that are left, with what was named, come to all, and what is remembered is so
abbrev pub invariant-loop-place : goal.invariant-loop-place
invariant-loop-place g l = Remembers g.N.NameValue.built (tests_of l.view).held l.same × TestsLeft g.N.NameValue.built (tests_of l.view) l.place l.fn.awaited.items l.awaited.items

abbrev pub decreases-loop-place : goal.decreases-loop-place
decreases-loop-place g l = length l.view.row.now - l.place
