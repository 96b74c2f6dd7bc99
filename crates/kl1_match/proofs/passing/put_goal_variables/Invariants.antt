use Rattle.std.proofs.Common.{◌-◌, length, drop}
use Rattle.kl1_match.specs.TestTerms.{tests_of}
use Rattle.kl1_match.proofs.TermPairs.{PutLeft}
use Rattle.kl1_match.proofs.passing.put_goal_variables.Given as goal

-- what is left, with what was put, comes to the whole
abbrev pub invariant-loop-at : goal.invariant-loop-at
invariant-loop-at g l = PutLeft (tests_of l.view) l.waits (drop l.at l.waits) l.fn.awaited.items l.awaited.items

abbrev pub decreases-loop-at : goal.decreases-loop-at
decreases-loop-at g l = length l.waits - l.at
