-- if the tests left are `true`, all are
use Rattle.std.proofs.Common.{length}
use Rattle.kl1_clause.specs.Plain.{AreTrue}
use Rattle.kl1_clause.proofs.plain.are_true.Given as goal

abbrev pub invariant-loop-left : goal.invariant-loop-left
invariant-loop-left l = AreTrue l.left → AreTrue l.initial.left

abbrev pub decreases-loop-left : goal.decreases-loop-left
decreases-loop-left l = length l.left
