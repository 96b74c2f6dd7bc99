-- the variables left rise exactly if all do
use Rattle.std.proofs.Common.{◌≡◌, length}
use Rattle.kl1_clause.specs.Plain.{is_rising}
use Rattle.kl1_clause.proofs.plain.is_rising.Given as goal

abbrev pub invariant-loop-left : goal.invariant-loop-left
invariant-loop-left l = is_rising l.last l.left ≡ is_rising 0 l.initial.left

abbrev pub decreases-loop-left : goal.decreases-loop-left
decreases-loop-left l = length l.left
