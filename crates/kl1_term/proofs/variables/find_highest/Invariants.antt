-- the greatest number so far and that of the nodes left are that of all
use Rattle.std.proofs.Common.{◌≡◌, max, map, length}
use Rattle.kl1_term.specs.Nodes.{code_of}
use Rattle.kl1_term.specs.Variables.{highest_in}
use Rattle.kl1_term.proofs.variables.find_highest.Given as goal

abbrev pub invariant-loop-left : goal.invariant-loop-left
invariant-loop-left l = max l.most (highest_in (map code_of l.left)) ≡ highest_in (map code_of l.initial.left)

abbrev pub decreases-loop-left : goal.decreases-loop-left
decreases-loop-left l = length l.left
