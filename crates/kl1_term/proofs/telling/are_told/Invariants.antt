-- the variables left are as a text tells them after those seen exactly if all are
use Rattle.std.proofs.Common.{◌≡◌, map, length}
use Rattle.kl1_model.specs.Telling.{told_after}
use Rattle.kl1_term.specs.Nodes.{code_of}
use Rattle.kl1_term.specs.Variables.{variables_in}
use Rattle.kl1_term.proofs.telling.are_told.Given as goal

abbrev pub invariant-loop-left : goal.invariant-loop-left
invariant-loop-left l = told_after l.seen (variables_in (map code_of l.left)) ≡ told_after 0 (variables_in (map code_of l.initial.left))

abbrev pub decreases-loop-left : goal.decreases-loop-left
decreases-loop-left l = length l.left
