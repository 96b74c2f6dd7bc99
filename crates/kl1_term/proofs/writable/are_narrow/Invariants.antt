-- the nodes left are narrow exactly if all are
use Rattle.std.proofs.Common.{◌≡◌, map, length}
use Rattle.std.specs.List.{list_all}
use Rattle.kl1_term.specs.Nodes.{code_of}
use Rattle.kl1_term.specs.Narrow.{is_narrow_node}
use Rattle.kl1_term.proofs.writable.are_narrow.Given as goal

abbrev pub invariant-loop-left : goal.invariant-loop-left
invariant-loop-left l = list_all is_narrow_node (map code_of l.left) ≡ list_all is_narrow_node (map code_of l.initial.left)

abbrev pub decreases-loop-left : goal.decreases-loop-left
decreases-loop-left l = length l.left
