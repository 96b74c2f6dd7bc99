-- the nodes left make the same text, and if all would leave nothing to come, these do
use Rattle.std.proofs.Common.{◌≡◌, List, map, length}
use Rattle.kl1_model.specs.Term.{Term}
use Rattle.kl1_term.specs.Nodes.{code_of, with_nodes, left_after}
use Rattle.kl1_term.specs.Printing.{text_of, waits_of}
use Rattle.kl1_term.proofs.printer.Printer.put_all.Given as goal

abbrev pub invariant-loop-nodes : goal.invariant-loop-nodes
invariant-loop-nodes l =
    ((ts : List Term) → text_of l.self (with_nodes l.nodes ts) ≡ text_of l.initial.self (with_nodes l.initial.nodes ts))
    × (left_after (map code_of l.initial.nodes) (waits_of l.initial.self) ≡ 0 → left_after (map code_of l.nodes) (waits_of l.self) ≡ 0)

abbrev pub decreases-loop-nodes : goal.decreases-loop-nodes
decreases-loop-nodes l = length l.nodes
