-- the nodes so far are put
use Rattle.std.proofs.Common.{map, take}
use Rattle.kl1_term.specs.Nodes.{code_of}
use Rattle.kl1_clause.specs.Putting.{Puts}
use Rattle.kl1_clause.proofs.rows.put_nodes.Given as goal

abbrev pub invariant-loop-node : goal.invariant-loop-node
invariant-loop-node l = Puts l.initial.names l.names l.initial.row.items l.row.items (map code_of (take l.node-index l.nodes))
