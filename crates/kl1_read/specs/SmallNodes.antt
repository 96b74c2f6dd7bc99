-- What the nodes of the reader are.
use Rattle.kl1_term.specs.declared.node.Node.{Node}
use Rattle.kl1_term.specs.declared.node.Node.TheVariants as node
use Rattle.kl1_read.specs.declared.small_node.SmallNode.{SmallNode}
use Rattle.kl1_read.specs.declared.small_node.SmallNode.TheVariants.{Variable, Integer, Atom, Structure}

-- a node as terms have it
abbrev pub node_of : SmallNode → Node
node_of (Variable n) = node.Variable n
node_of (Integer i) = node.Integer i
node_of (Atom a) = node.Atom a
node_of (Structure n f) = node.Structure f n
