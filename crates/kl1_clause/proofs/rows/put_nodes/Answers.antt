use Rattle.kl1_clause.proofs.PutNodes.{put_none, put_next}
use Rattle.kl1_clause.proofs.rows.put_nodes.Goals as goal

pub loop-node-init : goal.loop-node-init
loop-node-init c = put_none c.args.names.now c.args.row.now.items c.requires

pub loop-node-preserved : goal.loop-node-preserved
loop-node-preserved c =
    put_next c.args.names.now c.loop-node.names c.put_node.new.names c.args.row.now.items c.loop-node.row.items c.put_node.new.row.items c.args.nodes.now c.loop-node.node-index c.node-item.result
    c.loop-node-test.true c.node-item.is c.loop-node.invariant c.in_ok-put_node.ensures
