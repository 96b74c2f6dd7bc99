use Rattle.kl1_term.specs.Nodes.{code_of}
use Rattle.kl1_clause.proofs.PutNodes.{put_one}
use Rattle.kl1_clause.proofs.rows.put_node.Goals as goal

pub returns : goal.returns
returns c =
    rw c.in_ok-push.ensures.items
    (put_one c.args.names.now c.instruction_of.new.names c.args.row.now.items c.in_ok-instruction.instruction (code_of c.args.node.now) c.in_ok-instruction.ensures.names c.requires c.in_ok-instruction.ensures.named c.in_ok-instruction.ensures.node)
