use Rattle.std.proofs.Common.{◌≡◌, ◌+◌, ◌-◌, ◌^◌, min, arith}
use Rattle.kl1_term.specs.Nodes.{code_of, count_of_code}
use Rattle.kl1_clause.proofs.NodeCounts.{count_same, behind_step}
use Rattle.kl1_clause.proofs.node_count.left_behind.Goals as goal

pub returns : goal.returns
returns c cs few =
    let is : c.saturating_add.result ≡ min (c.args.left - 1 + count_of_code (code_of c.args.node.now)) (2 ^ 64 - 1) = omega (arith, c.saturating_add.ensures, c.count_in.ensures, count_same c.args.node.now) in
    behind_step c.args.left c.saturating_add.result (code_of c.args.node.now) cs c.requires few is
