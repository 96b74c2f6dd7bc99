use Rattle.std.proofs.Common.{map}
use Rattle.kl1_term.specs.Nodes.{code_of}
use Rattle.kl1_clause.specs.NodeCounts.{behind_terms}
use Rattle.kl1_clause.proofs.NodeCounts.{behind_next, fewer}
use Rattle.kl1_clause.proofs.node_count.behind_first.Goals as goal

pub loop-left-preserved : goal.loop-left-preserved
loop-left-preserved c =
    record {
      same = behind_next c.loop-left.left c.left_behind-left.result c.loop-left.rest.now c.first-item.result (behind_terms 1 (map code_of c.args.nodes.now)) c.in-len1-up.len_at_least c.first-item.is c.loop-left.invariant.few c.left_behind-left.ensures c.loop-left.invariant.same;
      few = fewer c.loop-left.rest.now c.loop-left.invariant.few;
    }
