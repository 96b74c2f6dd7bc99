-- what is after the terms that are left is what is after the first
use Rattle.std.proofs.Common.{◌≡◌, ◌<◌, ◌^◌, map, length}
use Rattle.kl1_term.specs.Nodes.{code_of}
use Rattle.kl1_clause.specs.NodeCounts.{behind_terms}
use Rattle.kl1_clause.proofs.node_count.behind_first.Given as goal

abbrev pub invariant-loop-left : goal.invariant-loop-left
invariant-loop-left l =
    record {
      same : behind_terms l.left (map code_of l.rest) ≡ behind_terms 1 (map code_of l.nodes);
      few : length l.rest < 2 ^ 64;
    }

abbrev pub decreases-loop-left : goal.decreases-loop-left
decreases-loop-left l = length l.rest
