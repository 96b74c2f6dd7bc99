use Rattle.std.proofs.Common.{◌≤◌}
use Rattle.kl1_match_verdict.specs.Candidates.{IsRun}
use Rattle.kl1_match_verdict.proofs.taking.start_of.Given as goal

-- the clauses from here on are of the section
abbrev pub invariant-loop-start : goal.invariant-loop-start
invariant-loop-start l = record {
  below : l.start ≤ l.place;
  run : IsRun l.clauses l.start l.place;
}

abbrev pub decreases-loop-start : goal.decreases-loop-start
decreases-loop-start l = l.start
