use Rattle.std.proofs.Common.{◌≤◌, ◌-◌}
use Rattle.kl1_store.specs.Remembers.{Remembers}
use Rattle.kl1_match_verdict.specs.Candidates.{AllReject}
use Rattle.kl1_match_verdict.proofs.taking.reject.Given as goal

-- the clauses so far reject, and what is remembered is so
abbrev pub invariant-loop-tried : goal.invariant-loop-tried
invariant-loop-tried g l = record {
  remembers : Remembers g.N.NameValue.built l.store.held l.same;
  below : l.tried ≤ l.count;
  rejected : AllReject g.N.NameValue.built l.names l.clauses l.store.held l.fn.goal l.tried;
}

abbrev pub decreases-loop-tried : goal.decreases-loop-tried
decreases-loop-tried g l = l.count - l.tried
