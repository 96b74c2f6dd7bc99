use Rattle.std.proofs.Common.{◌≡◌}
use Rattle.std.specs.Io.KnownBytes.{Keeps}
use Rattle.kl1_lines.proofs.source.FailureCounterSource.read.Given as goal

-- interrupted reads gave nothing
abbrev pub invariant-loop : goal.invariant-loop
invariant-loop g l = record {
  same : Keeps (g.R.Read.remaining l.fn.self.inner) (g.R.Read.remaining l.self.inner);
  kept : l.self.failures ≡ l.fn.self.failures;
}
