use Rattle.std.proofs.Common.{◌≡◌}
use Rattle.std.specs.Io.KnownBytes.{Keeps}
use Rattle.kl1_lines.proofs.sink.FailureCounterSink.write.Given as goal

-- interrupted writes took nothing
abbrev pub invariant-loop : goal.invariant-loop
invariant-loop g l = record {
  same : Keeps (g.W.Write.contents l.fn.self.inner) (g.W.Write.contents l.self.inner);
  kept : l.self.failures ≡ l.fn.self.failures;
}
