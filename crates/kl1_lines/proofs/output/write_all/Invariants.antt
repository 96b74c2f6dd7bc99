use Rattle.std.proofs.Common.{◌≡◌, ◌≤◌, ◌-◌, length, take}
use Rattle.std.specs.Io.KnownBytes.{Appends}
use Rattle.kl1_lines.proofs.output.write_all.Given as goal

-- the bytes up to the place have been written, without a failure
abbrev pub invariant-loop-place : goal.invariant-loop-place
invariant-loop-place g l = record {
  within : l.place ≤ length l.bytes;
  appends : Appends (g.S.Sink.contents l.fn.sink) (g.S.Sink.contents l.sink) (take l.place l.bytes);
  kept : g.S.Sink.failures l.sink ≡ g.S.Sink.failures l.fn.sink;
}

abbrev pub decreases-loop-place : goal.decreases-loop-place
decreases-loop-place g l = length l.bytes - l.place
