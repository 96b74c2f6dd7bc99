use Rattle.std.proofs.Common.{◌≡◌, ◌+◌, ◌≤◌, ◌-◌, length}
use Rattle.std.specs.Io.KnownBytes.{Consumes}
use Rattle.kl1_model.specs.declared.limits.TheConstants.{MOST_SCRIPT_BYTES}
use Rattle.kl1_lines.proofs.input.read_all.Given as goal

-- the bytes so far were taken from the front, without a failure
abbrev pub invariant-loop-bytes : goal.invariant-loop-bytes
invariant-loop-bytes g l = record {
  consumes : Consumes (g.S.Source.remaining l.fn.source) (g.S.Source.remaining l.source) l.bytes.items;
  kept : g.S.Source.failures l.source ≡ g.S.Source.failures l.fn.source;
  few : length l.bytes.items ≤ MOST_SCRIPT_BYTES + 1;
}

abbrev pub decreases-loop-bytes : goal.decreases-loop-bytes
decreases-loop-bytes g l = MOST_SCRIPT_BYTES + 1 - length l.bytes.items
