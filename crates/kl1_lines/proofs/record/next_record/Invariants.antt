use Rattle.std.proofs.Common.{◌≡◌, ◌≤◌, length}
use Rattle.kl1_model.specs.Record.{records_of}
use Rattle.kl1_lines.proofs.record.next_record.Given as goal

-- what is left has the same records
abbrev pub invariant-loop-rest : goal.invariant-loop-rest
invariant-loop-rest l = record {
  same : records_of l.rest ≡ records_of l.text;
  less : length l.rest ≤ length l.text;
}

abbrev pub decreases-loop-rest : goal.decreases-loop-rest
decreases-loop-rest l = length l.rest
