use Rattle.std.proofs.Common.{◌≡◌, ◌≤◌, length}
use Rattle.kl1_model.specs.Token.{behind_digits}
use Rattle.kl1_host_front.proofs.quantities.behind_digits.Given as goal

-- what is left goes on like the text, but for digits in front, and is no longer
abbrev pub invariant-loop-rest : goal.invariant-loop-rest
invariant-loop-rest l = record {
  same : behind_digits l.rest ≡ behind_digits l.text;
  within : length l.rest ≤ length l.text;
}

abbrev pub decreases-loop-rest : goal.decreases-loop-rest
decreases-loop-rest l = length l.rest
