use Rattle.std.proofs.Common.{◌≡◌, length}
use Rattle.kl1_tests_threads.proofs.atoms.names.put_sharing.Given as goal

-- as many names as at first
abbrev pub invariant-loop-number : goal.invariant-loop-number
invariant-loop-number l = length l.names ≡ length l.initial.names
