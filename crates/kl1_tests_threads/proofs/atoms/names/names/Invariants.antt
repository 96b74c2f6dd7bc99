use Rattle.std.proofs.Common.{◌≡◌, vec_len}
use Rattle.kl1_tests_threads.proofs.atoms.names.names.Given as goal

-- as many names as at first
abbrev pub invariant-loop-number : goal.invariant-loop-number
invariant-loop-number l = vec_len l.names ≡ l.fn.count
