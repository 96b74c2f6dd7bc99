use Rattle.std.proofs.Common.{◌≡◌}
use Rattle.kl1_tests_disk.proofs.journals.growing.Growing.change.Given as goal

-- it is still of the same account
abbrev pub invariant-loop-number : goal.invariant-loop-number
invariant-loop-number g l = l.self.0 ≡ l.fn.self.0
