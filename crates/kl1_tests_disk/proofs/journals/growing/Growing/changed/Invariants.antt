use Rattle.std.proofs.Common.{◌≡◌}
use Rattle.kl1_tests_disk.proofs.journals.growing.Growing.changed.Given as goal

-- it is still of the same account
abbrev pub invariant-loop-change : goal.invariant-loop-change
invariant-loop-change g l = l.self.0 ≡ l.fn.self.0
