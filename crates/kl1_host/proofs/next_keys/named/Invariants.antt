use Rattle.std.proofs.Common.{◌≡◌, length}
use Rattle.kl1_session.specs.Views.{entries_view}
use Rattle.kl1_host.specs.NextKeys.{named}
use Rattle.kl1_host.proofs.next_keys.named.Given as goal

-- it is the first of those that are left
abbrev pub invariant-loop-rest : goal.invariant-loop-rest
invariant-loop-rest l = named (entries_view l.rest) l.name ≡ named (entries_view l.keys) l.name

abbrev pub decreases-loop-rest : goal.decreases-loop-rest
decreases-loop-rest l = length l.rest
