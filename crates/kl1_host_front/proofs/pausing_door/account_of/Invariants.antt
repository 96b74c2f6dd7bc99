use Rattle.std.proofs.Common.{◌≡◌, ◌+◌, length}
use Rattle.kl1_session.specs.Views.{entries_view}
use Rattle.kl1_host_front.specs.Pauses.{account_from}
use Rattle.kl1_host_front.proofs.pausing_door.account_of.Given as goal

-- the account is as far on among those that are left
abbrev pub invariant-loop-rest : goal.invariant-loop-rest
invariant-loop-rest l = record {
  same : account_from l.number l.name (entries_view l.rest) ≡ account_from 0 l.name (entries_view l.keys);
  number : l.number + length l.rest ≡ length l.keys;
}

abbrev pub decreases-loop-rest : goal.decreases-loop-rest
decreases-loop-rest l = length l.rest
