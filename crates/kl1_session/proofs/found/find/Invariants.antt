use Rattle.std.proofs.Common.{◌≡◌, ◌+◌, length}
use Rattle.kl1_session.specs.Files.{found_from, found}
use Rattle.kl1_session.specs.Views.{entries_view}
use Rattle.kl1_session.proofs.found.find.Given as goal

-- an account among those that are left is found as among all
abbrev pub invariant-loop-rest : goal.invariant-loop-rest
invariant-loop-rest l = record {
  same : found_from l.number (entries_view l.rest) l.name l.key ≡ found (entries_view l.keys) l.name l.key;
  number : l.number + length l.rest ≡ length l.keys;
}

abbrev pub decreases-loop-rest : goal.decreases-loop-rest
decreases-loop-rest l = length l.rest
