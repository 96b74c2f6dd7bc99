use Rattle.std.proofs.Common.{◌≡◌, [], length}
use Rattle.std.specs.Prelude.{All}
use Rattle.kl1_tally.specs.Totals.{TookShares}
use Rattle.kl1_tally.proofs.tally.Tally.take_shares.Given as goal

-- the shares that aren't left were joined
abbrev pub invariant-loop-share : goal.invariant-loop-share
invariant-loop-share l = record {
  of : l.joint.table_id ≡ l.self.id;
  free : l.joint.me.1 ≡ [];
  shares_of : All (λ share. share.tally ≡ l.self.id) l.shares.items;
  took : TookShares l.initial.shares.items l.shares.items l.joint.me.0;
}

abbrev pub decreases-loop-share : goal.decreases-loop-share
decreases-loop-share l = length l.shares.items
