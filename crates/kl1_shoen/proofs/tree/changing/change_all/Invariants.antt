use Rattle.std.proofs.Common.{◌≡◌, ◌≤◌, map, vec_len}
use Rattle.kl1_shoen.specs.Shoens.{parents_in, AreNumbered}
use Rattle.kl1_shoen.specs.Changes.{changed_below}
use Rattle.kl1_shoen.proofs.Belows.{changed_among}
use Rattle.kl1_shoen.proofs.tree.changing.change_all.Given as goal

-- what is left to be changed comes to the whole change
abbrev pub invariant-loop-last : goal.invariant-loop-last
invariant-loop-last g l = record {
  now : map (changed_among l.change l.below.items) l.shoens.now ≡ map (changed_below l.change l.fn.shoens.now l.number) l.fn.shoens.now;
  numbered : AreNumbered 0 l.shoens.now;
  parents : parents_in l.shoens.now ≡ parents_in l.fn.shoens.now;
  changes : vec_len l.below ≤ l.shoens.changes;
  kept : l.shoens.kept ≡ l.fn.shoens.kept;
  room : l.shoens.room ≡ l.fn.shoens.room;
}

abbrev pub decreases-loop-last : goal.decreases-loop-last
decreases-loop-last g l = vec_len l.below
