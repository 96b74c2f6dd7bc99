use Rattle.std.proofs.Common.{◌≡◌, vec_len, vec_capacity}
use Rattle.kl1_shoen_paths.specs.Tracked.{put_back}
use Rattle.kl1_shoen_paths.proofs.tracked.put_all_back.Given as goal

-- what is left to be put back comes to what all of it does
abbrev pub invariant-loop-last : goal.invariant-loop-last
invariant-loop-last g l = record {
  items : put_back l.was.items l.items.items ≡ put_back l.fn.was.items l.fn.items.items;
  len : vec_len l.items ≡ vec_len l.fn.items;
  capacity : vec_capacity l.items ≡ vec_capacity l.fn.items;
  was : vec_capacity l.was ≡ vec_capacity l.fn.was;
}

abbrev pub decreases-loop-last : goal.decreases-loop-last
decreases-loop-last g l = vec_len l.was
