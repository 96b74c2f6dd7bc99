use Rattle.std.proofs.Common.{◌≡◌, length, take, vec_capacity}
use Rattle.kl1_store.specs.Chains.{AreChained}
use Rattle.kl1_store.proofs.hooks.unlink.Given as goal

-- the links that are left are chained, the first of them the same
abbrev pub invariant-loop-links : goal.invariant-loop-links
invariant-loop-links l = record {
  chained : AreChained l.heads.items l.links.items;
  first : take l.keep l.links.items ≡ take l.keep l.fn.links.items;
  heads : length l.heads.items ≡ length l.fn.heads.items;
  heads_capacity : vec_capacity l.heads ≡ vec_capacity l.fn.heads;
  links_capacity : vec_capacity l.links ≡ vec_capacity l.fn.links;
}

abbrev pub decreases-loop-links : goal.decreases-loop-links
decreases-loop-links l = length l.links.items
