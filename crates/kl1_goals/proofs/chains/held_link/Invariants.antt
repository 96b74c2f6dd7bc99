use Rattle.std.proofs.Common.{ℕ, ◌≤◌}
use Rattle.kl1_goals.specs.Chains.{IsLink}
use Rattle.kl1_goals.proofs.chains.held_link.Given as goal

-- what was linked by the first is linked by this
abbrev pub invariant-loop-link : goal.invariant-loop-link
invariant-loop-link g l = record {
  within : l.link ≤ l.from;
  link : (n after : ℕ) → IsLink l.slots.items n after l.from → IsLink l.slots.items n after l.link;
}

abbrev pub decreases-loop-link : goal.decreases-loop-link
decreases-loop-link g l = l.link
