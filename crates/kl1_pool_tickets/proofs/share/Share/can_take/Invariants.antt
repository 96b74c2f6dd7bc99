use Rattle.std.proofs.Common.{ℕ, ◌<◌, ◌^◌, slice_index}
use Rattle.kl1_pool_tickets.proofs.share.Share.can_take.Given as goal

-- of no account so far were too many taken
abbrev pub invariant-loop-account : goal.invariant-loop-account
invariant-loop-account g l = (k : ℕ) → k < l.account → slice_index l.self.takes k < 2 ^ 63
