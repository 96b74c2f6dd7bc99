use Rattle.std.proofs.Common.{◌≡◌, length}
use Rattle.std.specs.List.{list_all}
use Rattle.kl1_session.specs.Views.{entries_view}
use Rattle.kl1_host_front.specs.Sums.{has_sum}
use Rattle.kl1_host_front.proofs.sums.have_sums.Given as goal

-- if those so far have sums, what is left tells whether all have
abbrev pub invariant-loop-rest : goal.invariant-loop-rest
invariant-loop-rest l = list_all has_sum (entries_view l.rest) ≡ list_all has_sum (entries_view l.keys)

abbrev pub decreases-loop-rest : goal.decreases-loop-rest
decreases-loop-rest l = length l.rest
