use Rattle.kl1_user_account.proofs.Words.{◌≡◌, ◌-◌, ◌++◌, length, map, take, drop, filter, shoen_shown}
use Rattle.kl1_user_account.specs.Viewed.{is_kept_shoen}
use Rattle.kl1_user_account.proofs.viewing.shoens.shoens_from.Given as goal

-- what is shown so far, with what is still to be shown, is what is to be shown of all
abbrev pub invariant-loop-left : goal.invariant-loop-left
invariant-loop-left l =
    l.views.items ++ map (shoen_shown l.shoens.shoens l.shoens.work l.goals.goals) (take l.left (filter is_kept_shoen (drop l.before l.shoens.shoens)))
    ≡ map (shoen_shown l.shoens.shoens l.shoens.work l.goals.goals) (take l.count (filter is_kept_shoen (drop (l.from - 1) l.shoens.shoens)))

abbrev pub decreases-loop-left : goal.decreases-loop-left
decreases-loop-left l = length l.shoens.shoens - l.before
