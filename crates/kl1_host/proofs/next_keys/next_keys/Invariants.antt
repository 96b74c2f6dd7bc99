use Rattle.std.proofs.Common.{◌-◌, [], length, take}
use Rattle.kl1_session.specs.Views.{entries_view}
use Rattle.kl1_host.specs.NextKeys.{newcomers, AreBrought}
use Rattle.kl1_host.proofs.next_keys.next_keys.Given as goal

-- the places so far, in order
abbrev pub invariant-loop-key : goal.invariant-loop-key
invariant-loop-key l = AreBrought (entries_view (take l.key-index l.now)) (entries_view l.wanted) [] l.next

-- and those that come so far have the places after, as far as there are some
abbrev pub invariant-loop-key-2 : goal.invariant-loop-key-2
invariant-loop-key-2 l =
    let now = entries_view l.now in
    AreBrought now (entries_view l.wanted) (take (l.places - length now) (newcomers now (entries_view (take l.key-index l.wanted)))) l.next
