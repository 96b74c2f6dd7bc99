use Rattle.std.proofs.Common.{refl}
use Rattle.kl1_lines.proofs.Cuts.{before_feed_taken, behind_feed_dropped}
use Rattle.kl1_lines.proofs.Fuel.{behind_shorter, behind_less}
use Rattle.kl1_lines.proofs.lines.split_line.Goals as goal

pub returns-clause-line : goal.returns-clause-line
returns-clause-line c =
    let cut = before_feed_taken c.args.text.now in
    let place = c.place_of-place.ensures.value in
    rw (c.without_return.ensures, place, cut) refl

pub returns-clause-behind : goal.returns-clause-behind
returns-clause-behind c =
    let cut = behind_feed_dropped c.args.text.now in
    let place = c.place_of-place.ensures.value in
    rw (c.behind_place.ensures, place, cut) refl

pub returns-clause-within : goal.returns-clause-within
returns-clause-within c = rw (returns-clause-behind c) (behind_shorter c.args.text.now)

pub returns-clause-less : goal.returns-clause-less
returns-clause-less c = rw (returns-clause-behind c) (behind_less c.args.text.now)
