use Rattle.kl1_lines.proofs.Splits.{split_there}
use Rattle.kl1_lines.proofs.lines.split_feed.Goals as goal

pub returns-then-place-text-clause-some : goal.returns-then-place-text-clause-some
returns-then-place-text-clause-some c = split_there c.args.text.now c.behind_place.result.now c.place_of-place.result c.place_of-place.ensures.value c.if-place-text.true c.behind_place.ensures
