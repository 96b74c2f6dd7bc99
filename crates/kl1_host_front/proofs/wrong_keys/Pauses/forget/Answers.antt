use Rattle.std.proofs.Common.{◌<◌, length, rules}
use Rattle.kl1_host_front.specs.Pauses.{wrongs_in}
use Rattle.kl1_host_front.proofs.WrongKeys.{removed_others}
use Rattle.kl1_host_front.proofs.wrong_keys.Pauses.forget.Goals as goal

-- the one at the place is taken out, and the next is looked for
pub loop-place-preserved : goal.loop-place-preserved
loop-place-preserved c =
    let within : c.loop-place.place < length (wrongs_in c.loop-place.self) = search rules in
    record {
      none = c.place_of-place-in-loop-place.ensures.absent;
      there = c.place_of-place-in-loop-place.ensures.there;
      within = c.place_of-place-in-loop-place.ensures.within;
      others = removed_others (wrongs_in c.args.self.now) (wrongs_in c.loop-place.self) c.remove.new.self.items c.loop-place.place c.args.who c.loop-place.invariant.others within c.loop-place.invariant.there c.remove.ensures.items;
    }
