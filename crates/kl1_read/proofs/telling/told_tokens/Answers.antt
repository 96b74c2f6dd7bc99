use Rattle.std.proofs.Common.{refl, arith}
use Rattle.kl1_read.proofs.SeenSpellings.{finds_none}
use Rattle.kl1_read.proofs.telling.told_tokens.Goals as goal

pub loop-rest-init : goal.loop-rest-init
loop-rest-init c =
    record {
      finds = finds_none c.new-numbers.result c.new-seen.result.items c.new-numbers.ensures.empty c.new-seen.ensures.items;
      same = rw (c.new-seen.ensures.items, c.in_ok-out.ensures.items) refl;
      room = omega (arith, c.in_ok-out.ensures.len, c.in_ok-out.ensures.capacity);
    }
