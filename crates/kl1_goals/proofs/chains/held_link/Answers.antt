use Rattle.std.proofs.Common.{◌≡◌, ◌-◌, ◌+◌, ◌<◌, length, sym, arith}
use Rattle.kl1_goals.specs.Chains.{before_in, before_at}
use Rattle.kl1_goals.proofs.Changing.{field_read}
use Rattle.kl1_goals.proofs.Chaining.{past_empty}
use Rattle.kl1_goals.proofs.chains.held_link.Goals as goal

pub loop-link-smaller : goal.loop-link-smaller
loop-link-smaller g c =
    let ss = c.args.slots.now.items in
    let k = c.loop-link.link - 1 in
    let some = (c.leads_to_empty.ensures.empty c.loop-link-test.true).some in
    let within : k < length ss = omega (arith, some, c.loop-link.invariant.within, c.requires.within) in
    omega (arith, some, field_read before_in ss k c.index.result.now within c.index.ensures, (c.requires.links k within).back)

pub loop-link-preserved : goal.loop-link-preserved
loop-link-preserved g c =
    let ss = c.args.slots.now.items in
    let l = c.loop-link.link in
    let k = l - 1 in
    let empty = c.leads_to_empty.ensures.empty c.loop-link-test.true in
    let within : k < length ss = omega (arith, empty.some, c.loop-link.invariant.within, c.requires.within) in
    let one : l ≡ k + 1 = omega (arith, empty.some) in
    let read : before_at ss k ≡ c.index.result.now.before = field_read before_in ss k c.index.result.now within c.index.ensures in
    record {
      within = omega (arith, one, read, (c.requires.links k within).back, c.loop-link.invariant.within);
      link = λ n after h. past_empty ss l k c.index.result.now.before n after c.requires.links empty one within (sym read) (c.loop-link.invariant.link n after h);
    }
