use Rattle.std.proofs.Common.{◌≡◌, ◌-◌, ◌+◌, ◌<◌, ◌==◌, cond, length, refl, sym, ap, ◌∙◌, arith}
use Rattle.kl1_goals.specs.Tallies.{tally_at, left}
use Rattle.kl1_goals.specs.Chains.{shoen_in, before_in}
use Rattle.kl1_goals.proofs.Changing.{field_read}
use Rattle.kl1_goals.proofs.Shaping.{read_known}
use Rattle.kl1_goals.proofs.Chaining.{chained_left, counts_left}
use Rattle.kl1_goals.proofs.chains.unlink_last.Goals as goal

pub unlink-requires-clause-low : goal.unlink-requires-clause-low
unlink-requires-clause-low g c =
    let ss = c.args.slots.now.items in
    let k = c.len-count.result - 1 in
    let within : k < length ss = omega (arith, c.len-count.ensures, c.args.slots.now.ok.0, c.requires.some) in
    (read_known ss ss (length c.args.tallies.now.items) k c.index-slot.result.now c.requires.chained.known refl within c.index-slot.ensures).0

pub unlink-requires-clause-high : goal.unlink-requires-clause-high
unlink-requires-clause-high g c =
    let ss = c.args.slots.now.items in
    let k = c.len-count.result - 1 in
    let within : k < length ss = omega (arith, c.len-count.ensures, c.args.slots.now.ok.0, c.requires.some) in
    (read_known ss ss (length c.args.tallies.now.items) k c.index-slot.result.now c.requires.chained.known refl within c.index-slot.ensures).1

pub returns-clause-chained : goal.returns-clause-chained
returns-clause-chained g c =
    let ss = c.args.slots.now.items in
    let ts = c.args.tallies.now.items in
    let x = c.index-slot.result.now in
    let count = c.len-count.result in
    let k = count - 1 in
    let size : length ss ≡ k + 1 = omega (arith, c.len-count.ensures, c.args.slots.now.ok.0, c.requires.some) in
    let within : k < length ss = omega (arith, size) in
    let last : length ss - 1 ≡ k = omega (arith, size) in
    let link : count ≡ k + 1 = omega (arith, c.len-count.ensures, c.args.slots.now.ok.0, c.requires.some) in
    rw last (chained_left ss ts c.unlink.new.tallies.items k x.goal.shoen x.before c.requires.chained size (sym (field_read shoen_in ss k x within c.index-slot.ensures)) (sym (field_read before_in ss k x within c.index-slot.ensures))
    (record { at = λ n. c.unlink.ensures.tallies n ∙ ap (λ i. cond (n == x.goal.shoen) (left i x.before (tally_at ts n)) (tally_at ts n)) link; length = c.unlink.ensures.length }))

pub returns-clause-counts : goal.returns-clause-counts
returns-clause-counts g c = counts_left c.args.tallies.now.items c.unlink.new.tallies.items c.index-slot.result.now.goal.shoen c.len-count.result c.index-slot.result.now.before (record { at = c.unlink.ensures.tallies; length = c.unlink.ensures.length })
