use Rattle.std.proofs.Common.{◌≡◌, ◌+◌, ◌<◌, length, refl, sym, ap, ◌∙◌, arith}
use Rattle.std.proofs.lemmas.List.{length-map, take_more_set}
use Rattle.kl1_goals.specs.Tallies.{HasChanged}
use Rattle.kl1_goals.specs.Chains.{unlinked_in}
use Rattle.kl1_goals.proofs.Linking.{linked, chained_next, counts_counts, counts_exchanged}
use Rattle.kl1_goals.proofs.Chaining.{changed_set, changed_same}
use Rattle.kl1_goals.proofs.Shaping.{relinked, read_known}
use Rattle.kl1_goals.proofs.chains.link_all.Goals as goal

pub exchange_last-slot-requires-clause-low : goal.exchange_last-slot-requires-clause-low
exchange_last-slot-requires-clause-low g c =
    let l = c.loop-place in
    (read_known c.args.slots.now.items l.slots.items (length c.args.tallies.now.items) l.place c.index_mut-slot.result.now c.requires.known l.invariant.slots (omega arith) c.index_mut-slot.ensures.value).0

pub exchange_last-slot-requires-clause-high : goal.exchange_last-slot-requires-clause-high
exchange_last-slot-requires-clause-high g c =
    let l = c.loop-place in
    omega (arith, (read_known c.args.slots.now.items l.slots.items (length c.args.tallies.now.items) l.place c.index_mut-slot.result.now c.requires.known l.invariant.slots (omega arith) c.index_mut-slot.ensures.value).1, l.invariant.counts.length)

pub loop-place-preserved : goal.loop-place-preserved
loop-place-preserved g c =
    let l = c.loop-place in
    let ss = l.slots.items in
    let x = c.index_mut-slot.result.now in
    let was = c.exchange_last-slot.result in
    let us = c.exchange_last-slot.new.tallies.items in
    let within : l.place < length ss = omega arith in
    let known = read_known c.args.slots.now.items ss (length c.args.tallies.now.items) l.place x c.requires.known l.invariant.slots within c.index_mut-slot.ensures.value in
    let size : length ss ≡ length c.args.slots.now.items = sym (length-map ss (unlinked_in {N = g.row.N.Denot})) ∙ ap length l.invariant.slots ∙ length-map c.args.slots.now.items (unlinked_in {N = g.row.N.Denot}) in
    let change = relinked {N = g.row.N.Denot} was in
    let is = changed_set change ss l.place x within (sym c.index_mut-slot.ensures.value) in
    let changed : HasChanged x.goal.shoen (linked (l.place + 1)) l.tallies.items us = record { at = c.exchange_last-slot.ensures.tallies; length = c.exchange_last-slot.ensures.length } in
    record {
      chained = rw (take_more_set ss l.place (change x) within) (chained_next ss (change x) l.tallies.items us l.place l.invariant.chained (omega (arith, within)) (omega (arith, within, size, c.requires.few)) known.0 (omega (arith, known.1, l.invariant.counts.length)) c.exchange_last-slot.ensures.was changed);
      slots = rw is (changed_same unlinked_in change (λ s. refl) l.place ss) ∙ l.invariant.slots;
      slots_len = l.invariant.slots_len;
      counts = counts_counts c.args.tallies.now.items l.tallies.items us l.invariant.counts (counts_exchanged l.tallies.items us x.goal.shoen (l.place + 1) changed);
    }
