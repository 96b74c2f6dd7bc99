use Rattle.std.proofs.Common.{◌<◌, ◌≤◌, length, refl, sym, arith}
use Rattle.kl1_goals.specs.Tallies.{HasChanged}
use Rattle.kl1_goals.specs.Chains.{shoen_in}
use Rattle.kl1_goals.proofs.Changing.{field_read}
use Rattle.kl1_goals.proofs.Linking.{counts_counts, counts_exchanged, linked}
use Rattle.kl1_goals.proofs.Chaining.{forget_next, forget_end}
use Rattle.kl1_goals.proofs.Shaping.{read_known}
use Rattle.kl1_goals.proofs.chains.forget_last.Goals as goal
use Rattle.kl1_goals.proofs.chains.forget_last.Goals.{After-index}

-- the shoen of the place is known
known : (g : _) (c : goal.After-index g) → (0 < c.index.result.now.goal.shoen) × (c.index.result.now.goal.shoen ≤ length c.args.tallies.now.items)
known g c =
    let ss = c.args.slots.now.items in
    read_known ss ss (length c.args.tallies.now.items) c.loop-place.place c.index.result.now c.requires.known refl (omega arith) c.index.ensures

pub exchange_last-requires-clause-low : goal.exchange_last-requires-clause-low
exchange_last-requires-clause-low g c = (known g (goal.at.exchange_last-requires-clause-low g c).After-index).0

pub exchange_last-requires-clause-high : goal.exchange_last-requires-clause-high
exchange_last-requires-clause-high g c = omega (arith, (known g (goal.at.exchange_last-requires-clause-high g c).After-index).1, c.loop-place.invariant.counts.length)

pub returns-clause-last : goal.returns-clause-last
returns-clause-last g c = λ n.
    forget_end c.args.slots.now.items c.args.tallies.now.items c.loop-place.tallies.items c.loop-place.place c.requires c.loop-place.invariant.forgets (omega (arith, c.loop-place-test.false, c.len-place-end.ensures, c.args.slots.now.ok.0)) n

pub loop-place-preserved : goal.loop-place-preserved
loop-place-preserved g c =
    let l = c.loop-place in
    let ss = c.args.slots.now.items in
    let ts = c.args.tallies.now.items in
    let us = l.tallies.items in
    let vs = c.exchange_last.new.tallies.items in
    let x = c.index.result.now in
    let within : l.place < length ss = omega arith in
    let changed : HasChanged x.goal.shoen (linked 0) us vs = record { at = c.exchange_last.ensures.tallies; length = c.exchange_last.ensures.length } in
    record {
      forgets = forget_next ss ts us vs l.place x.goal.shoen l.invariant.forgets (sym (field_read shoen_in ss l.place x within c.index.ensures)) changed;
      counts = counts_counts ts us vs l.invariant.counts (counts_exchanged us vs x.goal.shoen 0 changed);
    }
