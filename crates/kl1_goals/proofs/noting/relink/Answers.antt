use Rattle.std.proofs.Common.{length, ap}
use Rattle.kl1_goals.specs.declared.tally.Tally.{Tally}
use Rattle.kl1_goals.specs.Tallies.{HasChanged}
use Rattle.kl1_goals.proofs.Linking.{chained_one, linked}
use Rattle.kl1_goals.proofs.Walking.{linked_known}
use Rattle.kl1_goals.proofs.noting.relink.Goals as goal

pub returns-clause-chained : goal.returns-clause-chained
returns-clause-chained g c =
    let ss = c.args.slots.now.items in
    let ts = c.args.tallies.now.items in
    let us = c.exchange_last.new.tallies.items in
    let n = c.args.shoen in
    let l = c.held_link-link.result in
    let changed : HasChanged n (linked l) ts us = record { at = c.exchange_last.ensures.tallies; length = c.exchange_last.ensures.length } in
    let link = c.held_link-link.ensures.link n (length ss) (rw (ap (λ (t : Tally). t.last) c.tally_of-last.ensures) (c.requires.lasts n)) in
    chained_one ss ts us n l c.requires link changed

pub returns-clause-was : goal.returns-clause-was
returns-clause-was g c =
    c.in_ok-note_tally.ensures.ok (linked c.held_link-link.result) c.exchange_last.new.tallies.items (record { at = c.exchange_last.ensures.tallies; length = c.exchange_last.ensures.length })

pub returns-clause-link : goal.returns-clause-link
returns-clause-link g c =
    let ss = c.args.slots.now.items in
    let n = c.args.shoen in
    c.held_link-link.ensures.link n (length ss) (rw (ap (λ (t : Tally). t.last) c.tally_of-last.ensures) (c.requires.lasts n))

pub note_tally-requires-clause-low : goal.note_tally-requires-clause-low
note_tally-requires-clause-low g c = (linked_known c.args.tallies.now.items c.args.shoen c.tally_of-last.result.last c.held_link-link.result c.held_link-link.ensures.within (ap (λ (t : Tally). t.last) c.tally_of-last.ensures) c.if-link-last.false).0

pub note_tally-requires-clause-high : goal.note_tally-requires-clause-high
note_tally-requires-clause-high g c = (linked_known c.args.tallies.now.items c.args.shoen c.tally_of-last.result.last c.held_link-link.result c.held_link-link.ensures.within (ap (λ (t : Tally). t.last) c.tally_of-last.ensures) c.if-link-last.false).1
