use Rattle.std.proofs.Common.{length, refl, sym, ap, ◌∙◌, arith}
use Rattle.std.specs.List.{filter}
use Rattle.kl1_goals.specs.Lists.{is_other}
use Rattle.kl1_goals.specs.Slots.{goals_in, emptied}
use Rattle.kl1_goals.specs.Tables.{IsKnown}
use Rattle.kl1_goals.specs.Tallies.{lowered}
use Rattle.kl1_goals.specs.Keeping.{parts, places_then}
use Rattle.kl1_goals.proofs.Changing.{held_here, held_itself}
use Rattle.kl1_goals.proofs.Chaining.{changed_set, changed_length}
use Rattle.kl1_goals.proofs.Tabling.{known_place, missing_others}
use Rattle.kl1_goals.proofs.Restoring.{HasNoted, Removes, moved_tables, noted_then, noted_slots, noted_tallies, noted_view, removed_table}
use Rattle.kl1_goals.proofs.goal_table.GoalTable.remove.Goals as goal
use Rattle.kl1_goals.proofs.goal_table.GoalTable.remove.Goals.{After-index, After-lower}

pub returns-in_default-clause-ok : goal.returns-in_default-clause-ok
returns-in_default-clause-ok g c = rw (← c.self.view_is) (sym (missing_others c.args.number (goals_in c.self.inside.slots.items) c.in_default.ensures))

pub invariant_of-self : goal.invariant_of-self
invariant_of-self g c =
    let s = c.self.inside in
    let p = parts s.slots.items s.empty s.queue.ranks s.tallies.items s.alive s.last in
    moved_tables p p s.begun c.note_slot.new.begun c.self.invariant c.self.invariant.now (noted_slots p.slots p.slots p.tallies s.begun c.note_slot.new.begun c.note_slot.ensures.rest c.note_slot.ensures.same (omega arith))

-- the goal's shoen is known
known : (g : _) (c : goal.After-index g) → IsKnown c.index.result.now.goal (length c.self.inside.tallies.items)
known g c =
    let s = c.self.inside in
    known_place (parts s.slots.items s.empty s.queue.ranks s.tallies.items s.alive s.last) c.args.number c.in-Some.place c.index.result.now c.in-Some.ensures.0 c.self.invariant.now c.in-Some.ensures.1 c.index.ensures

pub note_tally-requires-clause-low : goal.note_tally-requires-clause-low
note_tally-requires-clause-low g c = (known g (goal.at.note_tally-requires-clause-low g c).After-index).low

pub note_tally-requires-clause-high : goal.note_tally-requires-clause-high
note_tally-requires-clause-high g c = (known g (goal.at.note_tally-requires-clause-high g c).After-index).high

pub lower-requires-clause-low : goal.lower-requires-clause-low
lower-requires-clause-low g c = (known g (goal.at.lower-requires-clause-low g c).After-index).low

pub lower-requires-clause-high : goal.lower-requires-clause-high
lower-requires-clause-high g c = (known g (goal.at.lower-requires-clause-high g c).After-index).high

pub invariant_of-self-in_err-note_tally : goal.invariant_of-self-in_err-note_tally
invariant_of-self-in_err-note_tally g c =
    let s = c.self.inside in
    let b = c.note_slot.new.begun in
    let d = c.note_tally.new.begun in
    let p = parts s.slots.items s.empty s.queue.ranks s.tallies.items s.alive s.last in
    moved_tables p p s.begun d c.self.invariant c.self.invariant.now
    (noted_then p.slots p.slots p.slots p.tallies p.tallies p.tallies s.begun b d (noted_slots p.slots p.slots p.tallies s.begun b c.note_slot.ensures.rest c.note_slot.ensures.same (omega arith)) (noted_tallies p.slots p.tallies p.tallies b d c.note_tally.ensures.rest c.note_tally.ensures.same (omega arith)))

-- what was noted of the place and of the shoen
noted : (g : _) (c : goal.After-lower g) → HasNoted c.self.inside.slots.items c.bury.new.slots.items c.self.inside.tallies.items c.lower.new.tallies.items c.self.inside.begun c.note_tally.new.begun
noted g c =
    let s = c.self.inside in
    let ss = s.slots.items in
    let us = c.bury.new.slots.items in
    let ts = s.tallies.items in
    let vs = c.lower.new.tallies.items in
    let x = c.index.result.now in
    let k = c.in-Some.place in
    let b = c.note_slot.new.begun in
    let d = c.note_tally.new.begun in
    let is = c.bury.ensures.emptied in
    let was = ap (places_then b) (is ∙ sym (changed_set emptied ss k x c.in-Some.ensures.1.within (sym c.index.ensures))) ∙ c.in_ok-note_slot.ensures.ok (emptied x) in
    noted_then ss us us ts ts vs s.begun b d (noted_slots ss us ts s.begun b c.note_slot.ensures.rest was (omega (arith, ap length is, changed_length emptied k ss)))
    (noted_tallies us ts vs b d c.note_tally.ensures.rest (c.in_ok-note_tally.ensures.ok (lowered x.goal) vs (record { at = c.lower.ensures.tallies; length = c.lower.ensures.length })) (omega (arith, c.lower.ensures.length)))

pub invariant_of-self-2 : goal.invariant_of-self-2
invariant_of-self-2 g c =
    let s = c.self.inside in
    let n = c.bury.new in
    let x = c.index.result.now in
    let k = c.in-Some.place in
    let p = parts s.slots.items s.empty s.queue.ranks s.tallies.items s.alive s.last in
    let held = held_itself p.slots c.args.number k x (held_here p.slots c.args.number k x c.in-Some.ensures.0 c.in-Some.ensures.1 c.index.ensures) in
    let q = parts n.slots.items n.empty n.queue.ranks c.lower.new.tallies.items c.lower_alive-self-inside.result s.last in
    let removes : Removes p q k x = record { slots = c.bury.ensures.slots; place = c.bury.ensures.emptied; goals = c.bury.ensures.goals x held; tallies = record { at = c.lower.ensures.tallies; length = c.lower.ensures.length }; alive = c.lower_alive-self-inside.ensures; last = refl } in
    moved_tables p q s.begun c.note_tally.new.begun c.self.invariant (removed_table p q k x c.self.invariant.now removes) (noted g (goal.at.invariant_of-self-2 g c).After-lower)

pub returns-clause-ok : goal.returns-clause-ok
returns-clause-ok g c =
    let ss = c.self.inside.slots.items in
    let n = c.args.number in
    let x = c.index.result.now in
    let held = held_here ss n c.in-Some.place x c.in-Some.ensures.0 c.in-Some.ensures.1 c.index.ensures in
    rw (← c.self.view_is) ((c.bury.ensures.goals x (held_itself ss n c.in-Some.place x held)).goals ∙ ap (λ m. filter (is_other m) (goals_in ss)) held.number)

pub returns-clause-rest : goal.returns-clause-rest
returns-clause-rest g c =
    let s = c.self.inside in
    let n = c.bury.new in
    let p = parts s.slots.items s.empty s.queue.ranks s.tallies.items s.alive s.last in
    let q = parts n.slots.items n.empty n.queue.ranks c.lower.new.tallies.items c.lower_alive-self-inside.result s.last in
    rw (← c.self.view_is) (noted_view p q s.begun c.note_tally.new.begun (noted g (goal.at.returns-clause-rest g c).After-lower) c.lower.ensures.length)
