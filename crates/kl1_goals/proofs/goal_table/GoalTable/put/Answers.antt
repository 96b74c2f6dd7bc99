use Rattle.std.proofs.Common.{◌≡◌, suc, ◌+◌, ◌<◌, Bool, List, [], ◌∷◌, ◌++◌, length, refl, ap, arith, ◌∙◌}
use Rattle.std.proofs.lemmas.List.Sums.{length-filter, count_by-le-length}
use Rattle.kl1_goals.specs.declared.goal.Goal.{Goal}
use Rattle.kl1_goals.specs.declared.slot.Slot.{Slot}
use Rattle.kl1_goals.specs.Lists.{is_goal_of}
use Rattle.kl1_goals.specs.Slots.{goals_in, numbers_of}
use Rattle.kl1_goals.specs.Tallies.{tally_at, raised}
use Rattle.kl1_goals.specs.Keeping.{parts}
use Rattle.kl1_goals.proofs.Orders.{below_more}
use Rattle.kl1_goals.proofs.Changing.{linked_to}
use Rattle.kl1_goals.proofs.Linking.{linked, counts_exchanged, tally_counts, changed_both}
use Rattle.kl1_goals.proofs.Flagging.{is_alive}
use Rattle.kl1_goals.proofs.Restoring.{HasNoted, Adds, moved_tables, noted_then, noted_push, noted_tallies, noted_view, added_table}
use Rattle.kl1_goals.proofs.goal_table.GoalTable.put.Goals as goal
use Rattle.kl1_goals.proofs.goal_table.GoalTable.put.Goals.{After-raise}

pub invariant_of-self-in_err-note_tally : goal.invariant_of-self-in_err-note_tally
invariant_of-self-in_err-note_tally g c =
    let s = c.self.inside in
    let d = c.note_tally.new.begun in
    let p = parts s.slots.items s.empty s.queue.ranks s.tallies.items s.alive s.last in
    rw (c.make_room.ensures.items, c.reserve.ensures.ranks) (moved_tables p p s.begun d c.self.invariant c.self.invariant.now (noted_tallies p.slots p.tallies p.tallies s.begun d c.note_tally.ensures.rest c.note_tally.ensures.same (omega arith)))

pub raise-requires-clause-fits : goal.raise-requires-clause-fits
raise-requires-clause-fits g c =
    let s = c.self.inside in
    let gs = goals_in s.slots.items in
    let n = c.args.goal.shoen in
    let ts = s.tallies.items in
    let us = c.exchange_last-before.new.tallies.items in
    let p : Goal g.row.N.Denot → Bool = is_goal_of n in
    let same = counts_exchanged ts us n _ (record { at = c.exchange_last-before.ensures.tallies; length = c.exchange_last-before.ensures.length }) in
    let tally = tally_counts n gs (tally_at ts n) (tally_at us n) (c.self.invariant.now.tallied n) (same.counts n) in
    omega (arith, tally.goals, length-filter p gs, count_by-le-length p gs, c.self.invariant.now.slots.counted, s.slots.ok.0, s.slots.ok.1)

pub raise_alive-self-inside-requires : goal.raise_alive-self-inside-requires
raise_alive-self-inside-requires g c =
    let s = c.self.inside in
    let gs = goals_in s.slots.items in
    let p : Goal g.row.N.Denot → Bool = is_alive in
    omega (arith, c.self.invariant.now.alive, length-filter p gs, count_by-le-length p gs, c.self.invariant.now.slots.counted, s.slots.ok.0, s.slots.ok.1)

pub append-requires-clause-number : goal.append-requires-clause-number
append-requires-clause-number g c =
    let s = c.self.inside in
    let later : s.last < c.args.goal.number = rw (← c.self.view_is) at c.requires.later in
    rw c.make_room.ensures.items (below_more (suc s.last) c.args.goal.number (numbers_of s.slots.items) (omega (arith, later)) c.self.invariant.now.below)

-- the place of the goal
placed : (g : _) (c : goal.After-raise g) → c.append.new.slots.items ≡ c.self.inside.slots.items ++ linked_to c.exchange_last-before.result c.args.goal ∷ []
placed g c = c.append.ensures.place ∙ ap (λ (l : List (Slot g.row.N.Denot)). l ++ linked_to c.exchange_last-before.result c.args.goal ∷ []) c.make_room.ensures.items

-- what was noted of its shoen
noted : (g : _) (c : goal.After-raise g) → HasNoted c.self.inside.slots.items c.append.new.slots.items c.self.inside.tallies.items c.raise.new.tallies.items c.self.inside.begun c.note_tally.new.begun
noted g c =
    let s = c.self.inside in
    let ss = s.slots.items in
    let us = c.append.new.slots.items in
    let ts = s.tallies.items in
    let xs = c.exchange_last-before.new.tallies.items in
    let vs = c.raise.new.tallies.items in
    let x = c.args.goal in
    let d = c.note_tally.new.begun in
    let l = c.len-2.result + 1 in
    let changed = changed_both x.shoen (linked l) (raised x) ts xs vs (record { at = c.exchange_last-before.ensures.tallies; length = c.exchange_last-before.ensures.length }) (record { at = c.raise.ensures.tallies; length = c.raise.ensures.length }) in
    noted_then ss us us ts ts vs s.begun s.begun d (noted_push ss us (linked_to c.exchange_last-before.result x) ts s.begun c.self.invariant.places (placed g c))
    (noted_tallies us ts vs s.begun d c.note_tally.ensures.rest (c.in_ok-note_tally.ensures.ok (λ t. raised x (linked l t)) vs changed) (omega (arith, changed.length)))

pub invariant_of-self-2 : goal.invariant_of-self-2
invariant_of-self-2 g c =
    let s = c.self.inside in
    let n = c.append.new in
    let x = c.args.goal in
    let xs = c.exchange_last-before.new.tallies.items in
    let before = c.exchange_last-before.result in
    let l = c.len-2.result + 1 in
    let p = parts s.slots.items s.empty s.queue.ranks s.tallies.items s.alive s.last in
    let q = parts n.slots.items s.empty n.queue.ranks c.raise.new.tallies.items c.raise_alive-self-inside.result x.number in
    let count : l ≡ length p.slots + 1 = omega (arith, c.len-2.ensures, c.make_room.new.list.ok.0, ap (λ (l : List (Slot g.row.N.Denot)). length l) c.make_room.ensures.items) in
    let adds : Adds p q x before l xs = record {
      next = rw (← c.self.view_is) at c.requires.next;
      later = rw (← c.self.view_is) at c.requires.later;
      slots = c.append.ensures.slots;
      place = placed g (goal.at.invariant_of-self-2 g c).After-raise;
      before_is = c.exchange_last-before.ensures.was;
      link_is = count;
      room = omega (arith, count, c.if-len-ge-MOST.false, c.len.ensures, s.slots.ok.0);
      exchanged = record { at = c.exchange_last-before.ensures.tallies; length = c.exchange_last-before.ensures.length };
      counted = record { at = c.raise.ensures.tallies; length = c.raise.ensures.length };
      alive = c.raise_alive-self-inside.ensures;
      last = refl;
    } in
    moved_tables p q s.begun c.note_tally.new.begun c.self.invariant (added_table p q x before l xs c.self.invariant.now adds) (noted g (goal.at.invariant_of-self-2 g c).After-raise)

pub returns-clause-rest : goal.returns-clause-rest
returns-clause-rest g c =
    let s = c.self.inside in
    let n = c.append.new in
    let p = parts s.slots.items s.empty s.queue.ranks s.tallies.items s.alive s.last in
    let q = parts n.slots.items s.empty n.queue.ranks c.raise.new.tallies.items c.raise_alive-self-inside.result c.args.goal.number in
    rw (← c.self.view_is) (noted_view p q s.begun c.note_tally.new.begun (noted g (goal.at.returns-clause-rest g c).After-raise) (c.raise.ensures.length ∙ c.exchange_last-before.ensures.length))
