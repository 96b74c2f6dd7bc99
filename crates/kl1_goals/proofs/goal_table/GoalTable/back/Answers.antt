use Rattle.std.proofs.Common.{◌≡◌, List, map, refl, sym, ap, ◌∙◌, subst}
use Rattle.kl1_shoen_paths.specs.Tracked.{put_back}
use Rattle.kl1_goals.specs.declared.slot.Slot.{Slot}
use Rattle.kl1_goals.specs.declared.begun.Begun.{Begun}
use Rattle.kl1_goals.specs.Slots.{level_in, AreLow}
use Rattle.kl1_goals.specs.Keeping.{parts, places_then, kept_then}
use Rattle.kl1_goals.proofs.Restoring.{back_tables, back_view}
use Rattle.kl1_goals.proofs.Capping.{low_first, ranks_first}
use Rattle.kl1_goals.proofs.goal_table.GoalTable.back.Goals as goal
use Rattle.kl1_goals.proofs.goal_table.GoalTable.back.Goals.{After-put_all_back}

-- the places and what is kept of shoens are as they were
places : (g : _) (c : goal.After-put_all_back g) → c.put_slots_back.new.slots.items ≡ places_then c.self.inside.begun c.self.inside.slots.items
places g c = c.put_slots_back.ensures.slots ∙ ap (put_back c.self.inside.begun.slots.items) c.truncate.ensures.items

kept : (g : _) (c : goal.After-put_all_back g) → c.put_all_back.new.items.items ≡ kept_then c.self.inside.begun c.self.inside.tallies.items
kept g c = c.put_all_back.ensures.items ∙ ap (put_back c.self.inside.begun.tallies.items) c.truncate-2.ensures.items

pub invariant_of-self : goal.invariant_of-self
invariant_of-self g c =
    let s = c.self.inside in
    let here = (goal.at.invariant_of-self g c).After-put_all_back in
    let L : List (Slot g.row.N.Denot) → Type 0 = λ l. AreLow (map level_in l) in
    back_tables (parts s.slots.items s.empty s.queue.ranks s.tallies.items s.alive s.last) c.put_slots_back.new.slots.items c.put_slots_back.new.queue.ranks c.put_all_back.new.items.items s.begun _ c.self.invariant
    (places g here) (kept g here) (c.put_slots_back.ensures.ranks (subst L (sym (places g here)) c.self.invariant.was.slots.low)) (record { slots = c.put_slots_back.ensures.was; tallies = c.put_all_back.ensures.was; rest = refl })

pub returns : goal.returns
returns g c =
    let s = c.self.inside in
    let here = (goal.at.returns g c).After-put_all_back in
    let b : Begun g.row.N.Denot = record s.begun { slots = c.put_slots_back.new.was; tallies = c.put_all_back.new.was } in
    rw (← c.self.view_is)
    (back_view (parts s.slots.items s.empty s.queue.ranks s.tallies.items s.alive s.last) c.put_slots_back.new.slots.items c.put_slots_back.new.queue.ranks c.put_all_back.new.items.items s.begun b c.self.invariant
    (places g here) (kept g here) (record { slots = c.put_slots_back.ensures.was; tallies = c.put_all_back.ensures.was; rest = refl }))

pub put_slots_back-requires-clause-low : goal.put_slots_back-requires-clause-low
put_slots_back-requires-clause-low g c = low_first c.self.inside.begun.places c.self.inside.slots.items c.truncate.new.self.items c.truncate.ensures.items c.self.invariant.now.slots.low

pub put_slots_back-requires-clause-ranks : goal.put_slots_back-requires-clause-ranks
put_slots_back-requires-clause-ranks g c = ranks_first c.self.inside.begun.places c.self.inside.slots.items c.truncate.new.self.items c.self.inside.queue.ranks c.cut_ranks.new.queue.ranks c.truncate.ensures.items c.self.invariant.now.slots.ranked c.cut_ranks.ensures.ranks
