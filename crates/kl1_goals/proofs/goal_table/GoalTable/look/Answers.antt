use Rattle.std.proofs.Common.{refl, ap, ◌∙◌, arith}
use Rattle.std.proofs.lemmas.Result.{on_ok_weaker}
use Rattle.kl1_goals.specs.Lists.{looked_at}
use Rattle.kl1_goals.specs.Slots.{goals_in, looked_in}
use Rattle.kl1_goals.specs.Keeping.{parts}
use Rattle.kl1_goals.proofs.Changing.{goals_changed}
use Rattle.kl1_goals.proofs.Shaping.{linked_shaped}
use Rattle.kl1_goals.proofs.Tabling.{missing_stay, looked_here, looked_other}
use Rattle.kl1_goals.proofs.Restoring.{HasNoted, moved_tables, noted_slots, noted_view}
use Rattle.kl1_goals.proofs.Walking.{shaped_table, length_shaped}
use Rattle.kl1_goals.proofs.goal_table.GoalTable.look.Goals as goal
use Rattle.kl1_goals.proofs.goal_table.GoalTable.look.Goals.{After-look_at}

pub returns-in_default-clause-ok : goal.returns-in_default-clause-ok
returns-in_default-clause-ok g c =
    let n = c.args.number in
    rw (← c.self.view_is) (missing_stay (looked_at n c.args.standing c.args.is_enabled) n (goals_in c.self.inside.slots.items) (looked_other n c.args.standing c.args.is_enabled) c.in_default.ensures)

pub look_at-requires-clause-place : goal.look_at-requires-clause-place
look_at-requires-clause-place g c = c.in-Some.ensures.1.within

-- the table with another goal at the place
noted : (g : _) (c : goal.After-look_at g) → HasNoted c.self.inside.slots.items c.look_at.new.slots.items c.self.inside.tallies.items c.self.inside.tallies.items c.self.inside.begun c.look_at.new.begun
noted g c =
    let ss = c.self.inside.slots.items in
    let us = c.look_at.new.slots.items in
    let e = c.look_at.ensures in
    noted_slots ss us c.self.inside.tallies.items c.self.inside.begun c.look_at.new.begun e.rest e.was (omega (arith, length_shaped ss us e.shapes))

pub invariant_of-self : goal.invariant_of-self
invariant_of-self g c =
    let s = c.self.inside in
    let n = c.look_at.new in
    let e = c.look_at.ensures in
    let p = parts s.slots.items s.empty s.queue.ranks s.tallies.items s.alive s.last in
    let h = c.self.invariant.now in
    moved_tables p (record p { slots = n.slots.items; ranks = n.queue.ranks }) s.begun n.begun c.self.invariant (shaped_table p n.slots.items n.queue.ranks h e.slots.ranked (linked_shaped p.slots n.slots.items h.chained.links e.shapes e.links) e.shapes)
    (noted g (goal.at.invariant_of-self g c).After-look_at)

pub returns-clause-rest : goal.returns-clause-rest
returns-clause-rest g c =
    let s = c.self.inside in
    let n = c.look_at.new in
    let p = parts s.slots.items s.empty s.queue.ranks s.tallies.items s.alive s.last in
    rw (← c.self.view_is) (noted_view p (record p { slots = n.slots.items; ranks = n.queue.ranks }) s.begun n.begun (noted g (goal.at.returns-clause-rest g c).After-look_at) refl)

pub returns-clause-ok : goal.returns-clause-ok
returns-clause-ok g c =
    let ss = c.self.inside.slots.items in
    let x = c.in-Some.ensures.0 in
    let held = c.in-Some.ensures.1 in
    let n = c.args.number in
    let b = c.args.is_enabled in
    on_ok_weaker c.look_at.result
    (λ e. ap goals_in e ∙ rw (← c.self.view_is) (goals_changed (looked_at n c.args.standing b) (looked_in c.args.standing b) n 0 ss c.in-Some.place x c.self.invariant.now.slots.ascend held held.held (looked_here n c.args.standing b x held.number) (looked_other n c.args.standing b)))
    c.look_at.ensures.changed
