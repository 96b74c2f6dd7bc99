use Rattle.std.proofs.Common.{arith}
use Rattle.kl1_goals.specs.Keeping.{parts}
use Rattle.kl1_goals.proofs.Restoring.{HasNoted, moved_tables, noted_then, noted_slots, noted_tallies, noted_view}
use Rattle.kl1_goals.proofs.Walking.{relinked_table, shaped_table, length_shaped}
use Rattle.kl1_goals.proofs.goal_table.GoalTable.enable.Goals as goal
use Rattle.kl1_goals.proofs.goal_table.GoalTable.enable.Goals.{After-relink, After-let_each_step}

-- what was noted of the shoen
noted_link : (g : _) (c : goal.After-relink g) → HasNoted c.self.inside.slots.items c.self.inside.slots.items c.self.inside.tallies.items c.relink.new.tallies.items c.self.inside.begun c.relink.new.begun
noted_link g c = let e = c.relink.ensures in noted_tallies c.self.inside.slots.items c.self.inside.tallies.items c.relink.new.tallies.items c.self.inside.begun c.relink.new.begun e.rest e.was (omega (arith, e.counts.length))

-- and of its places
noted : (g : _) (c : goal.After-let_each_step g) → HasNoted c.self.inside.slots.items c.let_each_step.new.slots.items c.self.inside.tallies.items c.relink.new.tallies.items c.self.inside.begun c.let_each_step.new.begun
noted g c =
    let ss = c.self.inside.slots.items in
    let us = c.let_each_step.new.slots.items in
    let vs = c.relink.new.tallies.items in
    let e = c.let_each_step.ensures in
    noted_then ss ss us c.self.inside.tallies.items vs vs c.self.inside.begun c.relink.new.begun c.let_each_step.new.begun
    (let l = c.relink.ensures in noted_tallies ss c.self.inside.tallies.items vs c.self.inside.begun c.relink.new.begun l.rest l.was (omega (arith, l.counts.length)))
    (noted_slots ss us vs c.relink.new.begun c.let_each_step.new.begun e.rest e.was (omega (arith, length_shaped ss us e.shapes)))

pub invariant_of-self : goal.invariant_of-self
invariant_of-self g c =
    let s = c.self.inside in
    let vs = c.relink.new.tallies.items in
    let p = parts s.slots.items s.empty s.queue.ranks s.tallies.items s.alive s.last in
    moved_tables p (record p { tallies = vs }) s.begun c.relink.new.begun c.self.invariant (relinked_table p vs c.self.invariant.now c.relink.ensures.chained c.relink.ensures.counts) (noted_link g (goal.at.invariant_of-self g c).After-relink)

pub invariant_of-self-2 : goal.invariant_of-self-2
invariant_of-self-2 g c =
    let s = c.self.inside in
    let n = c.let_each_step.new in
    let e = c.let_each_step.ensures in
    let vs = c.relink.new.tallies.items in
    let p = parts s.slots.items s.empty s.queue.ranks s.tallies.items s.alive s.last in
    let q = parts s.slots.items s.empty s.queue.ranks vs s.alive s.last in
    moved_tables p (record q { slots = n.slots.items; ranks = n.queue.ranks }) s.begun n.begun c.self.invariant
    (shaped_table q n.slots.items n.queue.ranks (relinked_table p vs c.self.invariant.now c.relink.ensures.chained c.relink.ensures.counts) e.ranks e.links e.shapes) (noted g (goal.at.invariant_of-self-2 g c).After-let_each_step)

pub returns-clause-ok : goal.returns-clause-ok
returns-clause-ok g c = rw (← c.self.view_is) c.let_each_step.ensures.goals

pub returns-clause-rest : goal.returns-clause-rest
returns-clause-rest g c =
    let s = c.self.inside in
    let n = c.let_each_step.new in
    let p = parts s.slots.items s.empty s.queue.ranks s.tallies.items s.alive s.last in
    rw (← c.self.view_is) (noted_view p (parts n.slots.items s.empty n.queue.ranks c.relink.new.tallies.items s.alive s.last) s.begun n.begun (noted g (goal.at.returns-clause-rest g c).After-let_each_step) c.relink.ensures.counts.length)
