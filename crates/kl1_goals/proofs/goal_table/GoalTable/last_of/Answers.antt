use Rattle.std.proofs.Common.{◌≡◌, suc, ◌-◌, arith}
use Rattle.kl1_goals.specs.Keeping.{AreTables, parts}
use Rattle.kl1_goals.proofs.Restoring.{seen_as, moved_tables, noted_tallies, noted_view}
use Rattle.kl1_goals.proofs.Walking.{relinked_table, none_linked, last_linked}
use Rattle.kl1_goals.proofs.goal_table.GoalTable.last_of.Goals as goal
use Rattle.kl1_goals.proofs.goal_table.GoalTable.last_of.Goals.{After-relink}

-- the table as it is after a shoen was linked anew
relinked : (g : _) (c : goal.After-relink g) → AreTables (parts c.self.inside.slots.items c.self.inside.empty c.self.inside.queue.ranks c.relink.new.tallies.items c.self.inside.alive c.self.inside.last) c.relink.new.begun
relinked g c =
    let s = c.self.inside in
    let vs = c.relink.new.tallies.items in
    let p = parts s.slots.items s.empty s.queue.ranks s.tallies.items s.alive s.last in
    let e = c.relink.ensures in
    moved_tables p (record p { tallies = vs }) s.begun c.relink.new.begun c.self.invariant (relinked_table p vs c.self.invariant.now e.chained e.counts) (noted_tallies p.slots p.tallies vs s.begun c.relink.new.begun e.rest e.was (omega (arith, e.counts.length)))

-- and what is seen of it
seen : (g : _) (c : goal.After-relink g) → seen_as (parts c.self.inside.slots.items c.self.inside.empty c.self.inside.queue.ranks c.relink.new.tallies.items c.self.inside.alive c.self.inside.last) c.relink.new.begun
    ≡ seen_as (parts c.self.inside.slots.items c.self.inside.empty c.self.inside.queue.ranks c.self.inside.tallies.items c.self.inside.alive c.self.inside.last) c.self.inside.begun
seen g c =
    let s = c.self.inside in
    let vs = c.relink.new.tallies.items in
    let p = parts s.slots.items s.empty s.queue.ranks s.tallies.items s.alive s.last in
    let e = c.relink.ensures in
    noted_view p (record p { tallies = vs }) s.begun c.relink.new.begun (noted_tallies p.slots p.tallies vs s.begun c.relink.new.begun e.rest e.was (omega (arith, e.counts.length))) e.counts.length

pub invariant_of-self : goal.invariant_of-self
invariant_of-self g c = relinked g (goal.at.invariant_of-self g c).After-relink

pub invariant_of-self-then-link-eq0 : goal.invariant_of-self-then-link-eq0
invariant_of-self-then-link-eq0 g c = relinked g (goal.at.invariant_of-self-then-link-eq0 g c).After-relink

pub invariant_of-self-2 : goal.invariant_of-self-2
invariant_of-self-2 g c = relinked g (goal.at.invariant_of-self-2 g c).After-relink

pub returns-clause-same : goal.returns-clause-same
returns-clause-same g c = rw (← c.self.view_is) (seen g (goal.at.returns-clause-same g c).After-relink)

pub returns-then-link-eq0-clause-same : goal.returns-then-link-eq0-clause-same
returns-then-link-eq0-clause-same g c = rw (← c.self.view_is) (seen g (goal.at.returns-then-link-eq0-clause-same g c).After-relink)

pub returns-then-link-eq0-clause-last : goal.returns-then-link-eq0-clause-last
returns-then-link-eq0-clause-last g c =
    let s = c.self.inside in
    rw (← c.self.view_is) (none_linked c.args.shoen c.in_ok-link.link s.slots.items c.in_ok-link.ensures.link c.if-link-eq0.true)

pub returns-clause-last : goal.returns-clause-last
returns-clause-last g c =
    let s = c.self.inside in
    let l = c.in_ok-link.link in
    let one : l ≡ suc (l - 1) = omega (arith, c.if-link-eq0.false) in
    rw (← c.self.view_is) (last_linked c.args.shoen l (l - 1) s.slots.items c.index.result.now c.self.invariant.now.slots.ascend c.in_ok-link.ensures.link one c.index.ensures (c.in_ok-link.ensures.held (omega (arith, c.if-link-eq0.false))))
