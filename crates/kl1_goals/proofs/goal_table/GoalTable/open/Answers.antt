use Rattle.std.proofs.Common.{[], ◌∷◌, ◌++◌}
use Rattle.kl1_goals.specs.Tallies.{nothing}
use Rattle.kl1_goals.specs.Keeping.{parts}
use Rattle.kl1_goals.proofs.Tabling.{opened_table}
use Rattle.kl1_goals.proofs.Restoring.{moved_tables, noted_open}
use Rattle.kl1_goals.proofs.goal_table.GoalTable.open.Goals as goal

pub invariant_of-self-2 : goal.invariant_of-self-2
invariant_of-self-2 g c =
    let s = c.self.inside in
    let ts = s.tallies.items in
    let p = parts s.slots.items s.empty s.queue.ranks ts s.alive s.last in
    rw c.in_ok-push.ensures.items (moved_tables p (record p { tallies = ts ++ nothing ∷ [] }) s.begun s.begun c.self.invariant (opened_table p c.self.invariant.now) (noted_open s.slots.items nothing ts s.begun c.self.invariant.shoens))
