use Rattle.std.proofs.Common.{◌<◌, List, ℕ, None, is_some, option_map, length, sym, ap, ◌∙◌, subst, arith}
use Rattle.std.proofs.lemmas.Bool.{false≢true}
use Rattle.std.proofs.lemmas.List.{length-map}
use Rattle.kl1_queue.specs.Ranks.{AreNone, IsFirst}
use Rattle.kl1_goals.specs.Readies.{chosen}
use Rattle.kl1_goals.specs.Slots.{rank_in}
use Rattle.kl1_goals.proofs.Changing.{field_read}
use Rattle.kl1_goals.proofs.Ranking.{none_first, picked, ready_held, stands_some}
use Rattle.kl1_goals.proofs.goal_table.GoalTable.pick.Goals as goal

pub returns-in-None : goal.returns-in-None
returns-in-None g c =
    let ss = c.self.inside.slots.items in
    let A : List ℕ → Type 0 = λ rs. AreNone rs in
    rw (← c.self.view_is) (sym (ap (option_map chosen) (none_first None ss (subst A c.self.invariant.now.slots.ranked c.in-None.ensures))))

pub returns-in-None-clause : goal.returns-in-None-clause
returns-in-None-clause g c =
    let ss = c.self.inside.slots.items in
    let x = c.index.result.now in
    let A : List ℕ → Type 0 = λ rs. IsFirst rs c.in-Some.place in
    let first = subst A c.self.invariant.now.slots.ranked c.in-Some.ensures in
    let within : c.in-Some.place < length ss = omega (arith, first.within, length-map ss (rank_in {N = g.row.N.Denot})) in
    let at = field_read rank_in ss c.in-Some.place x within c.index.ensures in
    let stands = stands_some x.goal (ready_held x (omega (arith, at, first.ready))).1 in
    absurd (false≢true (ap is_some (c.in-None-clause.ensures) ∙ stands))

pub returns-in-Some-clause : goal.returns-in-Some-clause
returns-in-Some-clause g c =
    let ss = c.self.inside.slots.items in
    let x = c.index.result.now in
    let A : List ℕ → Type 0 = λ rs. IsFirst rs c.in-Some.place in
    let first = subst A c.self.invariant.now.slots.ranked c.in-Some.ensures in
    let within : c.in-Some.place < length ss = omega (arith, first.within, length-map ss (rank_in {N = g.row.N.Denot})) in
    rw (← c.self.view_is) (sym (ap (option_map chosen) (picked ss c.self.inside.queue.ranks c.in-Some.place x c.in-Some-clause.clause c.self.invariant.now.slots.ascend c.self.invariant.now.slots.ranked c.in-Some.ensures within c.index.ensures (sym c.in-Some-clause.ensures))))
