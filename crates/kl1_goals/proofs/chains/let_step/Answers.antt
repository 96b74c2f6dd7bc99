use Rattle.std.proofs.Common.{sym, ◌∙◌}
use Rattle.kl1_goals.specs.Lists.{is_goal_of}
use Rattle.kl1_goals.specs.Slots.{rank_in}
use Rattle.kl1_goals.proofs.Flagging.{same_bool, ranks_set, ranks_kept, priority_at}
use Rattle.kl1_goals.proofs.Chaining.{stepping, let_set, if_not, if_so}
use Rattle.kl1_goals.proofs.chains.let_step.Goals as goal

pub returns-then-not-is_goal_of-clause-slots : goal.returns-then-not-is_goal_of-clause-slots
returns-then-not-is_goal_of-clause-slots g c =
    let x = c.index_mut-slot.result.now in
    let other = sym c.is_goal_of.ensures ∙ c.if-not-is_goal_of.true in
    let_set c.args.shoen c.args.is_enabled x.goal.is_enabled c.args.slots.now.items c.args.place x c.requires.place (sym c.index_mut-slot.ensures.value) (if_not (is_goal_of c.args.shoen x.goal) c.args.is_enabled x.goal.is_enabled other)

pub returns-then-not-is_goal_of-clause-ranks : goal.returns-then-not-is_goal_of-clause-ranks
returns-then-not-is_goal_of-clause-ranks g c = ranks_kept c.args.slots.now.items c.args.place c.index_mut-slot.result.now c.args.queue.now.ranks c.requires.place (sym c.index_mut-slot.ensures.value) c.requires.ranks

pub returns-then-slot-is_enabled-clause-slots : goal.returns-then-slot-is_enabled-clause-slots
returns-then-slot-is_enabled-clause-slots g c =
    let x = c.index_mut-slot.result.now in
    let of = sym c.is_goal_of.ensures ∙ c.if-not-is_goal_of.false in
    let_set c.args.shoen c.args.is_enabled x.goal.is_enabled c.args.slots.now.items c.args.place x c.requires.place (sym c.index_mut-slot.ensures.value)
    (same_bool x.goal.is_enabled c.args.is_enabled c.if-slot-is_enabled.true ∙ if_so (is_goal_of c.args.shoen x.goal) c.args.is_enabled x.goal.is_enabled of)

pub returns-then-slot-is_enabled-clause-ranks : goal.returns-then-slot-is_enabled-clause-ranks
returns-then-slot-is_enabled-clause-ranks g c = ranks_kept c.args.slots.now.items c.args.place c.index_mut-slot.result.now c.args.queue.now.ranks c.requires.place (sym c.index_mut-slot.ensures.value) c.requires.ranks

pub rank-requires-clause-priority : goal.rank-requires-clause-priority
rank-requires-clause-priority g c = priority_at c.args.slots.now.items c.args.place c.index_mut-slot.result.now c.requires.low c.requires.place c.index_mut-slot.ensures.value

pub returns-clause-slots : goal.returns-clause-slots
returns-clause-slots g c =
    let x = c.index_mut-slot.result.now in
    let of = sym c.is_goal_of.ensures ∙ c.if-not-is_goal_of.false in
    let_set c.args.shoen c.args.is_enabled c.args.is_enabled c.args.slots.now.items c.args.place x c.requires.place (sym c.index_mut-slot.ensures.value) (if_so (is_goal_of c.args.shoen x.goal) c.args.is_enabled x.goal.is_enabled of)

pub returns-clause-ranks : goal.returns-clause-ranks
returns-clause-ranks g c = ranks_set rank_in c.args.slots.now.items c.args.place (stepping c.args.is_enabled c.index_mut-slot.result.now) c.args.queue.now.ranks c.rank.new.queue.ranks c.requires.ranks c.rank.ensures
