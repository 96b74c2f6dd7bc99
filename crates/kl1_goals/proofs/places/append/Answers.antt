use Rattle.std.proofs.Common.{◌++◌, ◌∷◌, [], ap, ◌∙◌}
use Rattle.kl1_queue.specs.Ranks.{rank_of}
use Rattle.kl1_goals.proofs.Changing.{slots_push, goals_push}
use Rattle.kl1_goals.proofs.places.append.Goals as goal

pub returns-clause-slots : goal.returns-clause-slots
returns-clause-slots g c = rw c.push_reserved.ensures.items (slots_push c.args.slots.now.items c.args.empty c.args.queue.now.ranks c.extend.new.self.ranks c.args.goal.now c.args.before c.requires.slots c.requires.number c.requires.priority (c.extend.ensures.ranks ∙ ap (λ p. c.args.queue.now.ranks ++ rank_of p ∷ []) c.ready_priority.ensures))

pub returns-clause-goals : goal.returns-clause-goals
returns-clause-goals g c = rw c.push_reserved.ensures.items (goals_push c.args.slots.now.items c.args.goal.now c.args.before)
