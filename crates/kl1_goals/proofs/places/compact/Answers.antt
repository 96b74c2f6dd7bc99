use Rattle.std.proofs.Common.{◌≡◌, rules, refl, map, ◌∙◌, arith}
use Rattle.std.specs.List.{filter}
use Rattle.std.proofs.lemmas.Fn.{filter_same}
use Rattle.std.proofs.lemmas.List.Sums.{length-filter, count_by-le-length}
use Rattle.kl1_goals.specs.Slots.{held_in, rank_in}
use Rattle.kl1_goals.proofs.Changing.{slots_compacted, low_kept, below_kept, goals_kept}
use Rattle.kl1_goals.proofs.Linking.{known_held, counts_counts}
use Rattle.kl1_goals.proofs.Shaping.{shapes_unlinked, low_shaped, below_shaped, slots_shaped, same_goals}
use Rattle.kl1_goals.proofs.places.compact.Goals as goal
use Rattle.kl1_goals.proofs.places.compact.Goals.{After-retain}

-- the places that are left
held : (g : _) (c : goal.After-retain g) → c.retain.new.self.items ≡ filter held_in c.args.slots.now.items
held g c = filter_same _ (held_in {N = g.row.N.Denot}) _ (λ x b f' k. search rules) _ _ c.retain.ensures.filtered

pub link_all-requires-clause-few : goal.link_all-requires-clause-few
link_all-requires-clause-few g c =
    let ss = c.args.slots.now.items in
    rw (held g (goal.at.link_all-requires-clause-few g c).After-retain) (omega (arith, length-filter (held_in {N = g.row.N.Denot}) ss, count_by-le-length (held_in {N = g.row.N.Denot}) ss, c.requires.chained.few))

pub link_all-requires-clause-known : goal.link_all-requires-clause-known
link_all-requires-clause-known g c =
    rw ((held g (goal.at.link_all-requires-clause-known g c).After-retain), c.forget_last.ensures.counts.length) (known_held _ c.args.slots.now.items c.requires.chained.known)

pub rank_all-requires-clause-low : goal.rank_all-requires-clause-low
rank_all-requires-clause-low g c =
    let ts = c.retain.new.self.items in
    let us = c.link_all.new.slots.items in
    low_shaped ts us (shapes_unlinked ts us c.link_all.ensures.slots) (rw (held g (goal.at.rank_all-requires-clause-low g c).After-retain) (low_kept c.args.slots.now.items c.requires.slots.low))

pub returns-clause-slots : goal.returns-clause-slots
returns-clause-slots g c =
    let ss = c.args.slots.now.items in
    let ts = c.retain.new.self.items in
    let us = c.link_all.new.slots.items in
    slots_shaped ts us 0 (map rank_in ts) c.rank_all.new.queue.ranks (slots_compacted ss ts c.args.empty.now c.args.queue.now.ranks (map rank_in ts) c.requires.slots (held g (goal.at.returns-clause-slots g c).After-retain) refl) (shapes_unlinked ts us c.link_all.ensures.slots) c.rank_all.ensures.ranks

pub returns-clause-counts : goal.returns-clause-counts
returns-clause-counts g c = counts_counts c.args.tallies.now.items c.forget_last.new.tallies.items c.link_all.new.tallies.items c.forget_last.ensures.counts c.link_all.ensures.counts

pub returns-clause-goals : goal.returns-clause-goals
returns-clause-goals g c =
    let ts = c.retain.new.self.items in
    same_goals ts c.link_all.new.slots.items c.link_all.ensures.slots ∙ rw (held g (goal.at.returns-clause-goals g c).After-retain) (goals_kept c.args.slots.now.items)

pub returns-clause-below : goal.returns-clause-below
returns-clause-below g c = λ n b.
    let ss = c.args.slots.now.items in
    let ts = c.retain.new.self.items in
    let us = c.link_all.new.slots.items in
    below_shaped n ts us (shapes_unlinked ts us c.link_all.ensures.slots) (rw (held g (goal.at.returns-clause-below g c).After-retain) (below_kept n ss b))
