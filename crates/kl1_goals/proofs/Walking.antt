-- What is so of a table after a walk along the places of a shoen.
use Rattle.std.proofs.Common.{◌≡◌, ℕ, suc, ◌-◌, ◌<◌, ◌≤◌, not, true, false, List, length, get_or, set, map, sym, ap, ◌∙◌, arith}
use Rattle.std.specs.List.{filter}
use Rattle.std.proofs.lemmas.List.{length-map}
use Rattle.kl1_goals.specs.declared.goal.Goal.{Goal}
use Rattle.kl1_goals.specs.declared.slot.Slot.{Slot}
use Rattle.kl1_goals.specs.declared.tally.Tally.{Tally}
use Rattle.kl1_goals.specs.Lists.{is_in}
use Rattle.kl1_goals.specs.Tables.{Ascend, IsOfShoen}
use Rattle.kl1_goals.specs.Slots.{goals_in, numbers_of, rank_in, held_in, emptied}
use Rattle.kl1_goals.specs.Tallies.{tally_at}
use Rattle.kl1_goals.specs.Chains.{Shape, shape_in, last_at, IsLink, AreLinked, AreChained, HaveSameCounts}
use Rattle.kl1_goals.specs.Keeping.{Parts, IsTable}
use Rattle.kl1_goals.proofs.Changing.{without_at, length_without}
use Rattle.kl1_goals.proofs.Linking.{last_known, chained_less, tally_counts}
use Rattle.kl1_goals.proofs.Chaining.{read_at, changed_set, emptied_first, emptied_last, goals_emptied}
use Rattle.kl1_goals.proofs.Shaping.{slots_shaped, less_shaped, below_shaped, count_shaped, tally_shaped}

-- a shoen that is linked past empty places is known
pub linked_known : (ts : List Tally) (n last link : ℕ) → link ≤ last → last ≡ last_at ts n → (link ≡ last → ⊥) → (0 < n) × (n ≤ length ts)
linked_known ts n last link within e ne = last_known ts n (λ z. ne (omega (arith, within, e, z)))

-- a table of which a shoen is linked anew
pub relinked_table : {N : Type 0} (p : Parts N) (ts : List Tally) → IsTable p → AreChained p.slots ts → HaveSameCounts p.tallies ts → IsTable (record p { tallies = ts })
relinked_table p ts h chained counts = record {
  slots = h.slots;
  tallied = λ n. tally_counts n (goals_in p.slots) (tally_at p.tallies n) (tally_at ts n) (h.tallied n) (counts.counts n);
  chained = chained;
  alive = h.alive;
  below = h.below;
}

-- a table whose goals may step, or may not, or have other clauses
pub shaped_table : {N : Type 0} (p : Parts N) (ss : List (Slot N)) (ranks : List ℕ) → IsTable p → ranks ≡ map rank_in ss → AreLinked ss → map shape_in ss ≡ map shape_in p.slots → IsTable (record p { slots = ss; ranks = ranks })
shaped_table p ss ranks h ranked links shapes = record {
  slots = slots_shaped p.slots ss p.empty p.ranks ranks h.slots shapes ranked;
  tallied = λ n. tally_shaped n p.slots ss (tally_at p.tallies n) shapes (h.tallied n);
  chained = chained_less p.slots ss p.tallies (less_shaped p.slots ss shapes) links h.chained;
  alive = h.alive ∙ sym (count_shaped (λ (h : Shape). not h.is_monitor) p.slots ss shapes);
  below = below_shaped (suc p.last) p.slots ss shapes h.below;
}

pub length_shaped : {N : Type 0} (ss us : List (Slot N)) → map shape_in us ≡ map shape_in ss → length us ≡ length ss
length_shaped ss us e = sym (length-map us shape_in) ∙ ap length e ∙ length-map ss shape_in

-- a shoen that is linked to no place has no goal
pub none_linked : {N : Type 0} (n l : ℕ) (ss : List (Slot N)) → IsLink ss n (length ss) l → l ≡ 0 → goals_in ss ≡ filter (λ g. not (is_in n g)) (goals_in ss)
none_linked n l ss h e = emptied_last n ss ss l (emptied_first n ss l h) e

-- the goal of the place to which a shoen is linked
pub last_linked : {N : Type 0} (n l k : ℕ) (ss : List (Slot N)) (x : Slot N) → Ascend 0 (numbers_of ss) → IsLink ss n (length ss) l → l ≡ suc k → x ≡ get_or ss k x → get_or (map held_in ss) (l - 1) false ≡ true → IsOfShoen n x.goal.number (goals_in ss)
last_linked {N = N} n l k ss x a h one read held =
    let within : k < length ss = omega (arith, one, h.back) in
    let at : l - 1 ≡ k = omega (arith, one) in
    let is_held : x.is_held ≡ true = sym (read_at held_in ss k x false within read) ∙ ap (λ j. get_or (map held_in ss) j false) (sym at) ∙ held in
    let w = without_at 0 ss k x a within (sym read) is_held in
    let set_is = changed_set emptied ss k x within (sym read) in
    record {
      rest = ap (filter (λ g. not (is_in n g))) (sym w.goals ∙ ap goals_in set_is) ∙ goals_emptied n k ss within (h.own k one);
      fewer = omega (arith, ap (λ (gs : List (Goal N)). length gs) w.goals, length_without x.goal (goals_in ss) (goals_in (set ss k (emptied x))) w);
    }
