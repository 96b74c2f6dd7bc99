use Rattle.std.proofs.Common.{◌≡◌, [], ◌∷◌, ◌++◌, ◌+◌, ◌-◌, ◌≤◌, ℕ, List, Vec, Global, None, map, length, length-take, length-drop, take, drop, vec_len, vec_capacity, ap, sym, subst, ◌∙◌, arith}
use Rattle.kl1_model.specs.Telling.{new_among}
use Rattle.kl1_term.specs.declared.node.Node.{Node}
use Rattle.kl1_term.specs.Nodes.{code_of}
use Rattle.kl1_term.specs.Telling.{anew_in}
use Rattle.kl1_term.specs.Variables.{variables_in}
use Rattle.kl1_term.proofs.Renumbering.{Renumbers, begins, finds_same, variable_renumbered, other_renumbered}
use Rattle.kl1_term.proofs.telling.anew_nodes.Goals.{in-Variable+in_ok-place_of-in-Variable, in_default-first}
use Rattle.kl1_term.proofs.telling.anew_nodes.Goals as goal

pub loop-left-preserved : goal.loop-left-preserved
loop-left-preserved c =
    let left = c.loop-left.left.now in
    let rest = take (length left - 1) (drop 1 left) in
    let all = new_among None [] (variables_in (map code_of c.args.nodes.now)) in
    let target = anew_in all (map code_of c.args.nodes.now) in
    let out = c.loop-left.out.items in
    let put = c.push_reserved.new.self.items in
    let begin = begins c.first-item.result left c.in-len1-up.len_at_least c.first-item.is in
    let before : Renumbers c.loop-left.seen.items all out left target = record { seen = c.loop-left.invariant.seen; same = c.loop-left.invariant.same } in
    let room : vec_len c.push_reserved.new.self + length rest ≤ vec_capacity c.push_reserved.new.self =
    omega (arith, c.push_reserved.ensures.len, c.push_reserved.ensures.capacity, c.loop-left.invariant.room, c.in-len1-up.len_at_least, length-take (length left - 1) (drop 1 left), length-drop 1 left) in
    elim c.match-first.branch [
      | in-Variable+in_ok-place_of-in-Variable w ↦
          let placed = w.in_ok-place_of-in-Variable.ensures in
          let step = variable_renumbered w.place_of.new.places c.loop-left.seen.items w.place_of.new.seen.items all c.first-item.result c.match-first.node out put left rest target w.in-Variable.number w.in_ok-place_of-in-Variable.field-0
          w.in-Variable.is w.node-is placed begin c.push_reserved.ensures.items before in
          let same_seen : c.match-first.seen.items ≡ w.place_of.new.seen.items = ap (λ (seen : Vec ℕ Global). seen.items) w.seen-is in
          record { finds = finds_same w.place_of.new.places c.match-first.places w.place_of.new.seen.items c.match-first.seen.items w.places-is same_seen placed.finds; seen = subst (λ (ns : List ℕ). new_among None ns (variables_in (map code_of rest)) ≡ all) (sym same_seen) step.seen; same = step.same; room = room }
      | in_default-first w ↦
          let same_seen : c.match-first.seen.items ≡ c.loop-left.seen.items = ap (λ (seen : Vec ℕ Global). seen.items) w.seen-is in
          let step = other_renumbered c.loop-left.seen.items all c.first-item.result out put left rest target w.in_default-first.not-Variable begin (c.push_reserved.ensures.items ∙ ap (λ (n : Node). out ++ n ∷ []) w.node-is) before in
          record { finds = finds_same c.loop-left.places c.match-first.places c.loop-left.seen.items c.match-first.seen.items w.places-is same_seen c.loop-left.invariant.finds; seen = subst (λ (ns : List ℕ). new_among None ns (variables_in (map code_of rest)) ≡ all) (sym same_seen) step.seen; same = step.same; room = room }
    ]
