use Rattle.std.proofs.Common.{◌≡◌, ◌-◌, length, ap, ◌∙◌, arith}
use Rattle.std.specs.Vec.{vec_len}
use Rattle.kl1_match.proofs.Kept.{filled_behind, as_many}
use Rattle.kl1_match.proofs.instances.fill_places.Goals as goal
use Rattle.kl1_match.proofs.instances.fill_places.Goals.{then-len-count+in_ok-resize, else-len-count}

pub returns-clause-set : goal.returns-clause-set
returns-clause-set g c =
    let old = c.args.cells.now.items in
    let now = c.if-len-count.cells.items in
    let none = c.args.none in
    elim c.if-len-count.branch [
      | then-len-count+in_ok-resize w ↦
          filled_behind c.args.count (c.args.count - vec_len c.args.cells.now) old now none (omega (arith, c.args.cells.now.ok.0)) (ap (λ v. v.items) w.cells-is ∙ w.in_ok-resize.ensures.items)
      | else-len-count w ↦
          let as_wanted : length old ≡ c.args.count = omega (arith, w.if-len-count.false, c.len.ensures, c.args.cells.now.ok.0) in
          filled_behind c.args.count 0 old now none (omega (arith, as_wanted)) (ap (λ v. v.items) w.cells-is ∙ as_many c.args.count old none as_wanted)
    ]
