use Rattle.std.proofs.Common.{◌≡◌, ◌∙◌, ◌++◌, ◌-◌, ap, length, length-append, reverse, rules, arith, [], ◌∷◌}
use Rattle.std.specs.Prelude.{option_to_list}
use Rattle.kl1_store.specs.Tops.{first_or, firsts}
use Rattle.kl1_store.proofs.Tops.{popped, moved_one, left_one}
use Rattle.kl1_store.proofs.moving.move_or_fill.Goals as goal

pub loop-left-preserved : goal.loop-left-preserved
loop-left-preserved g c =
    let i = c.loop-left.invariant in
    let p = popped c.args.missing c.loop-left.stack.items c.pop.new.self.items c.pop.result c.pop.ensures.items (λ h. search rules) in
    let first : first_or c.args.missing (reverse c.loop-left.stack.items) ≡ c.unwrap_or-cell.result = p.first ∙ search rules in
    let one = moved_one c.loop-left.list.cells c.args.missing c.loop-left.left (reverse c.loop-left.stack.items) (reverse c.pop.new.self.items) c.unwrap_or-cell.result (search rules) first p.rest in
    let pushed : c.push.new.self.cells ≡ c.loop-left.list.cells ++ c.unwrap_or-cell.result ∷ [] = c.push.ensures.cells in (
      ap (λ xs. xs ++ firsts c.args.missing (c.loop-left.left - 1) (reverse c.pop.new.self.items)) pushed ∙ (one ∙ i.0),
      left_one c.loop-left.left (reverse c.loop-left.stack.items) (reverse c.pop.new.self.items) (search rules) p.rest ∙ i.1,
      omega (arith, i.2, ap length pushed, length-append c.loop-left.list.cells (c.unwrap_or-cell.result ∷ []), c.loop-left-test.true),
      omega (arith, i.3, c.push.ensures.room, c.loop-left-test.true),
      c.pop.ensures.capacity ∙ i.4,
      omega (arith, i.5, ap length c.pop.ensures.items, length-append c.pop.new.self.items (option_to_list c.pop.result)),
    )
