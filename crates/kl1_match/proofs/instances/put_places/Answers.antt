use Rattle.std.proofs.Common.{◌≡◌, ◌∷◌, [], ◌++◌, ◌∙◌, List, ap, arith, length, IsTrue, replicate, rules, subst}
use Rattle.std.specs.Vec.{vec_len}
use Rattle.kl1_store.specs.declared.cell.Cell.{Cell}
use Rattle.kl1_match.specs.Variables.{cells_at, AreFrom}
use Rattle.kl1_match.proofs.Places.{filled_up, all_set, all_in_order, length-cells_at}
use Rattle.kl1_match.proofs.instances.put_places.Goals as goal

pub returns-then-put_in_order-clause-length : goal.returns-then-put_in_order-clause-length
returns-then-put_in_order-clause-length g c =
    let yes : IsTrue c.put_in_order.result = search rules in
    let first = c.push_reserved.ensures.items ∙ ap (λ xs. xs ++ c.args.none ∷ []) c.requires.empty in
    let all : c.put_in_order.new.cells.items ≡ c.args.none ∷ cells_at c.args.places.now = c.put_in_order.ensures.put yes ∙ ap (λ xs. xs ++ cells_at c.args.places.now) first in
    omega (arith, ap length all, length-cells_at c.args.places.now, c.if-places-count-2.true)

pub returns-then-put_in_order-clause-set : goal.returns-then-put_in_order-clause-set
returns-then-put_in_order-clause-set g c =
    let yes : IsTrue c.put_in_order.result = search rules in
    let first = c.push_reserved.ensures.items ∙ ap (λ xs. xs ++ c.args.none ∷ []) c.requires.empty in
    let all : c.put_in_order.new.cells.items ≡ c.args.none ∷ cells_at c.args.places.now = c.put_in_order.ensures.put yes ∙ ap (λ xs. xs ++ cells_at c.args.places.now) first in
    let order : AreFrom 1 c.args.places.now = subst (λ (xs : List (Cell g.row.N.Denot)). AreFrom (length xs) c.args.places.now) first (c.put_in_order.ensures.order yes) in
    all_in_order c.args.count c.args.none c.args.places.now c.put_in_order.new.cells.items all order (omega (arith, c.if-places-count-2.true))

pub returns-clause-set : goal.returns-clause-set
returns-clause-set g c =
    let resized : c.resize.new.self.items ≡ replicate c.args.count c.args.none =
    filled_up c.args.count (vec_len c.clear.new.self) c.clear.new.self.items c.resize.new.self.items c.args.none c.in_ok-resize.ensures.items c.clear.ensures.items c.clear.ensures.len in
    all_set c.args.count c.args.none c.args.places.now c.resize.new.self.items c.set_places.new.cells.items resized c.set_places.ensures.set
