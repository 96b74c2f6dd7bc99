use Rattle.std.proofs.Common.{◌≡◌, ◌<◌, ◌≤◌, ◌+◌, ◌∷◌, ◌++◌, [], List, true, length, get_or, arith, ap, sym, ◌∙◌, subst, refl, IsTrue, rules}
use Rattle.kl1_clause.specs.Instructions.{IsNamed}
use Rattle.kl1_clause.specs.declared.instruction.Instruction.{Instruction}
use Rattle.kl1_clause.specs.declared.instruction.Instruction.TheVariants.{Variable}
use Rattle.kl1_store.specs.declared.cell.Cell.TheVariants.{Atom}
use Rattle.kl1_match.specs.declared.met.Met.TheVariants.{Agrees}
use Rattle.kl1_match.specs.Spans.{cells_left}
use Rattle.kl1_match.specs.Matching.{MeetsFirst}
use Rattle.kl1_match.specs.Verdicts.{IsTried}
use Rattle.kl1_match.specs.Kept.{places_behind}
use Rattle.kl1_match.proofs.Whole.{named_at}
use Rattle.kl1_match.proofs.Trying.{none_behind, starts_kept, agrees_kept, accepted_kept, of_places}
use Rattle.kl1_match.proofs.agreeing.agrees_with_in_order.Goals as goal

pub loop-at-init : goal.loop-at-init
loop-at-init g c =
    let h = c.args.store.now.held in
    let alone : c.reserve-2.new.self.items ≡ [] = c.reserve-2.ensures.items ∙ c.clear-2.ensures.items in
    let first : c.push_reserved.new.self.items ≡ Atom c.of.result ∷ [] = c.push_reserved.ensures.items ∙ ap (λ xs. xs ++ Atom c.of.result ∷ []) (c.reserve.ensures.items ∙ c.clear.ensures.items) in
    let count : c.in_ok-count.count ≡ length c.as_slice-row.result.now + 1 = search rules in
    record {
      span = c.span_of-span.ensures.within;
      behind = none_behind h c.reserve-2.new.self.items alone;
      gives = starts_kept g.N.NameValue.built c.args.names.now c.args.clause.now h c.args.goal true c.span_of-span.result c.reserve-2.new.self.items (places_behind c.push_reserved.new.self.items) []
          c.span_of-span.ensures.means alone (ap places_behind first);
      behind_room = omega (arith, c.in_ok-reserve-2.ensures.ok, c.as_slice-row.ensures.len, c.reserve-2.ensures.len, c.clear-2.ensures.len);
      behind_len = omega (arith, c.reserve-2.ensures.len, c.clear-2.ensures.len);
      room = omega (arith, count, c.in_ok-reserve.ensures.ok, c.push_reserved.ensures.capacity, c.reserve.ensures.len, c.clear.ensures.len);
      len = omega (arith, c.push_reserved.ensures.len, c.reserve.ensures.len, c.clear.ensures.len);
      first = omega (arith, c.push_reserved.ensures.len);
    }

pub agrees_in_order-requires-clause-named : goal.agrees_in_order-requires-clause-named
agrees_in_order-requires-clause-named g c =
    let lt : c.loop-at.at < length c.args.clause.now.patterns.items = omega (arith, c.loop-at-test.true, ap length c.as_slice-row.ensures.value) in
    let P : List Instruction → Type 0 = λ l. IsNamed (length c.args.names.now) (get_or l c.loop-at.at (Variable 0)) in
    subst P (sym c.as_slice-row.ensures.value) (named_at c.args.names.now c.args.clause.now c.loop-at.at (Variable 0) c.requires.clause lt)

pub loop-at-preserved : goal.loop-at-preserved
loop-at-preserved g c =
    let h = c.args.store.now.held in
    let i = c.loop-at.invariant in
    let before = cells_left h c.loop-at.span c.loop-at.behind.items in
    let same = cells_left h c.is_left.new.span c.is_left.new.behind.items in
    let now = cells_left h c.agrees_in_order.new.span c.agrees_in_order.new.behind.items in
    let lt : c.loop-at.at < length c.args.clause.now.patterns.items = omega (arith, c.loop-at-test.true, ap length c.as_slice-row.ensures.value) in
    let yes : IsTrue c.agrees_in_order.result = search rules in
    let P : List Instruction → Type 0 = λ l. MeetsFirst g.N.NameValue.built h c.args.names.now (get_or l c.loop-at.at (Variable 0)) true same now (places_behind c.loop-at.cells.items) (places_behind c.agrees_in_order.new.cells.items) Agrees in
    record {
      span = c.agrees_in_order.ensures.span;
      behind = c.agrees_in_order.ensures.behind;
      gives = agrees_kept g.N.NameValue.built c.args.names.now c.args.clause.now h c.args.goal c.loop-at.at (Variable 0) true before same now (places_behind c.loop-at.cells.items) (places_behind c.agrees_in_order.new.cells.items) [] []
          lt c.is_left.ensures.same i.gives (subst P c.as_slice-row.ensures.value (c.agrees_in_order.ensures.agrees yes));
      behind_room = omega (arith, i.behind_room, c.is_left.ensures.capacity, c.agrees_in_order.ensures.behind_capacity);
      behind_len = omega (arith, i.behind_len, c.is_left.ensures.len, c.agrees_in_order.ensures.behind_len);
      room = omega (arith, i.room, c.agrees_in_order.ensures.capacity);
      len = omega (arith, i.len, c.agrees_in_order.ensures.len);
      first = omega (arith, i.first, c.agrees_in_order.ensures.more);
    }

pub returns : goal.returns
returns g c = λ yes.
    let h = c.args.store.now.held in
    let le : length c.args.clause.now.patterns.items ≤ c.loop-at.at = omega (arith, c.loop-at-test.false, ap length c.as_slice-row.ensures.value) in
    let left = cells_left h c.is_left-2.new.span c.is_left-2.new.behind.items in
    let empty : left ≡ [] = c.is_left-2.ensures.none (search rules) in
    let places = places_behind c.loop-at.cells.items in
    of_places places (λ ps. IsTried g.N.NameValue.built c.args.names.now c.args.clause.now h c.args.goal ps [] [] _)
    (accepted_kept g.N.NameValue.built c.args.names.now c.args.clause.now h c.args.goal c.loop-at.at true (cells_left h c.loop-at.span c.loop-at.behind.items) left places [] []
    le c.is_left-2.ensures.same empty refl c.loop-at.invariant.gives)
