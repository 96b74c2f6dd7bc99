use Rattle.std.proofs.Common.{◌≡◌, ◌-◌, suc, arith, rules}
use mir.Val.{SFits}
use mir.Syntax.{w64}
use Rattle.std.proofs.lemmas.Int.{to_z-of_z}
use Rattle.std.proofs.lemmas.List.Elements.{All-pop}
use Rattle.std.specs.Prelude.{Some}
use Rattle.kl1_model.specs.Arithmetic.{scan}
use Rattle.kl1_match_guard.specs.Pendings.{rights_of}
use Rattle.kl1_match_guard.proofs.Pendings.{number_on, operation_on, at_most_one_more, all_pushed}
use Rattle.kl1_match_guard.proofs.evaluating.scan.Goals as goal

pub parts-preserved-in-To : goal.parts-preserved-in-To
parts-preserved-in-To g c =
    let view = c.args.view.now in
    let i = c.parts.invariant in
    let fits : SFits w64 c.in-Integer.integer = search rules in
    let popped = All-pop (g.T.View.IsAt view) (rights_of c.parts.stack.items) (rights_of c.carry.new.stack.items) (Some c.in-To.next) c.in-To.ensures.rights i.rights in
    record {
      at_in = popped.1;
      rights = popped.0;
      value = λ f reads.
          number_on (g.T.View.term f view) (scan c.parts.left (g.T.View.term f view c.parts.at)) c.parts.left c.parts.stack.items c.in-Integer.integer _ _ _
          (to_z-of_z w64 c.in-Integer.integer fits) (c.in-Integer.ensures.means f reads c.parts.left) (c.in-To.ensures.means (g.T.View.term f view) c.parts.left) (i.value f reads);
      room = omega (arith, i.room, c.carry.ensures.len);
      capacity = omega (arith, i.capacity, c.carry.ensures.capacity);
    }

pub returns-in-Whole-clause-value : goal.returns-in-Whole-clause-value
returns-in-Whole-clause-value g c = λ f reads.
    let view = c.args.view.now in
    let fits : SFits w64 c.in-Integer.integer = search rules in
    number_on (g.T.View.term f view) (scan c.parts.left (g.T.View.term f view c.parts.at)) c.parts.left c.parts.stack.items c.in-Integer.integer _ _ _
    (to_z-of_z w64 c.in-Integer.integer fits) (c.in-Integer.ensures.means f reads c.parts.left) (c.in-Whole.ensures.means (g.T.View.term f view) c.parts.left) (c.parts.invariant.value f reads)

pub parts-smaller : goal.parts-smaller
parts-smaller g c = omega (arith, c.if-left-eq0.false, at_most_one_more c.parts.stack.items c.push_reserved.new.self.items c.pending_of.result c.push_reserved.ensures.items)

pub parts-preserved : goal.parts-preserved
parts-preserved g c =
    let view = c.args.view.now in
    let i = c.parts.invariant in
    let less : c.parts.left ≡ suc (c.parts.left - 1) = omega (arith, c.if-left-eq0.false) in
    record {
      at_in = c.in-Operation.ensures.inside.0;
      rights = all_pushed (g.T.View.IsAt view) c.parts.stack.items c.push_reserved.new.self.items c.pending_of.result c.push_reserved.ensures.items i.rights c.pending_of.ensures.inside;
      value = λ f reads.
          operation_on (g.T.View.number view) (g.T.View.term f view) (g.T.View.term f view c.parts.at) c.parts.left (c.parts.left - 1) c.in-Operation.operator c.in-Operation.first c.in-Operation.second c.pending_of.result c.parts.stack.items c.push_reserved.new.self.items _
          less (c.in-Operation.ensures.means f reads) (c.pending_of.ensures.is f) c.push_reserved.ensures.items (i.value f reads);
      room = omega (arith, i.room, c.push_reserved.ensures.len, c.if-left-eq0.false);
      capacity = omega (arith, i.capacity, c.push_reserved.ensures.capacity);
    }
