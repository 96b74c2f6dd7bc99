use Rattle.std.proofs.Common.{◌∙◌, ap, sym, map, subst, arith}
use Rattle.kl1_read.specs.Items.{items_left, items_of_next, GoesOn}
use Rattle.kl1_read.specs.Sources.{clause_of_parts}
use Rattle.kl1_read.specs.Views.{kept_token}
use Rattle.kl1_read.proofs.Follows.{items_go, items_stop}
use Rattle.kl1_read.proofs.modules.put_clauses.Goals as goal

pub items-preserved : goal.items-preserved
items-preserved c =
    let on = subst (GoesOn c.items.place.line c.items.place.bytes.now) c.in-Whole.is c.in_ok-next_item.ensures.behind in
    record {
      same = items_go c.args.name (map clause_of_parts c.items.clauses.items, c.items.pending) c.in-Whole.item.line (map kept_token c.in-Whole.item.tokens.items) (items_left c.in-Whole.behind.line c.in-Whole.behind.bytes.now) (map clause_of_parts c.put_item.new.clauses.items, c.put_item.new.pending) _ _ _ c.in-Ok-true.ensures.standing c.in-Ok-true.field-0-test (sym (ap items_of_next c.in-Whole.is) ∙ c.in_ok-next_item.ensures.items) c.items.invariant.same;
      lines = omega (arith, on.1, c.items.invariant.lines);
      few = c.in-Ok-true.ensures.few;
    }

pub returns-in-Ok-false-clause-fault : goal.returns-in-Ok-false-clause-fault
returns-in-Ok-false-clause-fault c =
    items_stop c.args.name (map clause_of_parts c.items.clauses.items, c.items.pending) c.in-Whole.item.line (map kept_token c.in-Whole.item.tokens.items) (items_left c.in-Whole.behind.line c.in-Whole.behind.bytes.now) (map clause_of_parts c.put_item.new.clauses.items, c.put_item.new.pending) _ _ _ c.in-Ok-false.ensures.standing c.in-Ok-false.field-0-test (sym (ap items_of_next c.in-Whole.is) ∙ c.in_ok-next_item.ensures.items) c.items.invariant.same
