use Rattle.std.proofs.Common.{add-one, map, arith, ◌∙◌}
use Rattle.std.proofs.lemmas.List.{map-append}
use Rattle.kl1_model.specs.Token.{finished, broken, line_end, blank, token}
use Rattle.kl1_read.specs.Views.{spelled_token, kept_token}
use Rattle.kl1_read.proofs.ItemSteps.{items_are, broken_items, end_items, more_items}
use Rattle.kl1_read.proofs.item.next_item.Goals as goal

pub returns-in-Finished-clause-items : goal.returns-in-Finished-clause-items
returns-in-Finished-clause-items c =
    c.last_item.ensures.items ∙ items_are finished c.items.began (map kept_token c.items.tokens.items) c.items.line c.items.rest.now c.in-Finished.ensures.value ∙ c.items.invariant.same

pub returns-in-Broken-clause-items : goal.returns-in-Broken-clause-items
returns-in-Broken-clause-items c =
    rw c.unwrap_or.ensures (broken_items c.items.began (map kept_token c.items.tokens.items) c.items.line ∙ items_are broken c.items.began (map kept_token c.items.tokens.items) c.items.line c.items.rest.now c.in-Broken.ensures.value ∙ c.items.invariant.same)

pub items-preserved-in-LineEnd : goal.items-preserved-in-LineEnd
items-preserved-in-LineEnd c =
    record {
      same = rw add-one (items_are (line_end c.in-LineEnd.behind.now) c.items.began (map kept_token c.items.tokens.items) c.items.line c.items.rest.now c.in-LineEnd.ensures.value ∙ c.items.invariant.same);
      less = omega (arith, c.in-LineEnd.ensures.less);
      lines = omega (arith, c.in-LineEnd.ensures.less);
    }

pub items-preserved-in-Blank : goal.items-preserved-in-Blank
items-preserved-in-Blank c =
    record {
      same = items_are (blank c.in-Blank.behind.now) c.items.began (map kept_token c.items.tokens.items) c.items.line c.items.rest.now c.in-Blank.ensures.value ∙ c.items.invariant.same;
      less = omega (arith, c.in-Blank.ensures.less);
      lines = omega (arith, c.in-Blank.ensures.less);
    }

pub returns-then-is_end-clause-items : goal.returns-then-is_end-clause-items
returns-then-is_end-clause-items c =
    rw c.unwrap_or-first.ensures (end_items (spelled_token c.in-Token.token) c.items.began (map kept_token c.items.tokens.items) c.items.line c.in-Token.behind.now c.if-is_end.ensures ∙ items_are (token (spelled_token c.in-Token.token) c.in-Token.behind.now) c.items.began (map kept_token c.items.tokens.items) c.items.line c.items.rest.now c.in-Token.ensures.value ∙ c.items.invariant.same)

pub items-preserved : goal.items-preserved
items-preserved c =
    record {
      same = rw (c.in_ok-push-in-Token.ensures.items, map-append, c.in_ok-kept-in-Token.ensures, c.unwrap_or-first.ensures) (more_items (spelled_token c.in-Token.token) c.items.began (map kept_token c.items.tokens.items) c.items.line c.in-Token.behind.now c.if-is_end.ensures ∙ items_are (token (spelled_token c.in-Token.token) c.in-Token.behind.now) c.items.began (map kept_token c.items.tokens.items) c.items.line c.items.rest.now c.in-Token.ensures.value ∙ c.items.invariant.same);
      less = omega (arith, c.in-Token.ensures.less);
      lines = omega (arith, c.in-Token.ensures.less);
    }
