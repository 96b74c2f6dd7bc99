use Rattle.std.proofs.Common.{map, ap, sym, ◌∙◌}
use Rattle.kl1_read.specs.Pieces.{writable}
use Rattle.kl1_read.specs.Views.{numbered_token}
use Rattle.kl1_read.specs.Meanings.{joined}
use Rattle.kl1_read.proofs.Steps.{ok_along}
use Rattle.kl1_read.proofs.PartSteps.{product_follows, product_ends, product_doomed}
use Rattle.kl1_read.proofs.joined.join_product.Goals as goal

pub returns-in-None-clause-value : goal.returns-in-None-clause-value
returns-in-None-clause-value c =
    λ k dooms. product_doomed c.args.left.now.relation c.args.left.now.sum c.args.product (map numbered_token c.args.tokens.now) k dooms (sym c.in-None.is ∙ c.in_ok-join_operand.ensures ∙ ap (λ x. writable (joined x c.args.product)) c.take.ensures.value)

pub returns-in-None-infix_in_front-clause-value : goal.returns-in-None-infix_in_front-clause-value
returns-in-None-infix_in_front-clause-value c =
    ok_along _ _ c.join_sum.result c.join_sum.ensures.value (λ j h k dooms. h k dooms ∙ product_ends c.args.left.now.relation c.args.left.now.sum c.args.product (map numbered_token c.args.tokens.now) k dooms c.in-Some.whole (sym c.in-Some.is ∙ c.in_ok-join_operand.ensures ∙ ap (λ x. writable (joined x c.args.product)) c.take.ensures.value) c.in-None-infix_in_front.ensures.value)

pub returns-in-Some-infix_in_front-clause-value : goal.returns-in-Some-infix_in_front-clause-value
returns-in-Some-infix_in_front-clause-value c =
    rw (c.requires.product, c.requires.colon) (λ k dooms. product_follows c.args.left.now.relation c.args.left.now.sum c.args.product (map numbered_token c.args.tokens.now) k dooms c.in-Some.whole c.in-Some-infix_in_front.operator (map numbered_token c.in-Some-infix_in_front.behind.now) (sym c.in-Some.is ∙ c.in_ok-join_operand.ensures ∙ ap (λ x. writable (joined x c.args.product)) c.take.ensures.value) c.in-Some-infix_in_front.ensures.value)
