use Rattle.std.proofs.Common.{map, reverse, ap, ◌∙◌}
use Rattle.kl1_read.specs.declared.closed.Closed.TheVariants.{Bad, More, Whole}
use Rattle.kl1_read.specs.Views.{numbered_token}
use Rattle.kl1_read.specs.Meanings.{fit}
use Rattle.kl1_read.proofs.Steps.{closed_on, ok_along}
use Rattle.kl1_read.proofs.state.step_closed.Goals as goal

pub returns-in-Bad-clause-value : goal.returns-in-Bad-clause-value
returns-in-Bad-clause-value c =
    λ done. closed_on c.in_ok-close.field-0 Bad c.args.opened c.args.left.now (reverse c.args.frames.now.items) done c.args.piece (map numbered_token c.args.rest.now) c.in-Bad.is c.in_ok-close.ensures.value

pub returns-in-More-clause-value : goal.returns-in-More-clause-value
returns-in-More-clause-value c =
    ok_along _ _ c.step_into.result c.step_into.ensures.value (λ s h done. ap fit (h done) ∙ closed_on c.in_ok-close.field-0 (More c.in-More.opened c.in-More.behind) c.args.opened c.args.left.now (reverse c.args.frames.now.items) done c.args.piece (map numbered_token c.args.rest.now) c.in-More.is c.in_ok-close.ensures.value)

pub returns-in-Whole-clause-value : goal.returns-in-Whole-clause-value
returns-in-Whole-clause-value c =
    λ done. closed_on c.in_ok-close.field-0 (Whole c.in-Whole.whole c.in-Whole.behind) c.args.opened c.args.left.now (reverse c.args.frames.now.items) done c.args.piece (map numbered_token c.args.rest.now) c.in-Whole.is c.in_ok-close.ensures.value
