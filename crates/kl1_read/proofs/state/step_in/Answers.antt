use Rattle.std.proofs.Common.{map, reverse, ap, ◌∙◌}
use Rattle.kl1_read.specs.declared.begun.Begun.TheVariants.{Bad, Whole, Opens}
use Rattle.kl1_read.specs.Views.{numbered_token}
use Rattle.kl1_read.specs.Meanings.{fit}
use Rattle.kl1_read.proofs.Steps.{begun_on, ok_along}
use Rattle.kl1_read.proofs.state.step_in.Goals as goal

pub returns-in-Bad-clause-value : goal.returns-in-Bad-clause-value
returns-in-Bad-clause-value c =
    λ done. begun_on c.begin.result Bad c.args.left.now (reverse c.args.frames.now.items) done (map numbered_token c.args.rest.now) c.in-Bad.is c.begin.ensures.value

pub returns-in_ok-piece-in-Whole-clause-value : goal.returns-in_ok-piece-in-Whole-clause-value
returns-in_ok-piece-in-Whole-clause-value c =
    λ done. rw c.in_ok-piece-in-Whole.ensures (begun_on c.begin.result (Whole c.in-Whole.leaf c.in-Whole.behind) c.args.left.now (reverse c.args.frames.now.items) done (map numbered_token c.args.rest.now) c.in-Whole.is c.begin.ensures.value)

pub returns-in-Opens-clause-value : goal.returns-in-Opens-clause-value
returns-in-Opens-clause-value c =
    ok_along _ _ c.step_into.result c.step_into.ensures.value (λ s h done. ap fit (h done) ∙ begun_on c.begin.result (Opens c.in-Opens.opened c.in-Opens.inside) c.args.left.now (reverse c.args.frames.now.items) done (map numbered_token c.args.rest.now) c.in-Opens.is c.begin.ensures.value)
