use Rattle.std.proofs.Common.{map, ap, ◌∙◌}
use Rattle.kl1_read.specs.Views.{numbered_token}
use Rattle.kl1_read.specs.Meanings.{fit}
use Rattle.kl1_read.proofs.Steps.{frame_closes, ok_along}
use Rattle.kl1_read.proofs.state.step_out.Goals as goal

pub returns-in-Some-clause-value : goal.returns-in-Some-clause-value
returns-in-Some-clause-value c =
    ok_along _ _ c.step_closed.result c.step_closed.ensures.value (λ s h. h c.args.done.now.items ∙ ap fit (frame_closes c.pop.new.self.items c.args.frames.now.items c.in-Some.frame _ _ c.args.done.now.items c.args.piece (map numbered_token c.args.rest.now) c.in-Some.ensures.items c.opened_of-opened.ensures.opened c.opened_of-opened.ensures.left))
