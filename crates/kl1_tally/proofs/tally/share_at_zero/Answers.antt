use Rattle.std.proofs.Common.{◌∷◌, [], ap, ◌∙◌}
use Rattle.kl1_tally.proofs.Adding.{share_zero}
use Rattle.kl1_tally.proofs.tally.share_at_zero.Goals as goal

pub invariant_of-result : goal.invariant_of-result
invariant_of-result c = share_zero c.into_badge.result.views c.zero.result.events c.zero.result.steps (c.into_badge.ensures.2 ∙ ap (λ m. m.0 ∷ []) c.requires) c.zero.ensures.events c.zero.ensures.steps
