use Rattle.std.proofs.Common.{ap, ◌∙◌}
use Rattle.kl1_codes.specs.Numbered.{number_of}
use Rattle.kl1_codes.proofs.loaded.Loaded.number.Goals as goal

pub returns : goal.returns
returns g c = c.self.invariant.number_is ∙ ap number_of c.self.view_is
