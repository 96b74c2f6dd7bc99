use Rattle.std.proofs.Common.{map, ap, ◌∙◌, refl}
use Rattle.kl1_read.specs.Views.{numbered_token}
use Rattle.kl1_read.specs.Meanings.{fit}
use Rattle.kl1_read.proofs.Steps.{terms_begin, finished_fits}
use Rattle.kl1_read.proofs.series.read_series.Goals as goal

pub tokens-init : goal.tokens-init
tokens-init c =
    record {
      same = rw (c.none-left.ensures, c.new-frames.ensures.items, c.new-done.ensures.items) (ap fit (terms_begin (map numbered_token c.args.tokens.now)));
      fits = rw c.new-done.ensures.items refl;
    }

pub returns-in-Finished : goal.returns-in-Finished
returns-in-Finished c =
    finished_fits c.one_step.new.done.items (map numbered_token c.in-Finished.rest.now) c.in_ok-one_step.ensures.fits
    ∙ (rw c.in-Finished.is at c.in_ok-one_step.ensures.value)
    ∙ c.tokens.invariant.same
