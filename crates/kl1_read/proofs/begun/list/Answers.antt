use Rattle.std.proofs.Common.{map, refl}
use Rattle.kl1_model.specs.Meaning.{nil}
use Rattle.kl1_read.specs.Views.{numbered_token}
use Rattle.kl1_read.proofs.PrimarySteps.{whole_begins, list_begins, no_elements}
use Rattle.kl1_read.proofs.begun.list.Goals as goal

pub returns-in-None-clause-value : goal.returns-in-None-clause-value
returns-in-None-clause-value c = list_begins c.new.result (map numbered_token c.args.rest.now) c.new.ensures.items c.in-None.ensures.value

pub returns-in-Some-clause-value : goal.returns-in-Some-clause-value
returns-in-Some-clause-value c =
    whole_begins _ _ nil nil refl (no_elements (map numbered_token c.args.rest.now) (map numbered_token c.in-Some.behind.now) c.in-Some.ensures.value)
