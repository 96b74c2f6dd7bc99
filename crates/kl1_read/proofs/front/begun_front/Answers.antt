use Rattle.kl1_read.specs.Views.{front_view}
use Rattle.kl1_read.proofs.Fronts.{front_begins}
use Rattle.kl1_read.proofs.front.begun_front.Goals as goal

pub returns-in-len1-up : goal.returns-in-len1-up
returns-in-len1-up c = front_begins (front_view c.first_front.result) c.args.bytes.now c.in-len1-up.len_at_least c.first_front.ensures
