use Rattle.std.proofs.Common.{map, ap}
use Rattle.kl1_read.specs.Views.{numbered_token}
use Rattle.kl1_read.specs.Meanings.{fit}
use Rattle.kl1_read.proofs.Steps.{term_done}
use Rattle.kl1_read.proofs.state.step_last.Goals as goal

pub returns-in-Some-clause-value : goal.returns-in-Some-clause-value
returns-in-Some-clause-value c =
    ap fit (term_done c.args.done.now.items c.push.new.self.items c.args.piece (map numbered_token c.args.rest.now) (map numbered_token c.in-Some.behind.now) c.in_ok-push.ensures.items c.in-Some.ensures.value)
