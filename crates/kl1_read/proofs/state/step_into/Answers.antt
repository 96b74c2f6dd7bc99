use Rattle.std.proofs.Common.{map}
use Rattle.kl1_read.specs.Views.{numbered_token}
use Rattle.kl1_read.proofs.Steps.{frame_opens}
use Rattle.kl1_read.proofs.state.step_into.Goals as goal

pub returns-clause-value : goal.returns-clause-value
returns-clause-value c =
    λ done. rw c.in_ok-frame.ensures.none (frame_opens c.args.frames.now.items c.push.new.self.items c.in_ok-frame.frame c.args.opened c.args.left.now done (map numbered_token c.args.rest.now) c.in_ok-push.ensures.items c.in_ok-frame.ensures.opened c.in_ok-frame.ensures.left)
