use Rattle.kl1_host_web.proofs.Answering.{one_reason}
use Rattle.kl1_host_web.proofs.pages.shoens_value.Goals as goal

pub loop-view-preserved : goal.loop-view-preserved
loop-view-preserved c =
    one_reason c.loop-view.shoens.items c.push.new.list.items c.in_ok-view_value.field-0 c.in_ok-push.ensures.ok c.in_ok-view_value.ensures c.loop-view.invariant
