use Rattle.kl1_host_web.proofs.Answering.{one_reason}
use Rattle.kl1_host_web.proofs.json.reasons_value.Goals as goal

pub loop-reason-preserved : goal.loop-reason-preserved
loop-reason-preserved c =
    one_reason c.loop-reason.values.items c.push.new.list.items c.in_ok-reason_value.field-0 c.in_ok-push.ensures.ok c.in_ok-reason_value.ensures c.loop-reason.invariant
