use Rattle.kl1_host_web.proofs.Answering.{wait_is}
use Rattle.kl1_host_web.proofs.json.restoring.Goals as goal

pub returns : goal.returns
returns c = wait_is c.told_value.result c.told_value.ensures.head c.told_value.ensures.content
