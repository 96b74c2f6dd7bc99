use Rattle.kl1_host_door.specs.declared.status.Status.TheVariants.{Good}
use Rattle.kl1_host_web.proofs.Answering.{view_is}
use Rattle.kl1_host_web.proofs.pages.waiting_page.Goals as goal

pub returns : goal.returns
returns g c = view_is Good c.told_value.result c.told_value.ensures.head c.told_value.ensures.content
