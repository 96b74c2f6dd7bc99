use Rattle.kl1_host_journals.proofs.Reading as reading
use Rattle.kl1_host_journals.proofs.keeping.crashes_keep_deeds.Goals as goal

pub returns : goal.returns
returns c = reading.crashes_keep_deeds
