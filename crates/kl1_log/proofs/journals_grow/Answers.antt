use Rattle.kl1_journal_stamps.proofs.Growing.{events_grow, growth_begins, growth_goes_on}
use Rattle.kl1_log.proofs.journals_grow.Goals as goal

pub returns-clause-events : goal.returns-clause-events
returns-clause-events c = events_grow

pub returns-clause-begin : goal.returns-clause-begin
returns-clause-begin c = growth_begins

pub returns-clause-go_on : goal.returns-clause-go_on
returns-clause-go_on c = growth_goes_on
