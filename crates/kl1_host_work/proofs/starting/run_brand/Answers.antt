use Rattle.kl1_host_work.proofs.OwnHistories.{are_fresh}
use Rattle.kl1_host_work.proofs.starting.run_brand.Goals as goal

-- the names are picked so that each account has the history at its place
pub run_parts-requires-clause-histories : goal.run_parts-requires-clause-histories
run_parts-requires-clause-histories g c κs within = are_fresh c.args.histories.items
