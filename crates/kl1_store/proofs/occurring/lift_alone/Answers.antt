use Rattle.kl1_store.proofs.Occurrences.{sees_alone}
use Rattle.kl1_store.proofs.occurring.lift_alone.Goals as goal

pub returns-in-Ok-clause-sees : goal.returns-in-Ok-clause-sees
returns-in-Ok-clause-sees g c = sees_alone c.args.cells.now.held c.keep.new.self c.lift.new.levels c.args.cell c.keep.ensures.variables c.in-Ok.ensures.lifted
