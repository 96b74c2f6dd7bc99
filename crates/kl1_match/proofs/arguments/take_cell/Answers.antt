use Rattle.std.proofs.Common.{refl}
use Rattle.kl1_match.proofs.Cells.{taken_next}
use Rattle.kl1_match.proofs.arguments.take_cell.Goals as goal

pub returns-clause-cells : goal.returns-clause-cells
returns-clause-cells g c = taken_next c.args.store.now.held c.args.span.now _ c.argument_at.result c.requires.some c.argument_at.ensures.is refl
