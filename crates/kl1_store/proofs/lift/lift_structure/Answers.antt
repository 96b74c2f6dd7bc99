use Rattle.std.proofs.Common.{refl, arith}
use Rattle.std.proofs.lemmas.Result.{on_ok_weaker}
use Rattle.kl1_store.proofs.Lifting.{structure_lifted}
use Rattle.kl1_store.proofs.lift.lift_structure.Goals as goal

pub returns : goal.returns
returns g c = on_ok_weaker c.push_arguments.result (
    structure_lifted c.args.cells.now.held c.args.structure c.args.level c.max-new.result c.args.levels.now (record { variables = c.args.levels.now.variables; structures = c.set_level.new.levels }) c.args.tasks.now.items c.push_arguments.new.tasks.items c.requires.formed c.requires.inside
    (omega (arith, c.level_of-old.ensures, c.if-old-level.false)) (omega (arith, c.max-new.ensures)) c.in_ok-set_level.ensures refl c.requires.tasks) c.push_arguments.ensures
