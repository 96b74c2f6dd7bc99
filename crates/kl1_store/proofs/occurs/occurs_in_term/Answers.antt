use Rattle.std.proofs.Common.{◌+◌, ◌<◌, arith}
use Rattle.kl1_store.specs.Levels.{level_at}
use Rattle.kl1_store.proofs.Levelling.{free_above, lies_lower}
use Rattle.kl1_store.proofs.occurs.occurs_in_term.Goals as goal

pub returns-then-level_of-level-clause-found : goal.returns-then-level_of-level-clause-found
returns-then-level_of-level-clause-found g c =
    let h = c.args.cells.now.held in
    let ls = c.lift.new.levels in
    let vs = level_at ls.variables.items in
    let ss = level_at ls.structures.items in
    let n = c.level_of-level.result + 1 in
    let lt : vs c.args.variable < n = omega (arith, c.level_of-in-Ok.ensures, c.if-level_of-level.true) in
    let lifted = c.in-Ok.ensures.lifted in (
      λ f. free_above f h vs ss c.args.variable n c.args.value c.mark.ensures.formed c.in-Ok.ensures.levels.level lt c.requires.inside lifted.here,
      lies_lower vs ss (vs c.args.variable) n c.args.value (omega arith) lifted.here,
    )
