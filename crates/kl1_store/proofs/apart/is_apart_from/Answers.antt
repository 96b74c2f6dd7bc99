use Rattle.std.proofs.Common.{arith}
use Rattle.kl1_store.proofs.Freeing.{above_apart}
use Rattle.kl1_store.proofs.apart.is_apart_from.Goals as goal

pub returns-then-own-there : goal.returns-then-own-there
returns-then-own-there g c = λ t.
    above_apart c.args.cells.now.held c.args.levels.now c.args.variable c.args.structure c.mark.ensures.formed c.requires.levels c.requires.inside (omega (arith, c.level_of-own.ensures, c.level_of-there.ensures, c.if-own-there.true))
