use Rattle.std.proofs.Common.{sym}
use Rattle.kl1_codes.proofs.Placing.{placed_in}
use Rattle.kl1_codes.proofs.coded_modules.CodedModules.get.Goals as goal

pub over-requires : goal.over-requires
over-requires g c =
    placed_in (g.C.CodeSource.has c.self.inside.code_source.now) c.self.inside.modules.now.loaded c.args.place c.in-Some.loaded.now c.self.invariant (sym c.in-Some.ensures)
