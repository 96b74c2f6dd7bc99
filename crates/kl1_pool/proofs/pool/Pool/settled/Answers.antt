use Rattle.std.proofs.Common.{sym, ◌∙◌, refl, arith}
use Rattle.kl1_pool.proofs.Calling.{called_so, called_there}
use Rattle.kl1_pool.proofs.pool.Pool.settled.Goals as goal

pub settle-requires-clause-name : goal.settle-requires-clause-name
settle-requires-clause-name g c =
    called_there g.K.Names.names c.args.account c.args.place c.args.name (sym (sym c.account.ensures ∙ c.if-account.false)) (called_so g.K.Names.names c.args.account c.args.name c.args.name c.requires refl)

pub settle-requires-clause-texts : goal.settle-requires-clause-texts
settle-requires-clause-texts g c = record { few = omega arith; new = refl }
