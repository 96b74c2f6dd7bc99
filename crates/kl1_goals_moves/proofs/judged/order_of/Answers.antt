use Rattle.std.proofs.Common.{refl}
use Rattle.std.specs.Prelude.{codes}
use Rattle.kl1_model.specs.Term.{atom, structure}
use Rattle.kl1_goals_moves.specs.Judged.{six}
use Rattle.kl1_goals_moves.proofs.JudgedMoves.{order_judged}
use Rattle.kl1_goals_moves.proofs.judged.order_of.Goals as goal

pub returns-clause-order : goal.returns-clause-order
returns-clause-order g c = λ f o e.
    let own = c.in-Calls.ensures.called f (codes ":") (atom (codes "shoen")) (structure (codes "execute") (six o)) e in
    order_judged f c.args.store.now.held c.in-Calls.call o c.in-Calls.call.structure c.mark.ensures.formed c.in-Calls.ensures.inside.0 c.in-Calls.ensures.inside.1 c.if-call-ne6.false own refl
