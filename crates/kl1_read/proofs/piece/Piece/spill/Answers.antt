use Rattle.std.proofs.Common.{arith}
use Rattle.kl1_read.proofs.Nodes.{spilled_alone, spilled_behind}
use Rattle.kl1_read.proofs.piece.Piece.spill.Goals as goal

pub returns-then-len-eq0-clause-nodes : goal.returns-then-len-eq0-clause-nodes
returns-then-len-eq0-clause-nodes c =
    spilled_alone c.self.inside.nodes.items c.args.nodes.now.items c.args.self c.self.inside.whole c.self.inside.rest c.self.view_is c.self.invariant (omega (arith, c.args.nodes.now.ok.0))

pub returns-clause-nodes : goal.returns-clause-nodes
returns-clause-nodes c =
    spilled_behind c.self.inside.nodes.items c.args.nodes.now.items c.append.new.self.items c.args.self c.self.inside.whole c.self.inside.rest c.self.view_is c.self.invariant c.in_ok-append.ensures.items
