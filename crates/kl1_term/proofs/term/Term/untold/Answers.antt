use Rattle.std.proofs.Common.{map}
use Rattle.kl1_term.specs.Nodes.{code_of}
use Rattle.kl1_term.specs.Telling.{untold, untold_number}
use Rattle.kl1_term.proofs.Renumbering.{renumbered_is}
use Rattle.kl1_term.proofs.term.Term.untold.Goals as goal

pub of_nodes-requires : goal.of_nodes-requires
of_nodes-requires c = (untold c.args.self.now, renumbered_is untold_number (map code_of c.nodes.result.now) (map code_of c.in_ok-nodes.nodes.items) c.args.self.now c.nodes.ensures c.in_ok-nodes.ensures)

pub returns : goal.returns
returns c =
    c.of_nodes.ensures (untold c.args.self.now)
    (renumbered_is untold_number (map code_of c.nodes.result.now) (map code_of c.in_ok-nodes.nodes.items) c.args.self.now c.nodes.ensures c.in_ok-nodes.ensures)
