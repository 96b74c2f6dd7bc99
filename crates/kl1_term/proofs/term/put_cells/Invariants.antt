-- the nodes put so far and those of the terms left are all
use Rattle.std.proofs.Common.{◌≡◌, ◌++◌, map, length}
use Rattle.kl1_model.specs.Term.{terms_of}
use Rattle.kl1_term.specs.Nodes.{code_of, cell_nodes}
use Rattle.kl1_term.proofs.term.put_cells.Given as goal

abbrev pub invariant-loop-terms : goal.invariant-loop-terms
invariant-loop-terms l = map code_of l.nodes.items ++ cell_nodes (terms_of l.terms) ≡ map code_of l.initial.nodes.items ++ cell_nodes (terms_of l.initial.terms)

abbrev pub decreases-loop-terms : goal.decreases-loop-terms
decreases-loop-terms l = length l.terms
