-- the nodes put so far and those of the terms left are all
use Rattle.std.proofs.Common.{◌≡◌, ◌++◌, map, length}
use Rattle.kl1_model.specs.Term.{terms_of}
use Rattle.kl1_model.specs.code.TermCode.{nodes_of_all}
use Rattle.kl1_term.specs.Nodes.{code_of}
use Rattle.kl1_term.proofs.term.put_each.Given as goal

abbrev pub invariant-loop-terms : goal.invariant-loop-terms
invariant-loop-terms l = map code_of l.nodes.items ++ nodes_of_all (terms_of l.terms) ≡ map code_of l.initial.nodes.items ++ nodes_of_all (terms_of l.initial.terms)

abbrev pub decreases-loop-terms : goal.decreases-loop-terms
decreases-loop-terms l = length l.terms
