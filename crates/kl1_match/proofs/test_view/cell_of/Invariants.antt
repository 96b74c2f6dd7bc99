use Rattle.std.proofs.Common.{◌≡◌, length}
use Rattle.kl1_match.specs.TestTerms.{first_cell}
use Rattle.kl1_match.proofs.test_view.cell_of.Given as goal

-- what is left gives the answer of all
abbrev pub invariant-loop-rest : goal.invariant-loop-rest
invariant-loop-rest g l = first_cell l.rest l.variable ≡ first_cell l.fn.places l.variable

abbrev pub decreases-loop-rest : goal.decreases-loop-rest
decreases-loop-rest g l = length l.rest
