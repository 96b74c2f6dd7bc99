-- the nodes of the terms so far are put
use Rattle.std.proofs.Common.{[], take}
use Rattle.kl1_model.specs.Term.{terms_of}
use Rattle.kl1_model.specs.code.TermCode.{nodes_of_all}
use Rattle.kl1_clause.specs.Putting.{Puts}
use Rattle.kl1_clause.proofs.rows.row_of.Given as goal

abbrev pub invariant-loop-term : goal.invariant-loop-term
invariant-loop-term l = Puts l.initial.names l.names [] l.row.items (nodes_of_all (terms_of (take l.term-index l.terms)))
