use Rattle.std.proofs.Common.{◌≡◌, vec_len}
use Rattle.kl1_model.specs.Term.{terms_of}
use Rattle.kl1_model.specs.Meaning.{cells}
use Rattle.kl1_read.proofs.piece.Piece.put_cells.Given as goal

-- the elements that are left, before the list so far, are the whole
abbrev pub invariant-loop-element : goal.invariant-loop-element
invariant-loop-element l = cells (terms_of l.elements.items) l.list ≡ cells (terms_of l.initial.elements.items) l.initial.list

abbrev pub decreases-loop-element : goal.decreases-loop-element
decreases-loop-element l = vec_len l.elements
