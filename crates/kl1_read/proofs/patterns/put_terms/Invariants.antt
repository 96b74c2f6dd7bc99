use Rattle.std.proofs.Common.{◌≡◌, reverse, vec_len}
use Rattle.kl1_model.specs.Module.{each_of}
use Rattle.kl1_read.specs.Statements.{fit_as}
use Rattle.kl1_read.proofs.Clauses.{given_before}
use Rattle.kl1_read.proofs.patterns.put_terms.Given as goal

-- what the terms that are left are, before those so far, is what all are
abbrev pub invariant-loop-piece : goal.invariant-loop-piece
invariant-loop-piece l = given_before (reverse l.terms.items) (each_of (fit_as l.role) l.pieces.items) ≡ each_of (fit_as l.role) l.fn.pieces.items

abbrev pub decreases-loop-piece : goal.decreases-loop-piece
decreases-loop-piece l = vec_len l.pieces
