use Rattle.std.proofs.Common.{◌≡◌, max, drop}
use Rattle.kl1_model.specs.Term.{terms_of}
use Rattle.kl1_model.specs.Meaning.{deepest, are_narrow}
use Rattle.kl1_read.proofs.patterns.deepest.Given as goal

-- the deepest so far, with those that are left, is the deepest of all, and what is left is narrow if all are
abbrev pub invariant-loop-piece : goal.invariant-loop-piece
invariant-loop-piece l =
    record {
      deep : max l.most (deepest (terms_of (drop l.piece-index l.pieces))) ≡ deepest (terms_of l.pieces);
      narrow : are_narrow (terms_of (drop l.piece-index l.pieces)) ≡ are_narrow (terms_of l.pieces);
    }
