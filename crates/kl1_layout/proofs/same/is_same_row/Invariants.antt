use Rattle.std.proofs.Common.{◌≡◌, map, length}
use Rattle.kl1_layout.specs.Pieces.{written_piece}
use Rattle.kl1_layout.proofs.same.is_same_row.Given as goal

-- the rows are the same if what is left of them is
abbrev pub invariant-loop-rest : goal.invariant-loop-rest
invariant-loop-rest l = map written_piece l.rest ≡ map written_piece l.left → map written_piece l.one ≡ map written_piece l.other

abbrev pub decreases-loop-rest : goal.decreases-loop-rest
decreases-loop-rest l = length l.rest
