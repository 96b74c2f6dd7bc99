use Rattle.std.proofs.Common.{◌≡◌, ◌+◌, ◌≤◌, length, map}
use Rattle.kl1_model.specs.Token.{tokens_of_text}
use Rattle.kl1_model.specs.laws.ReadLaws.{tokens_at}
use Rattle.kl1_layout.specs.Written.{written_at, written_of}
use Rattle.kl1_layout.specs.Pieces.{written_piece, with_before}
use Rattle.kl1_layout.proofs.pieces.pieces_of.Given as goal

-- what is written in what is left, after the pieces so far, is what is written in the text; and it breaks where the text does
abbrev pub invariant-pieces : goal.invariant-pieces
invariant-pieces l =
    record {
      same : with_before (map written_piece l.pieces.items) (written_at l.alone l.rest) ≡ written_of l.text;
      broken : (tokens_at l.line l.rest).broken_at ≡ (tokens_of_text l.text).broken_at;
      lines : l.line + length l.rest ≤ 1 + length l.text;
    }

abbrev pub decreases-pieces : goal.decreases-pieces
decreases-pieces l = length l.rest
