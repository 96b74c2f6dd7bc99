-- What the pieces of the code say of a text.
use Rattle.std.specs.Prelude.{ℕ, List, ◌++◌, Option, option_map}
use Rattle.kl1_read.specs.Views.{spelled_token}
use Rattle.kl1_layout.specs.Written.{Written, written_token, written_comment}
use Rattle.kl1_layout.specs.declared.piece.Kind.{Kind}
use Rattle.kl1_layout.specs.declared.piece.Kind.TheVariants as kind
use Rattle.kl1_layout.specs.declared.piece.Piece.{Piece}

-- what a piece is, by its kind and its bytes
abbrev pub written_as : Kind → List ℕ → Written
written_as (kind.Token t) bytes = written_token (spelled_token t)
written_as (kind.Comment alone) bytes = written_comment alone bytes

-- what a piece is
abbrev pub written_piece : Piece → Written
written_piece p = written_as p.kind p.bytes.items

-- what is written with these before it
abbrev pub with_before : List Written → Option (List Written) → Option (List Written)
with_before before ws = option_map (λ vs. before ++ vs) ws
