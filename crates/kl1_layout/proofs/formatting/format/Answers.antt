use Rattle.std.proofs.Common.{map}
use Rattle.kl1_layout.specs.Pieces.{written_piece}
use Rattle.kl1_layout.proofs.LayoutFacts.{layout_of}
use Rattle.kl1_layout.proofs.formatting.format.Goals as goal

pub returns-then-is_same-clause-layout : goal.returns-then-is_same-clause-layout
returns-then-is_same-clause-layout c = layout_of c.args.source.now c.in_ok-text.text.items (map written_piece c.in_ok-pieces.pieces.items) c.in_ok-pieces.ensures.pieces (rw (← c.as_slice-2.ensures.value, ← c.as_slice-3.ensures.value) (c.in_ok-is_same.ensures c.if-is_same.true))
