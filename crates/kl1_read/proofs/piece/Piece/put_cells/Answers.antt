use Rattle.std.proofs.Common.{◌≡◌, Some, None}
use Rattle.kl1_model.specs.Meaning.{cell}
use Rattle.kl1_read.specs.Pieces.{writable}
use Rattle.kl1_read.proofs.Arguments.{cells_gone, cells_longer}
use Rattle.kl1_read.proofs.piece.Piece.put_cells.Goals as goal

pub returns-in-None : goal.returns-in-None
returns-in-None c =
    let gone : None ≡ writable (cell c.in-Some.element c.loop-element.list) = cc (c.in_ok-pair.ensures, c.of.ensures) in
    cells_gone _ c.pop.new.self.items c.loop-element.elements.items c.in-Some.element c.loop-element.list c.loop-element.invariant c.in-Some.ensures.items gone

pub loop-element-preserved : goal.loop-element-preserved
loop-element-preserved c =
    let more : Some c.in-Some-2.longer ≡ writable (cell c.in-Some.element c.loop-element.list) = cc (c.in_ok-pair.ensures, c.of.ensures) in
    cells_longer _ c.pop.new.self.items c.loop-element.elements.items c.in-Some.element c.loop-element.list c.in-Some-2.longer c.loop-element.invariant c.in-Some.ensures.items more
