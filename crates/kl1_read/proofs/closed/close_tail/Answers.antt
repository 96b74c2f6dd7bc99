use Rattle.std.proofs.Common.{◌≡◌, map, Some}
use Rattle.kl1_model.specs.Term.{terms_of}
use Rattle.kl1_model.specs.Meaning.{cells}
use Rattle.kl1_read.specs.Pieces.{writable}
use Rattle.kl1_read.specs.Views.{numbered_token}
use Rattle.kl1_read.proofs.PartSteps.{tail_end}
use Rattle.kl1_read.proofs.closed.close_tail.Goals as goal

pub returns-in-Some-2-clause-value : goal.returns-in-Some-2-clause-value
returns-in-Some-2-clause-value c =
    let made : Some c.in-Some-2.whole ≡ writable (cells (terms_of c.args.elements.items) c.args.piece) = cc c.in_ok-cells-in-Some.ensures in
    tail_end c.args.elements.items c.args.piece c.in-Some-2.whole (map numbered_token c.args.tokens.now) (map numbered_token c.in-Some.behind.now) made c.in-Some.ensures.value
