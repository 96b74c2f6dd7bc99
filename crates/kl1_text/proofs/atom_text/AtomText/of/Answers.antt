use Rattle.std.proofs.Common.{refl}
use Rattle.kl1_text.proofs.Words.{words_hold}
use Rattle.kl1_text.proofs.atom_text.AtomText.of.Goals as goal

pub invariant_of-result : goal.invariant_of-result
invariant_of-result c =
    rw (c.words_of.ensures, words_hold c.args.bytes.now c.requires) (refl, c.requires)

pub returns : goal.returns
returns c = rw c.words_of.ensures (words_hold c.args.bytes.now c.requires)
