use Rattle.std.proofs.Common.{length, ap}
use Rattle.kl1_read.proofs.WordLemmas.{digits_taken}
use Rattle.kl1_read.proofs.words.digits_of.Goals as goal

pub returns : goal.returns
returns c =
    let taken = digits_taken c.args.first c.args.rest.now in
    let behind = ap length c.behind_digits.ensures in
    cc
