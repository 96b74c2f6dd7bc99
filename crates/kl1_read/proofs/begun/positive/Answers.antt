use Rattle.std.proofs.Common.{map, pos, ap, w64}
use Rattle.std.proofs.lemmas.Int.{to_z_pos}
use Rattle.kl1_model.specs.Term.{integer}
use Rattle.kl1_read.specs.Views.{numbered_token}
use Rattle.kl1_read.proofs.PrimarySteps.{whole_begins, bad_begins, small_positive, large_positive}
use Rattle.kl1_read.proofs.begun.positive.Goals as goal

pub returns-then-number-ge-NUMBER_LIMIT-clause-value : goal.returns-then-number-ge-NUMBER_LIMIT-clause-value
returns-then-number-ge-NUMBER_LIMIT-clause-value c = bad_begins _ (large_positive c.args.number (map numbered_token c.args.rest.now) c.if-number-ge-NUMBER_LIMIT.true)

pub returns-clause-value : goal.returns-clause-value
returns-clause-value c =
    whole_begins _ _ _ (integer (pos c.args.number)) (ap integer (to_z_pos w64 c.args.number c.if-number-ge-NUMBER_LIMIT.false)) (small_positive c.args.number (map numbered_token c.args.rest.now) c.if-number-ge-NUMBER_LIMIT.false)
