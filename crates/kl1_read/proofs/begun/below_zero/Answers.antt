use Rattle.std.proofs.Common.{◌≡◌, map, pos, neg_ℤ, ap, ◌∙◌, w64, arith}
use Rattle.std.proofs.lemmas.Int.{to_z-of_z, ints}
use mir.Val.{to_z, of_z}
use Rattle.kl1_model.specs.Term.{integer}
use Rattle.kl1_read.specs.Views.{numbered_token}
use Rattle.kl1_read.proofs.PrimarySteps.{whole_begins, doomed_begins, below_zero_reads, too_low}
use Rattle.kl1_read.proofs.begun.below_zero.Goals as goal

pub returns-then-number-gt-NUMBER_LIMIT-clause-value : goal.returns-then-number-gt-NUMBER_LIMIT-clause-value
returns-then-number-gt-NUMBER_LIMIT-clause-value c =
    doomed_begins _ _ (integer (neg_ℤ (pos c.args.number))) (below_zero_reads c.args.number (map numbered_token c.args.rest.now)) (too_low c.args.number c.if-number-gt-NUMBER_LIMIT.true)

pub returns-clause-value : goal.returns-clause-value
returns-clause-value c =
    let read : to_z w64 (of_z w64 c.negated.result) ≡ c.negated.result = search (arith, ints, to_z-of_z, c.negated.ensures) in
    whole_begins _ _ _ (integer (neg_ℤ (pos c.args.number))) (ap integer (read ∙ c.negated.ensures)) (below_zero_reads c.args.number (map numbered_token c.args.rest.now))
