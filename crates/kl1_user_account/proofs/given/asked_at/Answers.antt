use Rattle.std.proofs.Common.{◌-◌, Option, None, if◌then◌else◌, ap, ◌∙◌, arith}
use Rattle.std.proofs.lemmas.Bool.{le-leb, lt-leb}
use Rattle.kl1_model.specs.Telling.{Asked}
use Rattle.kl1_stream.specs.Askings.{asked_in}
use Rattle.kl1_user_effects.specs.Account.{meaning}
use Rattle.kl1_user_account.proofs.given.asked_at.Goals as goal

pub returns-then-report-origin-clause-asked : goal.returns-then-report-origin-clause-asked
returns-then-report-origin-clause-asked c = λ f reads.
    let o = c.args.origin.now in
    ap (λ b. if◌then◌else◌ {A = Option Asked} b None (asked_in (meaning f c.args.store.now.held o.reports) (c.args.report - 1 - o.forgotten))) (le-leb c.args.report o.forgotten (omega (arith, c.if-report-origin.true)))

pub returns-clause-asked : goal.returns-clause-asked
returns-clause-asked c = λ f reads.
    let o = c.args.origin.now in
    ap (λ b. if◌then◌else◌ {A = Option Asked} b None (asked_in (meaning f c.args.store.now.held o.reports) (c.args.report - 1 - o.forgotten))) (lt-leb c.args.report o.forgotten (omega (arith, c.if-report-origin.false)))
    ∙ c.asked_at.ensures.asking f reads
