use Rattle.std.proofs.Common.{◌≡◌, ◌-◌, ◌&&◌, Bool, ap, ◌∙◌, arith}
use Rattle.std.proofs.lemmas.Bool.{le-ltb, lt-ltb}
use Rattle.kl1_stream.specs.Letting.{may_leave}
use Rattle.kl1_user_effects.specs.Account.{meaning}
use Rattle.kl1_user_account.proofs.ForgetSteps.{leaves_by}
use Rattle.kl1_user_account.proofs.forgettable.left_of.Goals as goal

pub returns-then-count-origin : goal.returns-then-count-origin
returns-then-count-origin c = λ f reads.
    ap (λ b. b && may_leave c.args.lives (c.args.count - c.args.origin.now.forgotten) (meaning f c.args.store.now.held c.args.origin.now.reports)) (le-ltb c.args.origin.now.forgotten c.args.count (omega (arith, c.if-count-origin.true)))

pub returns : goal.returns
returns c =
    leaves_by c.args.store.now.held c.args.origin.now c.args.lives c.args.count c.without_reports.result (lt-ltb c.args.origin.now.forgotten c.args.count (omega (arith, c.if-count-origin.false))) c.without_reports.ensures.inside c.without_reports.ensures.goes
