use Rattle.kl1_machine.proofs.Words.{refl, sym, ◌∙◌, Some, None, on_ok_weaker, resumed_of, goes_on_already, not-true, not-false, false, resumed_report}
use Rattle.kl1_machine.proofs.Hearing.{unmoved, halts, goes_as}
use Rattle.kl1_machine.proofs.machine.Machine.obey_start.Goals as goal

pub returns-in_default-clause-ok : goal.returns-in_default-clause-ok
returns-in_default-clause-ok c = unmoved (λ o. resumed_of o c.args.number) c.args.self.now c.args.number None c.requires.machine (sym c.lend.ensures.value ∙ (sym c.copied.ensures ∙ c.in_default.is)) (λ t s. refl)

pub returns-then-not-shoen-clause-ok : goal.returns-then-not-shoen-clause-ok
returns-then-not-shoen-clause-ok c =
    unmoved (λ o. resumed_of o c.args.number) c.args.self.now c.args.number (Some c.in-Some.shoen) c.requires.machine (sym c.lend.ensures.value ∙ (sym c.copied.ensures ∙ c.in-Some.is)) (goes_on_already c.in-Some.shoen c.args.number (not-true c.in-Some.shoen.is_stopped c.if-not-shoen.true))

pub returns-clause-ok : goal.returns-clause-ok
returns-clause-ok c =
    on_ok_weaker c.report_name.result
    (goes_as (λ o. resumed_of o c.args.number) c.args.self.now c.set_stopped.new.self c.report_name.new.self c.args.number false resumed_report c.in-Some.shoen (sym c.lend.ensures.value ∙ (sym c.copied.ensures ∙ c.in-Some.is)) (λ t s. rw (not-false c.in-Some.shoen.is_stopped c.if-not-shoen.false))
    (halts false c.args.self.now c.set_stopped.new.self c.args.number c.requires.machine c.in_ok-set_stopped.ensures.ok))
    c.report_name.ensures.ok
