use Rattle.kl1_machine.proofs.Words.{refl, sym, ◌∙◌, Some, None, on_ok_weaker, stopped_of, is_stopped_already, true, stopped_report}
use Rattle.kl1_machine.proofs.Hearing.{unmoved, halts, goes_as}
use Rattle.kl1_machine.proofs.machine.Machine.obey_stop.Goals as goal

pub returns-in_default-clause-ok : goal.returns-in_default-clause-ok
returns-in_default-clause-ok c = unmoved (λ o. stopped_of o c.args.number) c.args.self.now c.args.number None c.requires.machine (sym c.lend.ensures.value ∙ (sym c.copied.ensures ∙ c.in_default.is)) (λ t s. refl)

pub returns-then-shoen-clause-ok : goal.returns-then-shoen-clause-ok
returns-then-shoen-clause-ok c =
    unmoved (λ o. stopped_of o c.args.number) c.args.self.now c.args.number (Some c.in-Some.shoen) c.requires.machine (sym c.lend.ensures.value ∙ (sym c.copied.ensures ∙ c.in-Some.is)) (is_stopped_already c.in-Some.shoen c.args.number c.if-shoen.true)

pub returns-clause-ok : goal.returns-clause-ok
returns-clause-ok c =
    on_ok_weaker c.report_name.result
    (goes_as (λ o. stopped_of o c.args.number) c.args.self.now c.set_stopped.new.self c.report_name.new.self c.args.number true stopped_report c.in-Some.shoen (sym c.lend.ensures.value ∙ (sym c.copied.ensures ∙ c.in-Some.is)) (λ t s. rw c.if-shoen.false)
    (halts true c.args.self.now c.set_stopped.new.self c.args.number c.requires.machine c.in_ok-set_stopped.ensures.ok))
    c.report_name.ensures.ok
