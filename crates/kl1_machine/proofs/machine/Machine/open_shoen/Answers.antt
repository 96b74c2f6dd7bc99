use Rattle.kl1_machine.proofs.Words.{true, false, arith, ne_eqb, eq-eqb, on_ok_weaker, report, started_report, exhausted_report}
use Rattle.kl1_machine.proofs.Ending.{as_then}
use Rattle.kl1_machine.proofs.Opening.{opened}
use Rattle.kl1_machine.proofs.machine.Machine.open_shoen.Goals as goal

pub returns-then-shoen-ne0-clause-ok : goal.returns-then-shoen-ne0-clause-ok
returns-then-shoen-ne0-clause-ok c =
    let h = c.args.shoen in
    opened h c.args.goal c.args.self.now c.join.new.self c.report_name.new.self false (ne_eqb h.allowance 0 (λ z. omega (arith, c.if-shoen-ne0.true, z))) c.in_ok-join.ensures.ok c.in_ok-report_name.ensures.ok

pub returns-clause-ok : goal.returns-clause-ok
returns-clause-ok c =
    let h = c.args.shoen in
    let u = c.join.new.self in
    let w = c.report_name-2.new.self in
    on_ok_weaker c.report_name-2.result
    (λ last. opened h c.args.goal c.args.self.now u w true (eq-eqb h.allowance 0 (omega (arith, c.if-shoen-ne0.false))) c.in_ok-join.ensures.ok
    (as_then (λ f. report h.number started_report) (λ f. report h.number exhausted_report) u c.report_name.new.self w c.in_ok-report_name.ensures.ok last))
    c.report_name-2.ensures.ok

pub returns-then-shoen-ne0-clause-plain : goal.returns-then-shoen-ne0-clause-plain
returns-then-shoen-ne0-clause-plain c f g one two shoen cell p = c.in_ok-report_name.ensures.plain f g one two (c.in_ok-join.ensures.plain f g shoen cell p)
