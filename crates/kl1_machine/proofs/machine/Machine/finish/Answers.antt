use Rattle.kl1_machine.proofs.Words.{◌∙◌, on_ok_weaker, close}
use Rattle.kl1_machine.proofs.Ending.{none_left}
use Rattle.kl1_machine.proofs.Late.{late_left, late_finished, late_unclosed, late_else, within_then}
use Rattle.kl1_machine.proofs.machine.Machine.finish.Goals as goal

pub leave-requires-clause-monitor : goal.leave-requires-clause-monitor
leave-requires-clause-monitor c = rw c.in_ok-remove_monitor.ensures.ok.is (none_left c.args.number c.args.self.now.goals.goals)

pub report_late-requires-clause-within : goal.report_late-requires-clause-within
report_late-requires-clause-within c =
    let m = c.args.self.now in
    within_then c.args.late m c.leave.new.self c.requires.within (λ s. c.in_ok-leave.ensures.since m (c.in_ok-remove_monitor.ensures.since m s))

pub returns-then-is_late-clause-ok : goal.returns-then-is_late-clause-ok
returns-then-is_late-clause-ok c =
    let m = c.args.self.now in
    let l = c.leave.new.self in
    let u = c.report_late.new.self in
    let n = c.args.number in
    let v = c.args.late in
    let told = c.in_ok-report_late.ensures.ok in
    late_finished m l u u n v (late_left m c.remove_monitor.new.self l n v c.in_ok-remove_monitor.ensures.ok c.in_ok-leave.ensures.ok) told
    (late_unclosed u n v told.does.machine (λ f. c.is_late.ensures f ∙ c.if-is_late.true))

pub returns-clause-ok : goal.returns-clause-ok
returns-clause-ok c =
    let m = c.args.self.now in
    let l = c.leave.new.self in
    let u = c.report_late.new.self in
    let n = c.args.number in
    let v = c.args.late in
    let within = within_then v m u c.requires.within (λ s. c.in_ok-report_late.ensures.since m (c.in_ok-leave.ensures.since m (c.in_ok-remove_monitor.ensures.since m s))) in
    on_ok_weaker c.close.result (late_finished m l u c.close.new.self n v (late_left m c.remove_monitor.new.self l n v c.in_ok-remove_monitor.ensures.ok c.in_ok-leave.ensures.ok) c.in_ok-report_late.ensures.ok)
    (late_else c.close.result u c.close.new.self n v (λ s. s) (λ s. close n s) within (λ f. c.is_late.ensures f ∙ c.if-is_late.false) c.close.ensures.ok c.close.ensures.free)
