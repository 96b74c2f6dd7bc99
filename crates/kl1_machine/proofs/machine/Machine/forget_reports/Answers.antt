use Rattle.kl1_machine.proofs.Words.{on_ok_weaker}
use Rattle.kl1_machine.specs.Rescheduling.{Reschedules}
use Rattle.kl1_machine.proofs.Sincing.{since_same, kept_after}
use Rattle.kl1_machine.proofs.machine.Machine.forget_reports.Goals as goal

pub returns-clause-ok : goal.returns-clause-ok
returns-clause-ok g c =
    on_ok_weaker c.reschedule_anew.result (λ (r : Reschedules c.leave_reports.new.self c.reschedule_anew.new.self). record { after = c.leave_reports.new.self; becomes = c.in_ok-leave_reports.ensures.ok; reschedules = r }) c.reschedule_anew.ensures.ok

pub returns-clause-rested : goal.returns-clause-rested
returns-clause-rested g c = c.reschedule_anew.ensures.rested c.args.self.now c.requires.begun (c.in_ok-leave_reports.ensures.since c.args.self.now (since_same c.args.self.now)) c.requires.rested

pub returns-clause-keeps : goal.returns-clause-keeps
returns-clause-keeps g c = kept_after c.args.self.now c.leave_reports.new.self c.reschedule_anew.new.self (c.in_ok-leave_reports.ensures.since c.args.self.now) c.reschedule_anew.ensures.keeps

pub returns-in_err-leave_reports-clause-keeps : goal.returns-in_err-leave_reports-clause-keeps
returns-in_err-leave_reports-clause-keeps g c = c.in_err-leave_reports.ensures.since c.args.self.now (since_same c.args.self.now)
