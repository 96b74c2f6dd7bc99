use Rattle.kl1_machine.proofs.Words.{on_ok_weaker}
use Rattle.kl1_machine.specs.Rescheduling.{Reschedules}
use Rattle.kl1_machine.proofs.Sincing.{since_same, kept_after}
use Rattle.kl1_machine.proofs.machine.Machine.forget.Goals as goal

pub returns-clause-ok : goal.returns-clause-ok
returns-clause-ok g c =
    on_ok_weaker c.reschedule_anew.result (λ (r : Reschedules c.empty_below.new.self c.reschedule_anew.new.self). record { after = c.empty_below.new.self; becomes = c.in_ok-empty_below.ensures.ok; reschedules = r }) c.reschedule_anew.ensures.ok

pub returns-clause-rested : goal.returns-clause-rested
returns-clause-rested g c = c.reschedule_anew.ensures.rested c.args.self.now c.requires.begun (c.in_ok-empty_below.ensures.since c.args.self.now (since_same c.args.self.now)) c.requires.rested

pub returns-clause-keeps : goal.returns-clause-keeps
returns-clause-keeps g c = kept_after c.args.self.now c.empty_below.new.self c.reschedule_anew.new.self (c.in_ok-empty_below.ensures.since c.args.self.now) c.reschedule_anew.ensures.keeps

pub returns-in_err-empty_below-clause-keeps : goal.returns-in_err-empty_below-clause-keeps
returns-in_err-empty_below-clause-keeps g c = c.in_err-empty_below.ensures.since c.args.self.now (since_same c.args.self.now)
