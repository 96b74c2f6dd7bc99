use Rattle.kl1_machine.proofs.Words.{on_ok_weaker}
use Rattle.kl1_machine.proofs.Looking.{looks_machine}
use Rattle.kl1_machine.proofs.Resting.{told_machine, lets_looked, steps_reschedule, steps_rested}
use Rattle.kl1_machine.proofs.machine.Machine.reschedule.Goals as goal

pub wake_affected-requires : goal.wake_affected-requires
wake_affected-requires g c = record { machine = told_machine c.args.self.now c.tell_bound.new.self c.in_ok-tell_bound.ensures.rest c.requires.machine }

pub schedule_new-requires-clause-machine : goal.schedule_new-requires-clause-machine
schedule_new-requires-clause-machine g c =
    let t = c.tell_bound.new.self in
    looks_machine t c.wake_affected.new.self c.in_ok-wake_affected.ensures.ok.looks (told_machine c.args.self.now t c.in_ok-tell_bound.ensures.rest c.requires.machine)

pub schedule_new-requires-clause-lets : goal.schedule_new-requires-clause-lets
schedule_new-requires-clause-lets g c = lets_looked c.args.self.now c.tell_bound.new.self c.wake_affected.new.self c.shoen_that_lets-lets.result c.in_ok-tell_bound.ensures.rest c.in_ok-wake_affected.ensures.ok.looks c.shoen_that_lets-lets.ensures

pub returns-clause-ok : goal.returns-clause-ok
returns-clause-ok g c =
    on_ok_weaker c.shift.result
    (λ s.
    steps_reschedule c.args.calls.now.modules.now c.args.self.now c.tell_bound.new.self c.wake_affected.new.self c.schedule_new.new.self c.shift.new.self c.requires.machine
    (record { told = c.in_ok-tell_bound.ensures.all; tells = c.in_ok-tell_bound.ensures.rest; wakes = c.in_ok-wake_affected.ensures.ok; schedules = c.in_ok-schedule_new.ensures.ok; shifts = s }))
    c.shift.ensures.ok

pub returns-clause-rested : goal.returns-clause-rested
returns-clause-rested g c b begun since rested =
    on_ok_weaker c.shift.result
    (λ s.
    steps_rested c.args.calls.now.modules.now b c.args.self.now c.tell_bound.new.self c.wake_affected.new.self c.schedule_new.new.self c.shift.new.self begun since c.requires.machine rested
    (record { told = c.in_ok-tell_bound.ensures.all; tells = c.in_ok-tell_bound.ensures.rest; wakes = c.in_ok-wake_affected.ensures.ok; schedules = c.in_ok-schedule_new.ensures.ok; shifts = s }))
    c.shift.ensures.ok
