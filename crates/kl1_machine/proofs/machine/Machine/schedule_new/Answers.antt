use Rattle.kl1_machine.proofs.Words.{◌≡◌, suc, ◌+◌, ap, ◌∙◌, arith, is_enabled_at, Machine}
use Rattle.kl1_machine.proofs.Looking.{looks_same, looks_machine}
use Rattle.kl1_machine.proofs.Scheduling.{schedules_then, schedules_less}
use Rattle.kl1_machine.proofs.machine.Machine.schedule_new.Goals as goal

pub loop-number-init : goal.loop-number-init
loop-number-init g c = record { low = omega arith; looks = record { looks = looks_same c.args.self.now; settles = λ f knows all. all; flags = λ b low all. all } }

pub schedule-requires-clause-machine : goal.schedule-requires-clause-machine
schedule-requires-clause-machine g c = looks_machine c.args.self.now c.loop-number.self c.loop-number.invariant.looks.looks c.requires.machine

pub schedule-requires-clause-lets : goal.schedule-requires-clause-lets
schedule-requires-clause-lets g c = ap (λ (x : Machine). is_enabled_at x.shoens.shoens x.shoens.work c.args.running) c.loop-number.invariant.looks.looks.rest ∙ c.requires.lets

pub loop-number-preserved : goal.loop-number-preserved
loop-number-preserved g c =
    let l = c.loop-number in
    let m = c.args.self.now in
    let low = l.invariant.low in
    let next : l.number + 1 ≡ suc l.number = omega arith in
    record {
      low = omega (arith, low);
      looks = schedules_then c.args.calls.now.modules.now m.begun.last_goal l.number (l.number + 1) m l.self c.schedule.new.self low l.invariant.looks (c.in_ok-schedule.ensures.ok l.number next);
    }

pub returns-clause-ok : goal.returns-clause-ok
returns-clause-ok g c =
    let l = c.loop-number in
    let m = c.args.self.now in
    schedules_less c.args.calls.now.modules.now m.begun.last_goal l.number c.args.last m l.self (omega (arith, c.loop-number-test.false)) l.invariant.looks
