use Rattle.kl1_machine.proofs.Words.{arith, refl, ap, ◌∙◌}
use Rattle.kl1_machine.proofs.Emptying.{telling_only, tells_none, next_told, last_told}
use Rattle.kl1_machine.proofs.machine.Machine.tell_monitors.Goals as goal

pub loop-shoen-init : goal.loop-shoen-init
loop-shoen-init c = record { rest = refl; told = tells_none c.args.self.now }

pub loop-shoen-preserved : goal.loop-shoen-preserved
loop-shoen-preserved c =
    next_told c.args.shoens.now c.loop-shoen.shoen-index c.args.self.now c.loop-shoen.self c.tell_monitor.new.self c.loop-shoen-test.true c.loop-shoen.invariant c.in_ok-tell_monitor.ensures.rest c.in_ok-tell_monitor.ensures.told

pub returns-clause-rest : goal.returns-clause-rest
returns-clause-rest c = c.loop-shoen.invariant.rest

pub returns-clause-told : goal.returns-clause-told
returns-clause-told c = last_told c.args.shoens.now c.loop-shoen.shoen-index c.args.self.now c.loop-shoen.self (omega (arith, c.loop-shoen-test.false)) c.loop-shoen.invariant

pub returns-in_err-tell_monitor-clause-rest : goal.returns-in_err-tell_monitor-clause-rest
returns-in_err-tell_monitor-clause-rest c = c.in_err-tell_monitor.ensures.rest ∙ ap (telling_only c.tell_monitor.new.self.told) c.loop-shoen.invariant.rest
