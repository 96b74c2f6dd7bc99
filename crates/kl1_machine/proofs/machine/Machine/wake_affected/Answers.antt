use Rattle.kl1_machine.proofs.Words.{arith, refl}
use Rattle.kl1_machine.proofs.Looking.{looks_same, looks_machine}
use Rattle.kl1_machine.proofs.Waking.{wakes_more, wakes_all}
use Rattle.kl1_machine.proofs.machine.Machine.wake_affected.Goals as goal

pub loop-place-init : goal.loop-place-init
loop-place-init g c = record { looks = looks_same c.args.self.now; flags = refl; settles = λ f knows q all. all }

pub wake-requires : goal.wake-requires
wake-requires g c = record { machine = looks_machine c.args.self.now c.loop-place.self c.loop-place.invariant.looks c.requires.machine }

pub loop-place-preserved : goal.loop-place-preserved
loop-place-preserved g c =
    let l = c.loop-place in
    wakes_more c.args.calls.now.modules.now l.place c.index-number.result.now c.args.self.now l.self c.wake.new.self (omega (arith, c.loop-place-test.true, c.len-place-end.ensures)) l.invariant c.index-number.ensures c.in_ok-wake.ensures.ok

pub returns-clause-ok : goal.returns-clause-ok
returns-clause-ok g c =
    let l = c.loop-place in
    wakes_all c.args.calls.now.modules.now c.args.self.now.told.items l.place c.args.self.now l.self (omega (arith, c.loop-place-test.false, c.len-place-end.ensures)) l.invariant
