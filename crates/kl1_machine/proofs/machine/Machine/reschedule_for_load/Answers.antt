use Rattle.kl1_machine.proofs.Words.{sym, ◌∙◌, with_last, ap, Machine, trail_of}
use Rattle.kl1_machine.proofs.Looking.{looks_machine}
use Rattle.kl1_machine.proofs.Reaching.{reaches_zero, reaches_next, reaches_all, looks_reschedule}
use Rattle.kl1_machine.proofs.machine.Machine.reschedule_for_load.Goals as goal

pub loop-goal-init : goal.loop-goal-init
loop-goal-init g c = reaches_zero (with_last c.args.modules.now c.args.loaded.now) c.args.self.now c.wake_beside.new.self c.in_ok-wake_beside.ensures.ok

pub returns-clause-ok : goal.returns-clause-ok
returns-clause-ok g c = looks_reschedule c.args.self.now c.loop-goal.self c.requires.machine c.loop-goal.invariant.looks

pub returns-clause-settled : goal.returns-clause-settled
returns-clause-settled g c = reaches_all (with_last c.args.modules.now c.args.loaded.now) c.loop-goal.number c.args.self.now c.loop-goal.self (sym c.in_default.is ∙ c.after.ensures.goal) c.loop-goal.invariant

pub returns-clause-keeps : goal.returns-clause-keeps
returns-clause-keeps g c = let l = c.loop-goal.invariant.looks in record { grown = l.grown; trail = ap (λ (x : Machine). trail_of x) l.rest }

pub wake_beside-requires-in-Some-clause-machine : goal.wake_beside-requires-in-Some-clause-machine
wake_beside-requires-in-Some-clause-machine g c = looks_machine c.args.self.now c.loop-goal.self c.loop-goal.invariant.looks c.requires.machine

pub loop-goal-preserved : goal.loop-goal-preserved
loop-goal-preserved g c =
    let l = c.loop-goal in
    let x = c.in-Some.ensures in
    reaches_next (with_last c.args.modules.now c.args.loaded.now) l.number c.in-Some.goal c.args.self.now l.self c.wake_beside-in-Some.new.self x.order x.goal l.invariant c.in_ok-wake_beside-2.ensures.ok
