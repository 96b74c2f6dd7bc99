use Rattle.kl1_machine.proofs.Words.{sym, ◌∙◌, with_last, IsTaskIn}
use Rattle.kl1_goals.specs.Lists.{has_number}
use Rattle.kl1_machine.proofs.Looking.{found_holds}
use Rattle.kl1_machine.proofs.Waking.{wakes_one, wakes_none}
use Rattle.kl1_machine.proofs.machine.Machine.wake_beside.Goals as goal

pub judge_beside-requires-clause-task : goal.judge_beside-requires-clause-task
judge_beside-requires-clause-task g c = let m = c.args.self.now in found_holds (λ x. IsTaskIn m.store.held x.task) (has_number c.args.number) m.goals.goals c.in-Some.goal c.requires.machine.inside.goals c.in-Some.ensures.goal

pub returns-in_default-clause-ok : goal.returns-in_default-clause-ok
returns-in_default-clause-ok g c = wakes_none (with_last c.args.modules.now c.args.loaded.now) c.args.self.now c.args.number (sym c.in_default.is ∙ c.get.ensures.goal)

pub returns-clause-ok : goal.returns-clause-ok
returns-clause-ok g c =
    let e = c.in_ok-standing.ensures in
    wakes_one c.set_standing.result (with_last c.args.modules.now c.args.loaded.now) c.args.self.now c.judge_beside.new.store c.set_standing.new.self c.args.number c.in-Some.goal c.in_ok-standing.standing
    (record { order = c.get.ensures.order; found = c.in-Some.ensures.goal; number = c.in-Some.ensures.number; held = e.held; grown = e.grown; ready = e.ready }) c.set_standing.ensures.rest c.set_standing.ensures.ok
