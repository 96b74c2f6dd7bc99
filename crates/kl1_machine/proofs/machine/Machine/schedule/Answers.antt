use Rattle.kl1_machine.proofs.Words.{map, sym, ap, ◌∙◌, option_copied, on_ok_weaker, looked_at, IsTaskIn}
use Rattle.kl1_goals.specs.Lists.{has_number}
use Rattle.kl1_machine.proofs.Looking.{found_holds}
use Rattle.kl1_machine.proofs.Sincing.{goals_are}
use Rattle.kl1_machine.proofs.Scheduling.{schedules_one, schedules_none}
use Rattle.kl1_machine.proofs.machine.Machine.schedule.Goals as goal

pub judge-requires-clause-task : goal.judge-requires-clause-task
judge-requires-clause-task g c = let m = c.args.self.now in found_holds (λ x. IsTaskIn m.store.held x.task) (has_number c.args.number) m.goals.goals c.in-Some.goal.now c.requires.machine.inside.goals c.in-Some.ensures.goal

pub returns-in_default-clause-ok : goal.returns-in_default-clause-ok
returns-in_default-clause-ok g c n next = schedules_none c.args.calls.now.modules.now c.args.self.now n c.args.number next (ap option_copied (sym c.in_default.is) ∙ c.lend.ensures.goal)

pub returns-clause-ok : goal.returns-clause-ok
returns-clause-ok g c j next =
    let m = c.args.self.now in
    let p = c.args.calls.now.modules.now in
    let k = c.judge.new.store in
    let e = c.in_ok-standing.ensures in
    let n = c.args.number in
    let x = c.in-Some.goal.now in
    let o = c.in_ok-standing.standing in
    let may = c.may_step-is_enabled.result in
    on_ok_weaker c.look.result
    (λ is. rw (goals_are m.goals c.look.new.self (map (looked_at n o may) m.goals.goals) c.look.ensures.rest is)
    (schedules_one p m k j n x o may next (record { order = c.lend.ensures.order; found = c.in-Some.ensures.goal; number = c.in-Some.ensures.number; held = e.held; grown = e.grown; ready = e.ready }) c.may_step-is_enabled.ensures))
    c.look.ensures.ok
