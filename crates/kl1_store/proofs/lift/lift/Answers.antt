use Rattle.std.proofs.Common.{◌≡◌, [], arith}
use Rattle.std.proofs.lemmas.List.{nil_from_length}
use Rattle.kl1_store.proofs.Lifting.{lifting_starts, lifting_goes_on, lifting_ends, task_inside}
use Rattle.kl1_store.proofs.lift.lift.Goals as goal

pub loop-task-init : goal.loop-task-init
loop-task-init g c =
    lifting_starts c.args.cells.now.held c.args.cell c.args.level c.args.levels.now c.clear.new.self.items c.push.new.self.items c.requires.levels c.requires.inside c.clear.ensures.items c.in_ok-push.ensures.items

pub lift_one-requires-clause-inside : goal.lift_one-requires-clause-inside
lift_one-requires-clause-inside g c = (task_inside c.args.cells.now.held c.loop-task.tasks.items c.pop.new.self.items c.in-Some.task c.loop-task.invariant.tasks c.in-Some.ensures.items).1

pub lift_one-requires-clause-tasks : goal.lift_one-requires-clause-tasks
lift_one-requires-clause-tasks g c = (task_inside c.args.cells.now.held c.loop-task.tasks.items c.pop.new.self.items c.in-Some.task c.loop-task.invariant.tasks c.in-Some.ensures.items).0

pub loop-task-smaller : goal.loop-task-smaller
loop-task-smaller g c =
    (lifting_goes_on c.args.cells.now.held c.args.cell c.args.level c.args.levels.now c.loop-task.levels c.lift_one.new.levels c.loop-task.tasks.items c.pop.new.self.items c.lift_one.new.tasks.items c.in-Some.task c.loop-task.invariant c.in-Some.ensures.items c.in_ok-lift_one.ensures).1

pub loop-task-preserved : goal.loop-task-preserved
loop-task-preserved g c =
    (lifting_goes_on c.args.cells.now.held c.args.cell c.args.level c.args.levels.now c.loop-task.levels c.lift_one.new.levels c.loop-task.tasks.items c.pop.new.self.items c.lift_one.new.tasks.items c.in-Some.task c.loop-task.invariant c.in-Some.ensures.items c.in_ok-lift_one.ensures).0

pub returns : goal.returns
returns g c =
    let e : c.loop-task.tasks.items ≡ [] = nil_from_length c.loop-task.tasks.items (omega (arith, c.loop-task.tasks.ok.0, c.in_default.ensures.cases.0)) in
    let r = lifting_ends c.args.cells.now.held c.args.cell c.args.level c.args.levels.now c.loop-task.levels c.loop-task.tasks.items c.loop-task.invariant e in
    record { levels = r.0; lifted = r.1 }
