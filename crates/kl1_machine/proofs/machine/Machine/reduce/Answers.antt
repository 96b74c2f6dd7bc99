use Rattle.kl1_machine.proofs.Words.{◌≡◌, length, refl, sym, ap, ◌∙◌, arith, subst, Some, None, MoveIn, taken_places, Plan, plan_reads, plan_moves, IsTaskIn, Machine, Trail, made, Since}
use Rattle.kl1_machine.proofs.Keeping.{keeps_then}
use Rattle.kl1_machine.proofs.Planned.{MayStep, found_holds, nothing_refused, full_refused}
use Rattle.kl1_machine.proofs.Reduced.{IsHeard, only_monitor, heard_reduces, charged_by}
use Rattle.kl1_machine.proofs.Resting.{still_lets}
use Rattle.kl1_machine.proofs.Sincing.{since_same, kept_after}
use Rattle.kl1_machine.proofs.Stepped.{IsChosen, moved_reduces, owned_by, let_by, stepped_publishes}
use Rattle.kl1_machine.proofs.machine.Machine.reduce.Given as given
use Rattle.kl1_machine.proofs.machine.Machine.reduce.Goals as goal
use Rattle.kl1_machine.proofs.machine.Machine.reduce.Goals.{In-Reads, In-Moves, In_ok-step_goal-in-Moves}

pub returns-in-Err-clause-ok : goal.returns-in-Err-clause-ok
returns-in-Err-clause-ok g c = (c.in-Err.ensures.refused c.args.modules.now c.args.is_full c.requires.rested.enabled, refl)

pub plan_of-requires-clause-task : goal.plan_of-requires-clause-task
plan_of-requires-clause-task g c =
    let m = c.args.self.now in
    found_holds (λ k. IsTaskIn m.store.held k.task) c.args.number m.goals.goals c.in-Ok.goal c.requires.rested.machine.inside.goals c.in-Ok.ensures.found.found

pub returns-in_default-clause-ok : goal.returns-in_default-clause-ok
returns-in_default-clause-ok g c =
    let m = c.args.self.now in
    let program = c.args.modules.now in
    let x = c.in-Ok.goal in
    let may : MayStep program m c.args.number c.args.clause x = record { rested = c.requires.rested; steppable = c.in-Ok.ensures.found } in
    (nothing_refused program c.args.is_full m c.args.number c.args.clause x may (rw c.in_default.is at (c.in_ok-plan.ensures (made m) (sym c.requires.rested.rules) refl)), refl)

pub returns-then-is_full-clause-ok : goal.returns-then-is_full-clause-ok
returns-then-is_full-clause-ok g c =
    let m = c.args.self.now in
    let program = c.args.modules.now in
    let x = c.in-Ok.goal in
    let places = taken_places c.plan_of.new.trial in
    let text = c.plan_of.new.trial.text in
    let may : MayStep program m c.args.number c.args.clause x = record { rested = c.requires.rested; steppable = c.in-Ok.ensures.found } in
    (full_refused program c.args.is_full m c.args.number c.args.clause x places text c.in-Some.plan may c.if-is_full.true (rw c.in-Some.is at (c.in_ok-plan.ensures (made m) (sym c.requires.rested.rules) refl)), refl)

-- ---- a monitor that reads

heard : (g : given.Over) (c : goal.In-Reads g) → IsHeard c.args.modules.now c.args.self.now c.args.number c.args.clause c.in-Ok.goal c.in-Reads.control
heard g c =
    let m = c.args.self.now in
    record {
      begun = c.requires.begun;
      rested = c.requires.rested;
      steppable = c.in-Ok.ensures.found;
      plan = plan_reads c.args.modules.now m.store.held (made m) c.in-Ok.goal c.args.clause (taken_places c.plan_of.new.trial) c.plan_of.new.trial.text _ c.in-Reads.control (c.in-Some.is ∙ ap (λ (q : Plan). Some q) c.in-Reads.is) (c.in_ok-plan.ensures (made m) (sym c.requires.rested.rules) refl);
    }

pub read-requires : goal.read-requires
read-requires g c =
    let m = c.args.self.now in
    let p = heard g (goal.at.read-requires g c).In-Reads in
    record {
      machine = c.requires.rested.machine;
      monitor = only_monitor c.args.number m.goals.goals c.in-Ok.goal c.shoens-single.ensures.single c.in-Ok.ensures.found.found p.plan.monitor;
      control = p.plan.inside;
    }

pub returns-in_ok-reschedule_anew-in-Reads : goal.returns-in_ok-reschedule_anew-in-Reads
returns-in_ok-reschedule_anew-in-Reads g c =
    let m = c.args.self.now in
    let u = c.read.new.self in
    let v = c.reschedule_anew.new.self in
    let read = c.in_ok-read-in-Reads.ensures in
    let again = c.in_ok-reschedule_anew-in-Reads.ensures in
    let since = read.since m (since_same m) in
    let names : v.names ≡ m.names = ap (λ (x : Machine). x.names) again.ok.rest ∙ ap (λ (x : Trail). x.names) since.keeps.trail in
    let name : v.name ≡ None = ap (λ (x : Machine). x.name) again.ok.rest ∙ read.ok.named.name ∙ c.requires.begun.name in
    let spelled : v.spelled ≡ None = ap (λ (x : Machine). x.spelled) again.ok.rest ∙ read.ok.named.spelled ∙ c.requires.begun.spelled in
    record {
      ok = heard_reduces c.args.modules.now m u v c.args.number c.args.clause c.in-Ok.goal c.in-Reads.control (heard g (goal.at.returns-in_ok-reschedule_anew-in-Reads g c).In-Reads) read.ok again.ok;
      rested = λ none. (
        again.rested m c.requires.begun since c.requires.rested,
        (record { name = rw name tt; last = rw spelled tt; has = λ e. spelled; small = rw names c.requires.small; room = rw names c.requires.room }),
      );
      room = λ none. c.if-is_full.false;
      charged = charged_by m u v since again.ok;
      keeps = keeps_then m u v since.keeps c.reschedule_anew.ensures.keeps;
    }

pub returns-in_err-reschedule_anew-in-Reads-clause-keeps : goal.returns-in_err-reschedule_anew-in-Reads-clause-keeps
returns-in_err-reschedule_anew-in-Reads-clause-keeps g c = kept_after c.args.self.now c.read.new.self c.reschedule_anew.new.self (c.in_ok-read-in-Reads.ensures.since c.args.self.now) c.reschedule_anew.ensures.keeps

pub returns-in_err-read-in-Reads-clause-keeps : goal.returns-in_err-read-in-Reads-clause-keeps
returns-in_err-read-in-Reads-clause-keeps g c = c.in_err-read-in-Reads.ensures.since c.args.self.now (since_same c.args.self.now)

-- ---- a move

abbrev chosen : (g : given.Over) (c : goal.In-Moves g) → IsChosen c.args.modules.now c.args.self.now c.args.number c.args.clause
chosen g c =
    let m = c.args.self.now in
    let places = taken_places c.plan_of.new.trial in
    let text = c.plan_of.new.trial.text in
    record {
      goal = c.in-Ok.goal;
      places = places;
      text = text;
      planned = c.in-Moves.planned;
      rested = c.requires.rested;
      alike = c.requires.alike;
      formed = c.requires.begun.formed;
      steppable = c.in-Ok.ensures.found;
      makes = plan_moves c.args.modules.now m.store.held (made m) c.in-Ok.goal c.args.clause places text _ c.in-Moves.planned (c.in-Some.is ∙ ap (λ (q : Plan). Some q) c.in-Moves.is) (c.in_ok-plan.ensures (made m) (sym c.requires.rested.rules) refl);
    }

pub step_goal-requires : goal.step_goal-requires
step_goal-requires g c =
    let m = c.args.self.now in
    let p = chosen g (goal.at.step_goal-requires g c).In-Moves in
    let r = p.makes.runnable in
    let removed = c.in_ok-remove-in-Moves.ensures.ok in
    let few = c.requires.few in
    let I : Machine → Type 0 = λ x. MoveIn x.store.held p.planned.located.predicate p.places p.text (Some p.planned.made) in
    let same : length c.remove.new.self.shoens.work ≡ length m.shoens.work = ap (λ (x : Machine). length x.shoens.work) removed.is in
    record {
      machine = removed.machine;
      none = ap (λ (x : Machine). x.name) removed.is ∙ c.requires.begun.name;
      unspelled = ap (λ (x : Machine). x.spelled) removed.is ∙ c.requires.begun.spelled;
      predicate = r.some;
      inside = subst I (sym removed.is) r.inside;
      cell = rw removed.is r.cell;
      owned = rw removed.is (owned_by c.args.modules.now m c.args.number c.args.clause p);
      level = c.in-Ok.ensures.level;
      lets = rw removed.is (let_by c.args.modules.now m c.args.number c.args.clause p);
      few = omega (arith, few, same);
    }

stepped : (g : given.Over) (c : goal.In_ok-step_goal-in-Moves g) → Since c.args.self.now c.step_goal.new.self
stepped g c =
    let m = c.args.self.now in
    let same : length c.remove.new.self.shoens.work ≡ length m.shoens.work = ap (λ (x : Machine). length x.shoens.work) c.in_ok-remove-in-Moves.ensures.ok.is in
    c.in_ok-step_goal-in-Moves.ensures.since m (omega (arith, same)) (c.in_ok-remove-in-Moves.ensures.since m (since_same m))

pub reschedule-requires : goal.reschedule-requires
reschedule-requires g c =
    let m = c.args.self.now in
    let program = c.args.modules.now in
    let p = chosen g (goal.at.reschedule-requires g c).In-Moves in
    let high = (owned_by program m c.args.number c.args.clause p).high in
    record {
      machine = c.in_ok-step_goal-in-Moves.ensures.ok.machine;
      lets = still_lets m c.step_goal.new.self p.goal.shoen (stepped g (goal.at.reschedule-requires g c).In_ok-step_goal-in-Moves) (omega (arith, high)) (let_by program m c.args.number c.args.clause p);
    }

pub returns-in_ok-reschedule-in-Moves : goal.returns-in_ok-reschedule-in-Moves
returns-in_ok-reschedule-in-Moves g c =
    let m = c.args.self.now in
    let program = c.args.modules.now in
    let u = c.step_goal.new.self in
    let v = c.reschedule.new.self in
    let p = chosen g (goal.at.returns-in_ok-reschedule-in-Moves g c).In-Moves in
    let since = stepped g (goal.at.returns-in_ok-reschedule-in-Moves g c).In_ok-step_goal-in-Moves in
    let steps = rw c.in_ok-remove-in-Moves.ensures.ok.is at c.in_ok-step_goal-in-Moves.ensures.ok in
    let again = c.in_ok-reschedule-in-Moves.ensures in
    let names : u.names ≡ m.names = ap (λ (x : Trail). x.names) since.keeps.trail in
    let ruled : u.rules ≡ m.rules = ap (λ (x : Trail). x.rules) since.keeps.trail in
    record {
      ok = moved_reduces program m u v c.args.number c.args.clause p steps again.ok;
      rested = λ none. (again.rested m c.requires.begun since c.requires.rested, stepped_publishes program m u v c.args.number c.args.clause p c.requires.small c.requires.room names ruled steps again.ok);
      room = λ none. c.if-is_full.false;
      charged = charged_by m u v since again.ok;
      keeps = keeps_then m u v since.keeps c.reschedule.ensures.keeps;
    }

pub returns-in_err-reschedule-in-Moves-clause-keeps : goal.returns-in_err-reschedule-in-Moves-clause-keeps
returns-in_err-reschedule-in-Moves-clause-keeps g c = keeps_then c.args.self.now c.step_goal.new.self c.reschedule.new.self (stepped g (goal.at.returns-in_err-reschedule-in-Moves-clause-keeps g c).In_ok-step_goal-in-Moves).keeps c.reschedule.ensures.keeps

pub returns-in_err-remove-in-Moves-clause-keeps : goal.returns-in_err-remove-in-Moves-clause-keeps
returns-in_err-remove-in-Moves-clause-keeps g c = c.in_err-remove-in-Moves.ensures.since c.args.self.now (since_same c.args.self.now)

pub returns-in_err-step_goal-in-Moves-clause-keeps : goal.returns-in_err-step_goal-in-Moves-clause-keeps
returns-in_err-step_goal-in-Moves-clause-keeps g c =
    let m = c.args.self.now in
    let same : length c.remove.new.self.shoens.work ≡ length m.shoens.work = ap (λ (x : Machine). length x.shoens.work) c.in_ok-remove-in-Moves.ensures.ok.is in
    c.in_err-step_goal-in-Moves.ensures.since m (omega (arith, same)) (c.in_ok-remove-in-Moves.ensures.since m (since_same m))
