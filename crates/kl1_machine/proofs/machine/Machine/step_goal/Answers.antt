use Rattle.kl1_machine.proofs.Words.{sym, ap, subst, Some, ◌∙◌, arith, on_ok_weaker, MoveIn, taken_places, Machine}
use Rattle.kl1_machine.proofs.Calm.{calm_after}
use Rattle.kl1_machine.proofs.Late.{comes_early, within_then}
use Rattle.kl1_machine.proofs.Moving.{tried, RunsAs, runs}
use Rattle.kl1_machine.proofs.Naming.{marked, still_free}
use Rattle.kl1_machine.proofs.Resting.{still_lets}
use Rattle.kl1_machine.proofs.Sincing.{since_same}
use Rattle.kl1_machine.proofs.Stepping.{steps_bound, steps_run}
use Rattle.kl1_machine.proofs.machine.Machine.step_goal.Goals as goal
use Rattle.kl1_machine.proofs.machine.Machine.step_goal.Goals.{In_ok-apply_move-in-Does}

pub use_name-requires-clause-none : goal.use_name-requires-clause-none
use_name-requires-clause-none c = ap (λ (x : Machine). x.name) c.in_ok-charge.ensures.ok.is ∙ c.requires.none

pub use_name-requires-clause-inside : goal.use_name-requires-clause-inside
use_name-requires-clause-inside c = rw c.in_ok-charge.ensures.ok.is (λ a e. rw e at c.requires.inside)

-- ---- a variable that becomes a name

pub end_path-requires-clause-within : goal.end_path-requires-clause-within
end_path-requires-clause-within c =
    let p = c.in-Becomes.ensures.ok in
    rw p.is p.can.within

pub bind_spare-requires-clause-within : goal.bind_spare-requires-clause-within
bind_spare-requires-clause-within c = within_then (Some c.in-Becomes.variable) c.charge.new.self c.end_path.new.self c.in-Becomes.ensures.ok.can.within (λ s. c.in_ok-end_path-in-Becomes.ensures.since c.charge.new.self (c.use_name.ensures.since c.charge.new.self s))

pub bind_spare-requires-clause-free : goal.bind_spare-requires-clause-free
bind_spare-requires-clause-free c =
    let p = c.in-Becomes.ensures.ok in
    still_free c.in-Becomes.variable c.charge.new.self c.use_name.new.self c.end_path.new.self p.can.unbound (ap (λ (x : Machine). x.store.held) p.is) c.in_ok-end_path-in-Becomes.ensures.ok.free

pub returns-in_ok-end_path-in-Becomes-clause-ok : goal.returns-in_ok-end_path-in-Becomes-clause-ok
returns-in_ok-end_path-in-Becomes-clause-ok c =
    let m = c.args.self.now in
    let d = c.use_name.new.self in
    let n = c.args.goal.now.shoen in
    let v = c.in-Becomes.variable in
    let a = tried c.args.predicate c.args.made c.args.trial.now in
    let marks = marked a n v m c.charge.new.self d _ c.requires.none c.requires.machine c.in_ok-charge.ensures.ok c.in-Becomes.ensures.ok in
    on_ok_weaker c.bind_spare.result (steps_bound a c.args.goal.now c.args.cell m d c.end_path.new.self c.bind_spare.new.self v marks c.in_ok-end_path-in-Becomes.ensures.ok) c.bind_spare.ensures.ok

-- ---- a move by which none does

pub apply_move-requires : goal.apply_move-requires
apply_move-requires c =
    let charges = c.in_ok-charge.ensures.ok in
    let places = taken_places c.args.trial.now in
    let stands = c.in-Does.ensures.ok c.args.predicate places in
    let I : Machine → Type 0 = λ x. MoveIn x.store.held c.args.predicate places c.args.trial.now.text (Some c.args.made) in
    record {
      machine = stands.machine;
      nameless = stands.nameless;
      predicate = c.requires.predicate;
      inside = stands.inside (subst I (sym charges.is) c.requires.inside);
      cell = rw (stands.is, charges.is) c.requires.cell;
      owned = rw (stands.is, charges.is) c.requires.owned;
      level = c.requires.level;
    }

pub is_calm-requires : goal.is_calm-requires
is_calm-requires c =
    let m = c.args.self.now in
    let high = c.requires.owned.high in
    still_lets m c.apply_move.new.self c.args.goal.now.shoen (c.in_ok-apply_move-in-Does.ensures.since m (c.use_name.ensures.since m (c.in_ok-charge.ensures.since m (omega arith) (since_same m)))) (omega (arith, high)) c.requires.lets

-- the move is made, after the charge
ran : (c : In_ok-apply_move-in-Does) → RunsAs (tried c.args.predicate c.args.made c.args.trial.now) c.args.goal.now c.args.cell c.args.self.now c.apply_move.new.self
ran c =
    let a = tried c.args.predicate c.args.made c.args.trial.now in
    runs a c.in-Does.found c.args.goal.now c.args.cell c.args.self.now c.charge.new.self c.use_name.new.self c.apply_move.new.self _ c.in_ok-charge.ensures.ok (c.in-Does.ensures.ok c.args.predicate a.places) c.in_ok-apply_move-in-Does.ensures.ok

pub returns-then-is_calm-clause-ok : goal.returns-then-is_calm-clause-ok
returns-then-is_calm-clause-ok c =
    let u = c.apply_move.new.self in
    let calm = c.if-is_calm.true in
    steps_run _ c.args.goal.now c.args.cell c.args.self.now u u c.requires.unspelled (ran (goal.at.returns-then-is_calm-clause-ok c).In_ok-apply_move-in-Does)
    (calm_after u c.args.goal.now.shoen c.in_ok-apply_move-in-Does.ensures.ok.machine (c.is_calm.ensures.lives calm) (λ ending. c.is_calm.ensures.unreached ending calm))

pub returns-else-is_calm-clause-ok : goal.returns-else-is_calm-clause-ok
returns-else-is_calm-clause-ok c =
    let did = ran (goal.at.returns-else-is_calm-clause-ok c).In_ok-apply_move-in-Does in
    let n = c.args.goal.now.shoen in
    let u = c.apply_move.new.self in
    let v = c.end_path-in-Does.new.self in
    on_ok_weaker c.end_path-in-Does.result (λ ends. steps_run _ c.args.goal.now c.args.cell c.args.self.now u v c.requires.unspelled did (comes_early u v n ends)) c.end_path-in-Does.ensures.ok
