use Rattle.kl1_machine.proofs.Words.{ℕ, ◌∙◌, arith, subst, on_ok_weaker, Variable, Grown-trans, Substitutes, asked, next_still, next_there, next_grown, Puts}
use Rattle.kl1_machine.proofs.Keeping.{grown_machine}
use Rattle.kl1_machine.proofs.Sincing.{since_same, since_store, since_back}
use Rattle.kl1_machine.proofs.Raising.{Asks, asks_task, raised_asked, raised_unasked}
use Rattle.kl1_machine.proofs.machine.Machine.raise_with_substitute.Goals as goal
use Rattle.kl1_machine.proofs.machine.Machine.raise_with_substitute.Goals.{In_ok-message}

pub exception_with-requires-clause-goal : goal.exception_with-requires-clause-goal
exception_with-requires-clause-goal c = next_still c.args.self.now.store.held c.fresh.new.self.held _ c.args.term c.in_ok-fresh.ensures.ok c.requires.term

pub exception_with-requires-clause-new : goal.exception_with-requires-clause-new
exception_with-requires-clause-new c = next_there c.args.self.now.store.held c.fresh.new.self.held _ c.in_ok-fresh.ensures.ok

-- the store has a new variable, and the message
asks : (c : In_ok-message) → Asks c.args.self.now c.exception_with.new.store c.args.goal c.args.kind c.args.term c.in_ok-message.message
asks c =
    let h = c.args.self.now.store.held in
    let n = c.fresh.new.self.held in
    let k = c.exception_with.new.store.held in
    let e = c.in_ok-message.ensures in
    let fresh = c.in_ok-fresh.ensures in
    record {
      machine = c.requires.machine;
      two = c.requires.rules;
      owned = c.requires.owned;
      asked = asked h n k c.args.kind c.args.term c.in_ok-message.message _ c.mark-mark.ensures.formed c.requires.term fresh.ok e.grown e.exception;
      grows = record { grown = Grown-trans h n k (next_grown h n _ fresh.ok) e.grown; hooks = e.hooks ∙ fresh.hooks };
    }

pub tell-requires-clause-machine : goal.tell-requires-clause-machine
tell-requires-clause-machine c = grown_machine c.args.self.now c.exception_with.new.store (asks (goal.at.tell-requires-clause-machine c).In_ok-message).grows c.requires.machine

-- ---- a report that is made

pub put-requires-clause-task : goal.put-requires-clause-task
put-requires-clause-task c =
    asks_task c.args.self.now c.exception_with.new.store c.args.goal c.args.kind c.args.term c.in_ok-message.message c.tell.new.self _ _ (asks (goal.at.put-requires-clause-task c).In_ok-message) c.in_ok-tell.ensures.ok c.in_ok-fresh.ensures.ok.0

pub put-requires-clause-shoen : goal.put-requires-clause-shoen
put-requires-clause-shoen c =
    let high = c.requires.owned.high in
    let count = c.in_ok-tell.ensures.ok.count in
    record { low = c.requires.owned.low; high = omega (arith, high, count) }

pub put-requires-clause-monitor : goal.put-requires-clause-monitor
put-requires-clause-monitor c = λ b. absurd (cc)

pub returns-then-branch-clause-ok : goal.returns-then-branch-clause-ok
returns-then-branch-clause-ok c =
    let m = c.args.self.now in
    let k = c.exception_with.new.store in
    let u = c.tell.new.self in
    let x = c.args.goal in
    let message = c.in_ok-message.message in
    let P : ℕ → Type 0 = λ v. Puts x.shoen x.priority (Substitutes (Variable v)) u c.put.new.self in
    let a = asks (goal.at.returns-then-branch-clause-ok c).In_ok-message in
    on_ok_weaker c.put.result (λ p. raised_asked m k x c.args.kind c.args.term message u c.put.new.self a (rw c.if-branch.true at c.in_ok-tell.ensures.ok) (subst P c.in_ok-fresh.ensures.ok.0 p)) c.put.ensures.ok

-- ---- a report that isn't

pub back-requires : goal.back-requires
back-requires c =
    let m = c.args.self.now in
    let a = asks (goal.at.back-requires c).In_ok-message in
    let s = c.in_ok-tell.ensures.since m (since_store m m c.exception_with.new.store a.grows (since_same m)) in
    (m.store, (c.mark-mark.ensures.point, (c.mark-mark.ensures.formed, s.keeps.grown)))

pub returns : goal.returns
returns c =
    let m = c.args.self.now in
    let k = c.exception_with.new.store in
    let u = c.tell.new.self in
    let a = asks (goal.at.returns c).In_ok-message in
    let t = c.in_ok-tell.ensures.since m (since_store m m k a.grows (since_same m)) in
    let held = c.back.ensures.held m.store c.mark-mark.ensures.point t.keeps.grown in
    let hooks = c.back.ensures.hooks m.store c.mark-mark.ensures.point t.keeps.grown in
    record {
      ok = raised_unasked m k c.args.goal c.args.kind c.args.term c.in_ok-message.message u c.back.new.self a (rw c.if-branch.false at c.in_ok-tell.ensures.ok) held hooks;
      since = λ b s. since_back b m u c.back.new.self held hooks s (c.in_ok-tell.ensures.since b (since_store b m k a.grows s));
    }
