use Rattle.kl1_machine.proofs.Words.{◌≡◌, true, false, refl, sym, ◌∙◌, append-nil, ends_in}
use Rattle.kl1_machine.proofs.machine.Machine.end_one.Goals as goal

pub returns-then-not-ends_now-clause-ok : goal.returns-then-not-ends_now-clause-ok
returns-then-not-ends_now-clause-ok c =
    let m = c.args.self.now in
    let so : ends_in m.goals.goals m.shoens.shoens c.args.number ≡ false = sym c.ends_now.ensures ∙ c.if-not-ends_now.true in
    record { one = record { ending_is = rw so (sym (append-nil c.args.ending.now.items)); tree_is = rw so }; rest = refl; machine = c.requires.machine }

pub returns-clause-ok : goal.returns-clause-ok
returns-clause-ok c =
    let m = c.args.self.now in
    let so : ends_in m.goals.goals m.shoens.shoens c.args.number ≡ true = sym c.ends_now.ensures ∙ c.if-not-ends_now.false in
    let ends = c.in_ok-end.ensures.ok in
    let machine = rw ends.is at ends.machine in
    rw ends.is (record { one = record { ending_is = rw so c.in_ok-push.ensures.items; tree_is = rw so }; rest = refl; machine = machine })
