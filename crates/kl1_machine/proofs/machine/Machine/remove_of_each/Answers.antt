use Rattle.kl1_machine.proofs.Words.{arith, refl}
use Rattle.kl1_machine.proofs.Hearing.{next_rid, last_rid}
use Rattle.kl1_machine.proofs.machine.Machine.remove_of_each.Goals as goal

pub loop-number-init : goal.loop-number-init
loop-number-init c = record { rid = record { goals = refl; rest = refl; machine = c.requires.machine }; since = λ b s. s }

pub loop-number-preserved : goal.loop-number-preserved
loop-number-preserved c =
    let i = c.loop-number.invariant in
    let one = c.in_ok-remove_all.ensures in
    record {
      rid = next_rid c.args.numbers.now c.loop-number.number-index c.args.self.now c.loop-number.self c.remove_all.new.self c.loop-number-test.true i.rid one.ok;
      since = λ b s. one.since b (i.since b s);
    }

pub returns-clause-ok : goal.returns-clause-ok
returns-clause-ok c = last_rid c.args.numbers.now c.loop-number.number-index c.args.self.now c.loop-number.self (omega (arith, c.loop-number-test.false)) c.loop-number.invariant.rid
