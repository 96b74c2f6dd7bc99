use Rattle.kl1_machine.proofs.Words.{arith, refl, first_end}
use Rattle.kl1_machine.proofs.Ending.{next_walked, last_walked}
use Rattle.kl1_machine.proofs.machine.Machine.end_lives.Goals as goal

pub loop-at-init : goal.loop-at-init
loop-at-init c = record {
  walked = record { ends = first_end c.args.self.now.goals.goals c.args.self.now.shoens c.args.number c.clear.new.self.items c.clear.ensures.items; rest = refl; machine = c.requires.machine };
  since = λ b s. s;
}

pub loop-at-preserved : goal.loop-at-preserved
loop-at-preserved c =
    let i = c.loop-at.invariant in
    let one = c.in_ok-end_one.ensures in
    record {
      walked = next_walked c.args.self.now c.loop-at.self c.end_one.new.self c.args.number c.loop-at.at c.living_step-step.result.up c.loop-at.ending.items c.end_one.new.ending.items c.living_step-step.ensures.path i.walked one.ok;
      since = λ b s. one.since b (i.since b s);
    }

pub returns-clause-ok : goal.returns-clause-ok
returns-clause-ok c = last_walked c.args.self.now c.loop-at.self c.args.number c.loop-at.at c.loop-at.ending.items (omega (arith, c.loop-at-test.false)) c.loop-at.invariant.walked
