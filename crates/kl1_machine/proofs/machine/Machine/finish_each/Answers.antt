use Rattle.kl1_machine.proofs.Words.{arith, finished_late, finished_each_late}
use Rattle.kl1_machine.proofs.Late.{late_none, finishes_more, next_late, all_late, within_then}
use Rattle.kl1_machine.proofs.machine.Machine.finish_each.Goals as goal

pub loop-number-init : goal.loop-number-init
loop-number-init c = record { late = late_none c.args.late c.args.self.now c.requires.machine; since = λ b s. s }

pub finish-requires-clause-within : goal.finish-requires-clause-within
finish-requires-clause-within c = within_then c.args.late c.args.self.now c.loop-number.self c.requires.within (c.loop-number.invariant.since c.args.self.now)

pub loop-number-preserved : goal.loop-number-preserved
loop-number-preserved c =
    let i = c.loop-number.invariant in
    let one = c.in_ok-finish.ensures in
    record {
      late = next_late (finished_each_late c.args.late) (finished_late c.args.late) (finishes_more c.args.late) c.args.self.now c.loop-number.self c.finish.new.self c.args.late c.args.numbers.now c.loop-number.number-index c.loop-number-test.true i.late one.ok;
      since = λ b s. one.since b (i.since b s);
    }

pub returns-clause-ok : goal.returns-clause-ok
returns-clause-ok c = all_late (finished_each_late c.args.late) c.args.self.now c.loop-number.self c.args.late c.args.numbers.now c.loop-number.number-index (omega (arith, c.loop-number-test.false)) c.loop-number.invariant.late
