use Rattle.kl1_machine.proofs.Words.{on_ok_weaker, goal_of, change_of}
use Rattle.kl1_machine.proofs.Bringing.{brings_rescheduled}
use Rattle.kl1_machine.proofs.Keeping.{keeps_then}
use Rattle.kl1_machine.proofs.Sincing.{since_same}
use Rattle.kl1_machine.proofs.machine.Machine.bring.Goals as goal

pub returns : goal.returns
returns g c =
    let m = c.args.self.now in
    let z = c.args.brought.now in
    let put = c.in_ok-put_brought.ensures in
    let s = put.since m (since_same m) in
    record {
      ok = on_ok_weaker c.reschedule_anew.result (brings_rescheduled (change_of z) (goal_of z) c.args.numbers.now m c.put_brought.new.self c.reschedule_anew.new.self put.ok) c.reschedule_anew.ensures.ok;
      rested = c.reschedule_anew.ensures.rested m c.requires.begun s c.requires.rested;
      keeps = keeps_then m c.put_brought.new.self c.reschedule_anew.new.self s.keeps c.reschedule_anew.ensures.keeps;
    }

pub returns-in_err-put_brought-clause-keeps : goal.returns-in_err-put_brought-clause-keeps
returns-in_err-put_brought-clause-keeps g c = let m = c.args.self.now in c.in_err-put_brought.ensures.since m (since_same m)
