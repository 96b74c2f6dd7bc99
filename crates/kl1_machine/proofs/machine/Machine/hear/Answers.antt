use Rattle.kl1_machine.proofs.Words.{on_ok_weaker}
use Rattle.kl1_machine.proofs.Ending.{as_none, unmonitored}
use Rattle.kl1_machine.proofs.Hearing.{same_held, told, told_other, broken_off}
use Rattle.kl1_machine.proofs.machine.Machine.hear.Goals as goal

pub returns-in-Awaits-clause-ok : goal.returns-in-Awaits-clause-ok
returns-in-Awaits-clause-ok c = rw c.in-Awaits.is (as_none c.args.self.now c.requires.machine)

pub set_control-requires-clause-inside : goal.set_control-requires-clause-inside
set_control-requires-clause-inside c = rw c.in-Tells.is at c.requires.control

pub set_control-requires-in-TellsOther-clause-inside : goal.set_control-requires-in-TellsOther-clause-inside
set_control-requires-in-TellsOther-clause-inside c = let j = rw c.in-TellsOther.is at c.requires.control in j.1

pub returns-in_ok-set_control-in-Tells-clause-ok : goal.returns-in_ok-set_control-in-Tells-clause-ok
returns-in_ok-set_control-in-Tells-clause-ok c =
    rw c.in-Tells.is (on_ok_weaker c.obey.result (told c.args.self.now c.set_control.new.self c.obey.new.self c.args.number c.in-Tells.message c.in-Tells.rest c.in_ok-set_control-in-Tells.ensures.ok) c.obey.ensures.ok)

pub raise_whole-requires : goal.raise_whole-requires
raise_whole-requires c =
    let b = c.in_ok-set_control-in-TellsOther.ensures.ok in
    let j = rw c.in-TellsOther.is at c.requires.control in
    record { machine = b.machine; goal = rw (same_held c.args.number c.in-TellsOther.rest c.args.self.now c.set_control-in-TellsOther.new.self b) j.0 }

pub returns-in_ok-set_control-in-TellsOther-clause-ok : goal.returns-in_ok-set_control-in-TellsOther-clause-ok
returns-in_ok-set_control-in-TellsOther-clause-ok c =
    rw c.in-TellsOther.is (on_ok_weaker c.raise_whole.result (told_other c.args.self.now c.set_control-in-TellsOther.new.self c.raise_whole.new.self c.args.number c.in-TellsOther.element c.in-TellsOther.rest c.in_ok-set_control-in-TellsOther.ensures.ok) c.raise_whole.ensures.ok)

pub returns-in-Ends-clause-ok : goal.returns-in-Ends-clause-ok
returns-in-Ends-clause-ok c = rw c.in-Ends.is (on_ok_weaker c.remove_monitor.result (unmonitored c.args.self.now c.remove_monitor.new.self c.args.number) c.remove_monitor.ensures.ok)

pub raise_whole-requires-in-BreaksOff : goal.raise_whole-requires-in-BreaksOff
raise_whole-requires-in-BreaksOff c =
    let b = c.in_ok-remove_monitor-in-BreaksOff.ensures.ok in
    record { machine = b.machine; goal = rw b.is (rw c.in-BreaksOff.is at c.requires.control) }

pub returns-in_ok-remove_monitor-in-BreaksOff-clause-ok : goal.returns-in_ok-remove_monitor-in-BreaksOff-clause-ok
returns-in_ok-remove_monitor-in-BreaksOff-clause-ok c =
    rw c.in-BreaksOff.is (on_ok_weaker c.raise_whole-in-BreaksOff.result (broken_off c.args.self.now c.remove_monitor-in-BreaksOff.new.self c.raise_whole-in-BreaksOff.new.self c.args.number c.in-BreaksOff.term c.in_ok-remove_monitor-in-BreaksOff.ensures.ok) c.raise_whole-in-BreaksOff.ensures.ok)
