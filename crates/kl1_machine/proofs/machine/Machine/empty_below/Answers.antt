use Rattle.kl1_machine.proofs.Emptying.{emptied_becomes, emptied_since, told_refused}
use Rattle.kl1_machine.proofs.machine.Machine.empty_below.Goals as goal

pub returns-clause-ok : goal.returns-clause-ok
returns-clause-ok c =
    emptied_becomes c.forget.result c.args.self.now c.tell_monitors.new.self c.forget.new.self c.args.number c.requires.machine c.in_ok-tell_monitors.ensures.rest (rw c.of.ensures at c.forget.ensures.ok)

pub returns-clause-since : goal.returns-clause-since
returns-clause-since c b =
    let m = c.args.self.now in
    emptied_since c.forget.result b m c.tell_monitors.new.self c.forget.new.self c.args.number c.as_slice.result.now (rw c.as_slice.ensures.value c.in_ok-below.ensures) c.requires.machine c.in_ok-tell_monitors.ensures.rest c.in_ok-tell_monitors.ensures.told
    (rw c.of.ensures at c.forget.ensures.ok) c.forget.ensures.err

pub returns-in_err-tell_monitors-clause-since : goal.returns-in_err-tell_monitors-clause-since
returns-in_err-tell_monitors-clause-since c b s =
    told_refused c.from_residual-in_err-tell_monitors.result b c.args.self.now c.tell_monitors.new.self c.from_residual-in_err-tell_monitors.ensures.0 c.in_err-tell_monitors.ensures.rest s
